-- Laws of tables whatever they hold, of those that count uses, and of areas: cleared in front, or lent to just the words needed.
pub mod Search
pub mod Turn
pub mod Sums
pub mod Probe
pub mod Used
pub mod Largest
pub mod Signed
pub mod Counts
pub mod Tally
pub mod Cleared
pub mod Words
