-- From keys in words to an entry more.
pub mod Codes
pub mod Words
pub mod Entries
mod Search
