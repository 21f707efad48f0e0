-- The number and the words of a record.
pub mod Numbered
