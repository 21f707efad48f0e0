-- The record, its zero form, its flags, and names and numbers for each of its enums.
pub mod Record
pub mod Flags
pub mod Kept
pub mod Numbers
pub mod Names
