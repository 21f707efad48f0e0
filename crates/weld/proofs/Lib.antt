-- From the whole table to the ids; and ids that are turned inside out.
mod Mapping
pub mod Reversed
