-- The chain by the number of ids; a cleared part as an empty table.
pub mod Chain
mod Cleared
