-- What only the contracts of this crate's own functions speak of: nobody has to believe it.
pub mod Rows
pub mod Counts
pub mod Table
pub mod Words
