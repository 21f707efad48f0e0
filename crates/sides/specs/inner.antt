-- What only internal contracts speak of: nobody has to believe it.
pub mod Joins
pub mod Sides
pub mod Passes
