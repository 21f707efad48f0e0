-- What only the contracts of this crate's own functions speak of: nobody has to believe it.
pub mod Centred
pub mod Edges
pub mod Sized
