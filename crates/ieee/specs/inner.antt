-- What only the contracts of private functions and the laws of proofs/ speak of: nobody has to believe it.
pub mod Fields
pub mod Wholes
