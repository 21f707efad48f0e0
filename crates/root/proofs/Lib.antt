-- Laws that two proofs of this crate share.
pub mod Range
