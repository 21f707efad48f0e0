-- From keys as numbers to one triangle more, what a reader of the buckets needs to know, and keys negated.
pub mod Keys
mod Codes
pub mod Buckets
pub mod Gathering
pub mod Plain
pub mod Opposite
