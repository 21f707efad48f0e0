-- The laws of floats, over both formats, that the proofs of functions and other crates cite. A folder a subject, a file an idea.
pub mod Numbers
pub mod Patterns
pub mod Values
pub mod Order
pub mod Integers
pub mod Nearest
pub mod Answers
pub mod Examples
