-- What the contracts of `floats` cite, one idea a file, over both formats; `Nearest`, `Integer` and `Whole` say what
-- that is worth to a reader, `Answers` that it leaves no choice, and `Examples` tries each on a few values. `WholeNumber` is demand 3's,
-- `Number` the glove's.
-- A conversion to an integer is the model's own `to_signed` or `to_unsigned`, a pattern its `to_bits` and `of_bits`.
pub mod Magnitude
pub mod Order
pub mod Integral
pub mod Whole
pub mod Rounded
pub mod Root
pub mod Integer
pub mod SameInteger
pub mod WholeNumber
pub mod Number
pub mod Nearest
pub mod Cube
pub mod Answers
pub mod Single
pub mod Double
pub mod Examples
pub mod inner
