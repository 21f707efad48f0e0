-- The two programs for people: what they print for every input, and what is proved of that.
pub mod Program
pub mod StlText
pub mod Place
pub mod Promises
pub mod Glove
pub mod Cube
pub mod inner
