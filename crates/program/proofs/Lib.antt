-- What callees give, what a file that was read and an answer of compute print; what printing is worth; the lent areas suffice.
mod Given
mod Answered
mod Held
mod StlHeld
pub mod Printed
pub mod Suffice
pub mod NotFinite
pub mod Place
pub mod StlPromises
pub mod Written
pub mod Glove
pub mod Cube
