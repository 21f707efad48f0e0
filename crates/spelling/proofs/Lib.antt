-- Texts put one behind the other, what a loop has left to put, digits, and that numbers can be read back.
pub mod Puts
pub mod Left
mod Turns
mod Digits
pub mod Apart
