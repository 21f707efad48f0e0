-- Sides and Joins are for whoever asks for passes; the others lead to what a pass leaves settled.
pub mod Sides
pub mod Joins
mod Search
mod Rows
mod Passes
