-- Floats that are whole numbers: differences and products, order, conversions; the floor as an integer; and what a conversion of any float
-- is worth.
pub mod Sums
pub mod Order
pub mod Floats
pub mod Floors
pub mod Worth
