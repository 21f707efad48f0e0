-- Fronts of records, where everything stands, what reading gives; the format from the writer's side, what writing gives; there and back;
-- the C forms.
mod Fronts
mod Endings
mod Layouts
mod Gives
pub mod Most
pub mod One
pub mod Bounds
pub mod Accepts
pub mod AcceptsOnly
mod Puts
pub mod Writes
pub mod Flags
pub mod RoundTrip
pub mod Numbers
