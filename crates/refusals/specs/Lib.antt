-- The table of refusals (01, 02): its rows, and what it says of a mesh and of the lent areas.
pub mod Refusals
pub mod inner
