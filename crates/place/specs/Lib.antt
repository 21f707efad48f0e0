-- Demand 3: its premise, the statement over what `compute` and its C form promise, the stations on the road, and an example. What agrees is
-- said in `road`.
pub mod Moved
pub mod Place
pub mod Numbered
pub mod Stations
pub mod Example
