-- The glove (02, A9): records and rows turned over, the law over what `compute` and its C form promise, also in 02's words, the stations on
-- the road, and the routines on ids.
pub mod Turned
pub mod Glove
pub mod Says
pub mod Stations
pub mod Numbered
pub mod Ids
