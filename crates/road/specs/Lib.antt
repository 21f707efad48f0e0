-- Two calls on the road through the definitions: what agrees at its stations, in the outcomes of `compute`, and in those of its C form.
pub mod Agree
pub mod Replaced
pub mod Stations
pub mod Numbered
