-- From one step to the table of all edges, and from its rows to their count.
pub mod Triangles
pub mod Tally
mod Gathering
mod Tested
