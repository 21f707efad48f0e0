-- Why a mesh turned inside out has its record turned over: from the sums and the rows to the answers of `compute`.
pub mod Rows
pub mod Record
pub mod Glove
pub mod Says
pub mod Stations
pub mod Flags
pub mod Numbered
pub mod Ids
