-- The listing: its lines, what comes back, that it can be read back, and the cube's.
pub mod Listing
pub mod Lists
pub mod Legible
pub mod Cube
pub mod inner
