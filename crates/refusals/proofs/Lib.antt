-- The table by its tests, and the test of all floats one at a time.
pub mod Checks
mod Scan
