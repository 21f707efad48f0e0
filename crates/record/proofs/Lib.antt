-- What the flags leave alone; document 01's numbers for the defects name them.
pub mod Numbers
pub mod Kept
