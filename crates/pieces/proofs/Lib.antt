-- Answer is of the contract alone; the others lead from what the passes leave to the number of the groups.
pub mod Answer
mod Joining
mod Roots
