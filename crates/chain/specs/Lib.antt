-- The contracts of the four routines that 000 has on ids alone, and the numbers of their answers. What they answer is defined in `ids`.
pub mod Answers
pub mod Numbers
