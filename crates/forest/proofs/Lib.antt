-- The laws of words, labels and roots; those of words and labels are cited by the piece count too.
pub mod Words
pub mod Labels
mod Roots
