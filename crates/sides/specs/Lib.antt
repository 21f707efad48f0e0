-- What the labels, slots and sides of the piece count mean. No definition of a document is here, and nothing that a reader has to believe.
pub mod inner
