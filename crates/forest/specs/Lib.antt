-- What the words of the piece count's area mean. No definition of document 01 is here, and nothing that a reader has to believe.
pub mod inner
