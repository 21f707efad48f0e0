-- The complete answer of the piece count (Answer) and its number (Numbers); what pieces are is defined in `ids`.
pub mod Answer
pub mod Numbers
pub mod inner
