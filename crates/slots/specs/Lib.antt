-- No definition of document 01 is here.
pub mod inner
