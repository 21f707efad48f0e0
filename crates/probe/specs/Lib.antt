-- What the differential runs ask of the port, in the words of the definitions.
pub mod inner
