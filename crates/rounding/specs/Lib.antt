-- The definitions are those of `ieee`.
pub mod inner
