-- How the listing is spelt: names and numbers.
pub mod Text
pub mod inner
