-- What holds of any two calls on the road: from records that agree to outcomes, flags, words and the C form.
pub mod Agree
pub mod Best
pub mod Outcomes
pub mod Flags
pub mod Numbered
