-- What the verdict says case by case, as document 01 lists it; that each comes exactly where its meaning holds; where the ids stand in
-- the lent area; and that it does not see a mesh turned inside out.
pub mod Meaning
pub mod Means
mod Parts
pub mod Reversed
