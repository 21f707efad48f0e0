-- The prism and its pairs, by their parts.
mod Prisms
