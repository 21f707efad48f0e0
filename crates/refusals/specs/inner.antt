-- What only the contracts of functions speak of, here and in `qto`: nobody has to believe it.
pub mod Admitted
