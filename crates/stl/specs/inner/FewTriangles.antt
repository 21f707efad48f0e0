-- An answer that leaves room for its number. The C forms count on it: that each answer is so is proved.
use Rattle.std.specs.Prelude.{ℕ, ◌≤◌, Result, Ok, Err}
use Rattle.ids.specs.declared.refusal.Refusal.{Refusal}
use Rattle.stl.specs.Reading.{most_large}

unfoldable pub FewTriangles : Result ℕ Refusal → Type 0
FewTriangles (Ok n) = n ≤ most_large
FewTriangles (Err refusal) = Unit {0}
