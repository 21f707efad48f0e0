-- Whether two integers are one: keys of normals and cells of a weld are compared by it.
use Rattle.std.specs.Prelude.{Bool, false, eqb, ℤ, pos, negsuc}

unfoldable pub same_integer : ℤ → ℤ → Bool
same_integer (pos m) (pos n) = eqb m n
same_integer (pos m) (negsuc n) = false
same_integer (negsuc m) (pos n) = false
same_integer (negsuc m) (negsuc n) = eqb m n
