-- The chain, by whether there are enough ids. Assumes nothing.
use mathlib.Core.Path.{◌≡◌}
use mathlib.Core.Bool.{true, false}
use mathlib.Core.List.{List, []}
use Prim.Native.Nat.{ℕ}
use lib.ListN.{length}
use Rattle.ids.specs.Triangles.{over_triangles}
use Rattle.ids.specs.EdgeChain.{enough, around, chain}

pub chain_all : (ids : List ℕ) → enough (length ids) ≡ true → chain ids ≡ over_triangles around ids
unfolding chain
chain_all ids e = rw e

pub chain_none : (ids : List ℕ) → enough (length ids) ≡ false → chain ids ≡ []
unfolding chain
chain_none ids e = rw e
