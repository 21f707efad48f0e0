-- An area whose first words were cleared: they are 0, also in a part that starts the area. Assumes nothing.
use mathlib.Core.Path.{◌≡◌, ap, ◌∙◌}
use mathlib.Core.List.{List}
use Prim.Native.Nat.{ℕ, ◌<◌}
use lib.ListN.{get_or, take, drop, replicate, length-replicate, get_or-replicate, get_or-append}
use lib.Seq.{get_or-take}
use Rattle.ids.specs.Lent.{cleared}

module _ (k m : ℕ) (t u : List ℕ) (is : u ≡ cleared k t) where
  pub front_zero : (x : ℕ) → x < k → x < m → get_or (take m u) x 0 ≡ 0
  unfolding cleared
  front_zero x l b =
      get_or-take m u x 0 b ∙ ap (λ (v : List ℕ). get_or v x 0) is
      ∙ get_or-append (replicate k 0) (drop k t) 0 x (rw length-replicate l) ∙ get_or-replicate {A = ℕ} k x 0 0 l
