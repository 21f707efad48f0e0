-- Ids that are welded and then turned inside out are those that are turned and then welded. Assumes nothing.
use Rattle.std.proofs.Common.{◌≡◌, ℕ, Bool, true, false, cond, List, refl}
use lib.Ieee.{Float}
use Rattle.ids.specs.Reversed.{reversed}
use Rattle.ids.proofs.Reversed.{reversed_map}
use Rattle.weld.specs.Weld.{inverse, weld_id, weld_all, unwelded, welded}

all_reversed : (vs : List Float) (inv : Float) (ids : List ℕ) → weld_all vs inv (reversed ids) ≡ reversed (weld_all vs inv ids)
unfolding weld_all
all_reversed vs inv = reversed_map (weld_id vs inv) (weld_all vs inv) refl (λ i l. refl)

pub welded_reversed : (vs : List Float) (ids : List ℕ) (ε : Float) → welded vs (reversed ids) ε ≡ reversed (welded vs ids ε)
unfolding welded
welded_reversed vs ids ε = go (unwelded vs ε)
  where
    go : (b : Bool) → cond b (reversed ids) (weld_all vs (inverse ε) (reversed ids)) ≡ reversed (cond b ids (weld_all vs (inverse ε) ids))
    go true = refl
    go false = all_reversed vs (inverse ε) ids
