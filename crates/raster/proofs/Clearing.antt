-- A raster that is cleared: it is zero, and nothing tells that a part of its front was lent before. Assumes nothing.
use Rattle.std.proofs.Common.{◌≡◌, ℕ, ◌+◌, ◌-◌, ◌≤◌, List, length, drop, sym, ap, ◌∙◌, arith, drop-drop}
use borrow.Rule.Slice.PartMut.{mid_of, put_mid, mid_len, drop_put}
use Rattle.ids.specs.Lent.{cleared}

-- what is the same from e on is the same from m on
same_behind : (m e : ℕ) (s t : List ℕ) → e ≤ m → drop e s ≡ drop e t → drop m s ≡ drop m t
same_behind m e s t l q =
    let w : e + (m - e) ≡ m = omega arith in rw (← w)
    (sym (drop-drop (m - e) e s) ∙ ap (λ (r : List ℕ). drop (m - e) r) q ∙ drop-drop (m - e) e t)

-- a part of the front is back, with other bytes in it
pub cleared_back : (m e : ℕ) (t new : List ℕ) → e ≤ m → e ≤ length t → length new ≡ length (mid_of 0 (e - 0) t)
    → cleared m (put_mid 0 (e - 0) t new) ≡ cleared m t
unfolding cleared
cleared_back m e t new l h k = rw (same_behind m e (put_mid 0 (e - 0) t new) t l (drop_put 0 e t new (omega arith) h (k ∙ mid_len 0 e t h)))
