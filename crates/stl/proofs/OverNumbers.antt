-- Lists of one length, one behind the other: how long they are together, and what stands where. Assumes nothing.
use mathlib.Core.Path.{◌≡◌, ◌∙◌}
use mathlib.Core.List.{List, ◌++◌}
use Prim.Native.Nat.{ℕ, zero, suc, ◌+◌, ◌*◌, ◌≤◌, ◌<◌}
use native.Mathlib.Nat.{mul-le-mul_left}
use native.Mathlib.Omega.{arith}
use native.Mathlib.Decide.{dec_lt}
use lib.ListN.{length, get_or, length-append, get_or-append}
use lib.Seq.{get_or-append-add}
use Rattle.ids.specs.Triangles.{over_numbers}

module _ {A : Type 0} (f : ℕ → List A) (k : ℕ) where
  -- each of the first n has k members
  abbrev pub EachHas : ℕ → Type 0
  EachHas n = (t : ℕ) → t < n → length (f t) ≡ k

  pub order_length : (n : ℕ) → EachHas n → length (over_numbers f n) ≡ k * n
  unfolding over_numbers
  order_length zero each = omega arith
  order_length (suc n) each =
      omega (arith, length-append (over_numbers f n) (f n), order_length n (λ t l. each t (omega arith)), each n (omega arith))

  -- one list more: what stood before it stays, and behind that stands the list
  one_more : (d : A) (n : ℕ) → length (over_numbers f n) ≡ k * n → (t j : ℕ) → t < suc n → j < k
      → (t < n → get_or (over_numbers f n) (k * t + j) d ≡ get_or (f t) j d)
      → Dec (t < n) → get_or (over_numbers f n ++ f n) (k * t + j) d ≡ get_or (f t) j d
  one_more d n long t j lt lj before (yes l) =
      let next : k * (t + 1) ≤ k * n = mul-le-mul_left k (omega arith) in
      get_or-append (over_numbers f n) (f n) d (k * t + j) (omega (arith, long, next)) ∙ before l
  one_more d n long t j lt lj before (no nl) =
      let e : t ≡ n = omega arith in
      rw (e, ← long) (get_or-append-add (over_numbers f n) (f n) j d)

  -- the j-th of list t
  pub order_at : (d : A) (n : ℕ) → EachHas n → (t j : ℕ) → t < n → j < k → get_or (over_numbers f n) (k * t + j) d ≡ get_or (f t) j d
  unfolding over_numbers
  order_at d zero each t j lt lj = absurd (omega arith)
  order_at d (suc n) each t j lt lj =
      let sooner : EachHas n = λ t l. each t (omega arith) in
      one_more d n (order_length n sooner) t j lt lj (λ l. order_at d n sooner t j l lj) (dec_lt t n)
