-- Elements of which no two are joined: each is a group of its own. Assumes nothing.
use mathlib.Core.Path.{◌≡◌, refl}
use mathlib.Core.Bool.{Bool, true, false}
use mathlib.Core.List.{List, [], ◌∷◌, map}
use Prim.Native.Nat.{ℕ, zero, suc, ◌<◌}
use native.Mathlib.Omega.{arith}
use lib.ListN.{length}
use Rattle.ids.specs.Pieces.{any, touched, apart, groups, those}

module _ {A : Type 0} (joined : A → A → Bool) where
  -- t is joined to none of these
  abbrev pub Unjoined : A → List A → Type 0
  Unjoined t [] = Unit {0}
  Unjoined t (u ∷ us) = (joined t u ≡ false) × Unjoined t us

  -- and so it is with each of these and those behind it
  abbrev pub AllApart : List A → Type 0
  AllApart [] = Unit {0}
  AllApart (t ∷ ts) = Unjoined t ts × AllApart ts

  abbrev alone : A → List A
  alone t = t ∷ []

  none_touched : (t : A) (us : List A) → Unjoined t us → touched (joined t) (map alone us) ≡ []
  unfolding touched any
  none_touched t [] h = refl
  none_touched t (u ∷ us) h = rw (h.0, none_touched t us h.1)

  all_apart : (t : A) (us : List A) → Unjoined t us → apart (joined t) (map alone us) ≡ map alone us
  unfolding apart any
  all_apart t [] h = refl
  all_apart t (u ∷ us) h = rw (h.0, all_apart t us h.1)

  groups_alone : (ts : List A) → AllApart ts → groups joined ts ≡ map alone ts
  unfolding groups
  groups_alone [] h = refl
  groups_alone (t ∷ ts) h = rw (groups_alone ts h.1, none_touched t ts h.0, all_apart t ts h.0)

  length_alone : (ts : List A) → length (map alone ts) ≡ length ts
  length_alone [] = refl
  length_alone (t ∷ ts) = omega (arith, length_alone ts)

  pub as_many_groups : (ts : List A) → AllApart ts → length (groups joined ts) ≡ length ts
  as_many_groups ts h = rw (groups_alone ts h) (length_alone ts)

-- ---- the numbers below n, all of which pass

abbrev pub down : ℕ → List ℕ
down zero = []
down (suc n) = n ∷ down n

pub length_down : (n : ℕ) → length (down n) ≡ n
length_down zero = refl
length_down (suc n) = omega (arith, length_down n)

pub those_all : (p : ℕ → Bool) (n : ℕ) → ((t : ℕ) → t < n → p t ≡ true) → those p n ≡ down n
unfolding those
those_all p zero h = refl
those_all p (suc n) h = rw (h n (omega arith), those_all p n (λ t l. h t (omega arith)))

unjoined_down : (joined : ℕ → ℕ → Bool) (s n : ℕ) → ((u : ℕ) → u < n → joined s u ≡ false) → Unjoined joined s (down n)
unjoined_down joined s zero h = tt
unjoined_down joined s (suc n) h = (h n (omega arith), unjoined_down joined s n (λ u l. h u (omega arith)))

pub apart_down : (joined : ℕ → ℕ → Bool) (n : ℕ) → ((s u : ℕ) → s < n → u < s → joined s u ≡ false) → AllApart joined (down n)
apart_down joined zero h = tt
apart_down joined (suc n) h =
    (unjoined_down joined n n (λ u l. h n u (omega arith) l), apart_down joined n (λ s u ls lu. h s u (omega arith) lu))
