-- What one area more does to the buckets: which keys there are, what each has, and how many they are. Assumes nothing.
use Rattle.std.proofs.Common.{◌≡◌, ◌+◌, ◌≤◌, Bool, true, false, cond, ◌||◌, ◌≢◌, List, [], ◌∷◌, length, sym, refl, ◌∙◌, true≢false, arith}
use lib.Ieee.{Float}
use Rattle.ids.proofs.Same.{three_eq, three_refl}
use Rattle.ieee.specs.Single.{◌⊕◌, nought}
use Rattle.ieee.specs.SameInteger.{same_integer}
use Rattle.slots.proofs.Codes.{by}
use Rattle.cells.proofs.Codes.{integer_eq, integer_refl}
use Rattle.surfaces.specs.declared.Key.{Key}
use Rattle.surfaces.specs.Surfaces.{same_key, Bucket, add_area, rows}
use Rattle.surfaces.specs.Keys.{area_for, has_key, Apart, AllAreas}

-- ---- `same_key` is equality

pub key_eq : (k l : Key) → same_key k l ≡ true → k ≡ l
unfolding same_key
key_eq k l h = three_eq same_integer integer_eq (λ x y z. record { x = x; y = y; z = z }) h

pub key_refl : (k : Key) → same_key k k ≡ true
unfolding same_key
key_refl k = three_refl same_integer integer_refl k.x k.y k.z

pub key_same : (k l : Key) → k ≡ l → same_key k l ≡ true
key_same k l e = rw e (key_refl l)

pub key_ne : (k l : Key) → l ≢ k → same_key k l ≡ false
key_ne k l ne = by (same_key k l) (λ h. absurd (ne (sym (key_eq k l h)))) (λ h. h)

pub key_differs : (k l : Key) → same_key k l ≡ false → same_key l k ≡ false
key_differs k l h = by (same_key l k) (λ e. absurd (true≢false (sym (key_same k l (sym (key_eq l k e))) ∙ h))) (λ e. e)

-- ---- the area of each key

pub area_put : (k l : Key) (a : Float) (bs : List Bucket)
    → area_for k (add_area l a bs) ≡ cond (same_key k l) (area_for k bs ⊕ a) (area_for k bs)
unfolding area_for add_area
area_put k l a [] = refl
area_put k l a (b ∷ bs) = by (same_key l b.key)
    (λ h. rw (h, key_eq l b.key h) (by (same_key k b.key) (λ e. rw e) (λ e. rw e)))
    (λ h. rw h (by (same_key k b.key)
    (λ e. let o : same_key k l ≡ false = rw (key_eq k b.key e) (key_differs l b.key h) in rw (e, o))
    (λ e. rw e (area_put k l a bs))))

-- ---- which keys there are

or_again : (p q : Bool) → p || q ≡ p || (p || q)
or_again true q = refl
or_again false q = refl

or_swap : (p q r : Bool) → p || (q || r) ≡ q || (p || r)
or_swap true true r = refl
or_swap true false r = refl
or_swap false true r = refl
or_swap false false r = refl

-- the key, and those that there were
pub has_put : (k l : Key) (a : Float) (bs : List Bucket) → has_key l (add_area k a bs) ≡ same_key l k || has_key l bs
unfolding has_key add_area
has_put k l a [] = refl
has_put k l a (b ∷ bs) = by (same_key k b.key)
    (λ h. rw (h, key_eq k b.key h) (or_again (same_key l b.key) (has_key l bs)))
    (λ h. rw (h, has_put k l a bs) (or_swap (same_key l b.key) (same_key l k) (has_key l bs)))

-- they stay apart
pub apart_put : (k : Key) (a : Float) (bs : List Bucket) → Apart bs → Apart (add_area k a bs)
unfolding Apart add_area has_key
apart_put k a [] w = (refl, tt)
apart_put k a (b ∷ bs) w = by (same_key k b.key)
    (λ h. rw h w)
    (λ h. rw h (has_put k b.key a bs ∙ rw (key_differs k b.key h) w.0, apart_put k a bs w.1))

-- ---- how many

pub length_put_le : (k : Key) (a : Float) (bs : List Bucket) → length (add_area k a bs) ≤ length bs + 1
unfolding add_area
length_put_le k a [] = omega arith
length_put_le k a (b ∷ bs) = by (same_key k b.key) (λ h. rw h (omega arith)) (λ h. rw h (omega (arith, length_put_le k a bs)))

pub length_rows : (bs : List Bucket) → length (rows bs) ≡ length bs
unfolding rows
length_rows [] = refl
length_rows (b ∷ bs) = omega (arith, length_rows bs)

-- ---- what every area has: Q after one area more, if P before

module _ (P Q : Float → Type 0) (still : (x : Float) → P x → Q x) where
  pub areas_still : (bs : List Bucket) → AllAreas P bs → AllAreas Q bs
  unfolding AllAreas
  areas_still [] w = tt
  areas_still (b ∷ bs) w = (still b.area w.0, areas_still bs w.1)

  pub put_all : (k : Key) (a : Float) → ((x : Float) → P x → Q (x ⊕ a)) → Q (nought ⊕ a)
      → (bs : List Bucket) → AllAreas P bs → AllAreas Q (add_area k a bs)
  unfolding AllAreas add_area
  put_all k a more one [] w = (one, tt)
  put_all k a more one (b ∷ bs) w =
      by (same_key k b.key)
      (λ h. rw h (more b.area w.0, areas_still bs w.1))
      (λ h. rw h (still b.area w.0, put_all k a more one bs w.1))
