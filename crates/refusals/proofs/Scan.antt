-- The test of all floats, one at a time: what is found of those in front, and the rest, make up the answer. Assumes nothing.
use mathlib.Core.Path.{◌≡◌, refl, sym, ◌∙◌, ap}
use mathlib.Core.Bool.{Bool, true, false, ◌&&◌}
use Prim.Native.Nat.{ℕ, ◌+◌, ◌≤◌, ◌<◌}
use native.Mathlib.Numerals.{add-one}
use mathlib.Core.List.{List}
use lib.ListN.{length, get_or, drop, drop_of_length-le}
use lib.Seq.{drop-cons}
use lib.Ieee.{Float, nan}
use Rattle.sums.specs.Fine.{fine, all_fine}

one_more : (vs : List Float) (i : ℕ) → i < length vs → all_fine (drop i vs) ≡ (fine (get_or vs i nan) && all_fine (drop (i + 1) vs))
unfolding all_fine
one_more vs i h = ap all_fine (drop-cons vs i nan h) ∙ ap (λ (k : ℕ). fine (get_or vs i nan) && all_fine (drop k vs)) (sym (add-one i))

and_assoc : (a b c : Bool) → ((a && b) && c) ≡ (a && (b && c))
and_assoc true b c = refl
and_assoc false b c = refl

and_true : (a : Bool) → (a && true) ≡ a
and_true true = refl
and_true false = refl

pub fine_next : (vs : List Float) (i : ℕ) (front found b : Bool) → i < length vs → found ≡ fine (get_or vs i nan)
    → (front && all_fine (drop i vs)) ≡ b
    → ((front && found) && all_fine (drop (i + 1) vs)) ≡ b
fine_next vs i front found b h e k =
    rw e (and_assoc front (fine (get_or vs i nan)) (all_fine (drop (i + 1) vs)) ∙ sym (ap (λ (a : Bool). front && a) (one_more vs i h)) ∙ k)

pub fine_end : (vs : List Float) (i : ℕ) (front b : Bool) → length vs ≤ i → (front && all_fine (drop i vs)) ≡ b → front ≡ b
unfolding all_fine
fine_end vs i front b h k = sym (ap (λ (a : List Float). front && all_fine a) (drop_of_length-le vs {i = i} h) ∙ and_true front) ∙ k
