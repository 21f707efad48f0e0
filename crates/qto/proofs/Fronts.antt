-- An area whose first n words are lent on, and come back.
use Rattle.std.proofs.Common.{◌≡◌, ℕ, ◌-◌, ◌*◌, ◌/◌, ◌≤◌, List, ◌++◌, length, take, drop, replicate, ap, ◌∙◌, arith, length-take-le}
use lib.Seq.{length_front}
use borrow.Rule.Slice.PartMut.{Post-is, post_of}
use Rattle.ids.specs.Lent.{cleared}
use Rattle.vertices.specs.Areas.{work_words}

same : (n : ℕ) → n - 0 ≡ n
same n = omega arith

-- the index of the rows is the front of the work words
pub index_in : (f i : ℕ) → 5 * (i / 3) ≤ work_words f i
index_in f i = omega arith

pub front_exact : (n m : ℕ) (t : List ℕ) → m ≡ n → n ≤ length t → length (take (m - 0) t) ≡ n
front_exact n m t e h = ap (λ (k : ℕ). length (take k t)) (same m ∙ e) ∙ length-take-le n t h

front_kept : (n : ℕ) (t new : List ℕ) → length new ≡ length (take (n - 0) t) → length (new ++ post_of 0 (n - 0) t) ≡ length t
front_kept n t new e =
    ap (λ (l : List ℕ). length (new ++ l)) (Post-is 0 n t (omega arith))
    ∙ length_front t new n (e ∙ ap (λ (k : ℕ). length (take k t)) (same n))

-- and no shorter than it was
pub still_long : (n m : ℕ) (t new : List ℕ) → length new ≡ length (take (n - 0) t) → m ≤ length t → m ≤ length (new ++ post_of 0 (n - 0) t)
still_long n m t new e h = let kept = front_kept n t new e in omega (arith, kept, h)

pub front_cleared : (n m : ℕ) (t new : List ℕ) → m ≡ n → new ≡ replicate n 0 → new ++ post_of 0 (m - 0) t ≡ cleared n t
unfolding cleared
front_cleared n m t new e h =
    ap (λ (l : List ℕ). l ++ post_of 0 (m - 0) t) h
    ∙ ap (λ (l : List ℕ). replicate n 0 ++ l) (Post-is 0 m t (omega arith) ∙ ap (λ (k : ℕ). drop k t) e)
