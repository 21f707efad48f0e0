-- A text put behind another is the two put as one; nothing, and a byte, put. Assumes nothing.
use mathlib.Core.Path.{◌≡◌, sym, ap, ◌∙◌}
use mathlib.Core.List.{List, [], ◌∷◌, ◌++◌, append_assoc}
use Prim.Native.Nat.{ℕ, ◌+◌, ◌≤◌, ◌<◌}
use native.Mathlib.Omega.{arith}
use native.Mathlib.Nat.{add_assoc, add-zero}
use native.Mathlib.Numerals.{add-one}
use lib.ListN.{length, take, drop, set, get_or, length-append, length-drop, take-append-drop}
use lib.Seq.{paste, paste-suc, take-length, take_at, drop_at, drop-drop, length-take-le, set_split}
use Rattle.spelling.specs.inner.Steps.{written, PutsText}

-- ---- one text behind another

front : (at : ℕ) (a t : List ℕ) → at ≤ length t → length (take at t ++ a) ≡ at + length a
front at a t h = rw (length-append, length-take-le at t h)

-- a text put where an area is cut
at_cut : (p q b : List ℕ) (n : ℕ) → length p ≡ n → written n b (p ++ q) ≡ p ++ (b ++ drop (length b) q)
unfolding written
at_cut p q b n e = rw (take_at p q n e, ← drop-drop (length b) n (p ++ q), drop_at p q n e)

written_both : (at : ℕ) (a b t : List ℕ) → at ≤ length t → written (at + length a) b (written at a t) ≡ written at (a ++ b) t
unfolding written
written_both at a b t h =
    ap (written (at + length a) b) (sym (append_assoc (take at t) a (drop (at + length a) t)))
    ∙ at_cut (take at t ++ a) (drop (at + length a) t) b (at + length a) (front at a t h)
    ∙ simp (append_assoc, drop-drop, length-append, add_assoc)

written_length : (at : ℕ) (a t : List ℕ) → at + length a ≤ length t → length (written at a t) ≡ length t
unfolding written
written_length at a t h =
    let d = drop (at + length a) t in
    rw (length-append (take at t) (a ++ d), length-take-le at t (omega arith), length-append a d, length-drop (at + length a) t)
    (omega arith)

module _ {at r : ℕ} {a t t' : List ℕ} (p : PutsText at a t r t') where
  pub puts_both : {r' : ℕ} {b t'' : List ℕ} → PutsText r b t' r' t'' → at ≤ length t → PutsText at (a ++ b) t r' t''
  puts_both {r'} {b} {t''} q h =
      record {
        place = rw length-append (omega (arith, p.place, q.place));
        later = q.later ∙ rw (p.place, p.later) (written_both at a b t h);
      }

  pub puts_length : at + length a ≤ length t → length t' ≡ length t
  puts_length h = ap length p.later ∙ written_length at a t h

-- ---- nothing, and a byte

pub puts_none : (at : ℕ) (area : List ℕ) → PutsText at [] area at area
unfolding written
puts_none at area = record { place = omega arith; later = rw (add-zero at) (sym (take-append-drop at area)) }

pub puts_byte : (at byte : ℕ) (area : List ℕ) → at < length area → PutsText at (byte ∷ []) area (at + 1) (set area at byte)
unfolding written
puts_byte at byte area h = record { place = omega arith; later = rw (set_split area at byte h, add-one at) }
