-- What a loop has left to put: put behind what is there already, it makes the whole. Assumes nothing.
use mathlib.Core.Path.{◌≡◌, refl, ◌∙◌}
use mathlib.Core.List.{List, [], ◌∷◌, ◌++◌}
use Prim.Native.Nat.{ℕ, ◌+◌, ◌≤◌, ◌<◌}
use native.Mathlib.Omega.{arith}
use lib.ListN.{length, set, length-append}
use Rattle.spelling.specs.inner.Steps.{PutsText}
use Rattle.spelling.proofs.Puts.{puts_both, puts_length, puts_none, puts_byte}

-- the whole at a place of the area as it was; the rest at the place `end` of the area as it is
pub record Left (at : ℕ) (whole area₀ : List ℕ) (end : ℕ) (rest area : List ℕ) : Type 0 where
  pub room : end + length rest ≤ length area
  pub kept : length area ≡ length area₀
  pub joins : {r : ℕ} {area' : List ℕ} → PutsText end rest area r area' → PutsText at whole area₀ r area'

pub left_all : (at : ℕ) (whole area : List ℕ) → at + length whole ≤ length area → Left at whole area at whole area
left_all at whole area h = record { room = h; kept = refl; joins = λ p. p }

module _ {at end : ℕ} {whole area₀ rest area : List ℕ} (l : Left at whole area₀ end rest area) where
  -- a first part of the rest: there is room for it, and once it is put the other part is left
  module _ (a b : List ℕ) (e : rest ≡ a ++ b) where
    both_parts : length rest ≡ length a + length b
    both_parts = rw e (length-append a b)

    pub left_room : end + length a ≤ length area
    left_room = omega (arith, l.room, both_parts)

    pub left_less : {end' : ℕ} {area' : List ℕ} → PutsText end a area end' area' → Left at whole area₀ end' b area'
    left_less {end'} {area'} p =
        let k : length area' ≡ length area = puts_length p left_room in
        record {
          room = omega (arith, l.room, both_parts, p.place);
          kept = k ∙ l.kept;
          joins = λ q. l.joins (rw e (puts_both p q (omega (arith, l.room))));
        }

  -- a byte of it
  module _ (byte : ℕ) (b : List ℕ) (e : rest ≡ byte ∷ b) where
    pub byte_room : end < length area
    byte_room = let h : end + 1 ≤ length area = left_room (byte ∷ []) b e in omega arith

    pub left_byte : Left at whole area₀ (end + 1) b (set area end byte)
    left_byte = left_less (byte ∷ []) b e (puts_byte end byte area byte_room)

  pub left_none : rest ≡ [] → PutsText at whole area₀ end area
  left_none e = l.joins (rw e (puts_none end area))
