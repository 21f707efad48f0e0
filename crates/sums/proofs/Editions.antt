-- The pair of thresholds of an edition, by its number; and from a pair to one that leaves less inclined only what is inclined moves: what
-- was above the higher first threshold is above the lower, and a side by the lower second one is below the first in magnitude. Assumes
-- nothing.
use Rattle.std.proofs.Common.{◌≡◌, ℕ, Bool, true, false, cond, ◌&&◌, T, ◌≢◌, sym, refl, subst, eq-eqb, ne_eqb}
use lib.Ieee.{Float, eq, le, lt, neg, of_bits}
use lib.Ieee.Fits.{and_l, and_r}
use Rattle.ieee.specs.Magnitude.{magnitude}
use Rattle.ieee.proofs.Order.Comparison.{le_lt_trans, lt_asym, lt_le_trans}
use Rattle.ieee.proofs.Order.Magnitudes.{magnitude_below}
use Rattle.ieee.proofs.Values.Negation.{le_neg, lt_neg, neg_neg}
use Rattle.sums.specs.declared.totals.Slope.{Slope}
use Rattle.sums.specs.declared.totals.Thresholds.{Thresholds}
use Rattle.sums.specs.Editions.{thresholds1, thresholds2, thresholds_of}
use Rattle.sums.specs.SlopeMoves.{NoMoreInclined, MayBecome, SlopesMove, EditionMoves}
use Rattle.sums.specs.Totals.{slope_of}
use Rattle.sums.proofs.Slopes.{slope_bottom, slope_side, slope_top}

pub pair_of_2 : (e : ℕ) → e ≡ 2 → thresholds2 ≡ thresholds_of e
unfolding thresholds_of
pair_of_2 e h = rw (eq-eqb e 2 h)

pub pair_of_others : (e : ℕ) → e ≢ 2 → thresholds1 ≡ thresholds_of e
unfolding thresholds_of
pair_of_others e h = rw (ne_eqb e 2 h)

-- ---- what can move where

is : {b : Bool} → b ≡ true → T b
is h = subst T (sym h) tt

so : (b : Bool) → T b → b ≡ true
so true t = refl
so false t = absurd t

module _ (p p' : Thresholds) (h : NoMoreInclined p p') (z : Float) where
  top_stays : lt p.top z ≡ true → slope_of p' z ≡ Slope.Top
  top_stays above = sym (slope_top p' z (so _ (le_lt_trans p'.top p.top z h.top (is above))))

  bottom_stays : lt z (neg p.top) ≡ true → slope_of p' z ≡ Slope.Bottom
  bottom_stays below =
      let low : T (le (neg p.top) (neg p'.top)) = subst T (sym (le_neg p.top p'.top)) h.top in
      let under = so _ (lt_le_trans z (neg p.top) (neg p'.top) (is below) low) in
      let not_above = lt_asym z p'.top (so _ (lt_le_trans z (neg p.top) p'.top (is below) h.above_bottoms)) in
      sym (slope_bottom p' z not_above under)

  side_stays : lt (magnitude z) p.side ≡ true → slope_of p' z ≡ Slope.Side
  side_stays small =
      let both : T (lt z p.side && lt (neg z) p.side) = subst T (magnitude_below z p.side) (is small) in
      let right = lt_le_trans z p.side p'.top (and_l (lt z p.side) (lt (neg z) p.side) both) h.above_sides in
      let left = lt_le_trans (neg z) p.side p'.top (and_r (lt z p.side) (lt (neg z) p.side) both) h.above_sides in
      let across : T (lt (neg p'.top) z) =
      subst T (lt_neg z (neg p'.top)) (subst (λ (x : Float). T (lt (neg z) x)) (sym (neg_neg p'.top)) left) in
      sym
      (slope_side p' z (lt_asym z p'.top (so _ right)) (lt_asym (neg p'.top) z (so _ across)) refl
      (so _ (lt_le_trans (magnitude z) p.side p'.side (is small) h.side)))

pub slopes_move : SlopesMove
unfolding slope_of MayBecome
slopes_move p p' h z = go (lt p.top z) (lt z (neg p.top)) (lt (magnitude z) p.side) refl refl refl
  where
    go : (a b c : Bool) → lt p.top z ≡ a → lt z (neg p.top) ≡ b → lt (magnitude z) p.side ≡ c
        → MayBecome (cond a Slope.Top (cond b Slope.Bottom (cond c Slope.Side Slope.Inclined))) (slope_of p' z)
    go true b c above below small = top_stays p p' h z above
    go false true c above below small = bottom_stays p p' h z below
    go false false true above below small = side_stays p p' h z small
    go false false false above below small = tt

pub edition_moves : EditionMoves
unfolding slope_of le lt eq neg magnitude of_bits
edition_moves =
    record {
      less = record { top = tt; side = tt; above_sides = tt; above_bottoms = tt };
      to_top = record { first = refl; second = refl };
      to_bottom = record { first = refl; second = refl };
      to_side = record { first = refl; second = refl };
      stays = record { first = refl; second = refl };
    }
