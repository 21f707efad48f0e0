-- Rows scaled, put in order and asked for the largest and the smallest, from the floats that the area holds on the way.
use Rattle.std.proofs.Common.{◌≡◌, T, List, sym, ap, ◌∙◌, subst}
use lib.Ieee.{Float}
use Rattle.rows.specs.declared.PlanarSurface.{PlanarSurface}
use Rattle.rows.specs.Rows.{flatten, rows_of, scaled, sorted, largest, smallest}
use Rattle.rows.specs.Plain.{all_plain}
use Rattle.rows.proofs.Flat.{rows_flat}
use Rattle.qto.specs.declared.Extremes.{Extremes}
use Rattle.qto.specs.inner.Steps.{Arranged}

-- t as it was, t₁ when scaled, t₂ when in order
module _ (by : Float) (t t₁ t₂ : List Float) (scale : t₁ ≡ flatten (scaled by (rows_of t))) where
  pub scaled_rows : rows_of t₁ ≡ scaled by (rows_of t)
  scaled_rows = ap rows_of scale ∙ rows_flat (scaled by (rows_of t))

  pub scaled_plain : T (all_plain (scaled by (rows_of t))) → T (all_plain (rows_of t₁))
  scaled_plain h = subst (λ (l : List PlanarSurface). T (all_plain l)) (sym scaled_rows) h

  pub in_order : t₂ ≡ flatten (sorted (rows_of t₁)) → t₂ ≡ flatten (sorted (scaled by (rows_of t)))
  in_order sort = sort ∙ ap (λ (l : List PlanarSurface). flatten (sorted l)) scaled_rows

  order_rows : t₂ ≡ flatten (sorted (rows_of t₁)) → rows_of t₂ ≡ sorted (scaled by (rows_of t))
  order_rows sort = ap rows_of (in_order sort) ∙ rows_flat (sorted (scaled by (rows_of t)))

  pub arranged : (r : Extremes) → t₂ ≡ flatten (sorted (rows_of t₁)) → r.largest ≡ largest (rows_of t₂) → r.smallest ≡ smallest (rows_of t₂)
      → Arranged t by r t₂
  arranged r sort hl hs =
      record { largest_is = hl ∙ ap largest (order_rows sort); smallest_is = hs ∙ ap smallest (order_rows sort); later = in_order sort }
