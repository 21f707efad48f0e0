-- What a conversion leaves as it is: a float that the format holds, and of those a whole number. Assumes nothing.
use mathlib.Core.Path.{◌≡◌, refl, sym, ◌∙◌}
use mathlib.Core.Bool.{Bool, cond}
use Prim.Native.Nat.{ℕ}
use lib.Dec.{T, lit<}
use lib.Ieee.{Float, nan, inf, fin, Format, fits}
use lib.Ieee.Exact.{HasValue}
use Rattle.ieee.specs.Integral.{Way, integral}
use Rattle.ieee.specs.Rounded.{rounded}
use Rattle.ieee.proofs.Values.ByValue.{rounded_values}
use Rattle.ieee.proofs.Patterns.Integral.{integral_at}
use Rattle.ieee.proofs.Values.OneFloat.{round_own}
use Rattle.ieee.proofs.Numbers.Wholes.{whole_one}

pub rounded_own : (f : Format) (x : Float) → T (fits f x) → rounded f x ≡ x
unfolding rounded
rounded_own f nan t = refl
rounded_own f (inf s) t = refl
rounded_own f (fin s m e) t = round_own f s m e t

-- x is ±n, a zero of either sign
pub integral_own : (f : Format) (above below : Way) (x : Float) (s : Bool) (n : ℕ) → T (fits f x) → HasValue x s n 1
    → integral f above below x ≡ x
integral_own f above below x s n t h =
    integral_at f above below x s n 1 (lit< tt) h
    ∙ rw (whole_one (cond s below above) n) (sym (rounded_values f x s n 1 (lit< tt) h) ∙ rounded_own f x t)
