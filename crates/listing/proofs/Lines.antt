-- What the code makes of a form are the lines of the listing. Assumes nothing.
use Rattle.std.specs.Prelude.{Option, Some, None}
use mathlib.Core.Path.{◌≡◌, refl, ap}
use mathlib.Core.Bool.{Bool, true, false}
use mathlib.Core.List.{List, [], ◌∷◌}
use Prim.Native.Nat.{ℕ, ◌+◌, ◌≤◌}
use native.Mathlib.Omega.{arith}
use lib.ListN.{length}
use lib.Ieee.{Float}
use mir.Val.{bool_byte}
use Rattle.ids.specs.Uses.{bit}
use Rattle.verdict.specs.declared.Quality.{Quality}
use Rattle.volume.specs.declared.Method.{Method}
use Rattle.record.specs.declared.MeshQto.{MeshQto}
use Rattle.record.specs.declared.ProfileDefect.{ProfileDefect}
use Rattle.record.specs.Names.{quality_name, method_name, defect_name, profile_name}
use Rattle.verdict.specs.Numbers.{quality_number}
use Rattle.volume.specs.Numbers.{method_number}
use Rattle.record.specs.Numbers.{defect_number, profile_number}
use Rattle.spelling.specs.Text.{codes, glyph, hex, bits, decimal_in, decimal, line}
use Rattle.spelling.specs.inner.Steps.{PutsText, filled_at, filled}
use Rattle.listing.specs.Listing.{number_lines, prism_text}

-- what is put is the text that is wanted, and that has n bytes at most
pub record Spells (put text : List ℕ) (n : ℕ) : Type 0 where
  pub is : put ≡ text
  pub short : length text ≤ n

pub spells_puts : {put text : List ℕ} {n at r : ℕ} {t t' : List ℕ} → Spells put text n → PutsText at put t r t'
    → PutsText at text t r t' × (r ≤ at + n)
spells_puts s p = (rw (← s.is) p, omega (arith, p.place, ap length s.is, s.short))

-- ---- forms with their numbers

pub number_lines_lem : (q : MeshQto) → Spells
    (filled (codes "volume #\naabb #\nsurface #\ntop #\nbottom #\nside #\ninclined #\nlargest #\nsmallest #\nbest #\n")
    (q.volume_m3 ∷ q.aabb_volume_m3 ∷ q.surface_area_m2 ∷ q.area_top_m2 ∷ q.area_bottom_m2 ∷ q.area_side_m2
    ∷ q.area_inclined_m2 ∷ q.largest_surface_m2 ∷ q.smallest_surface_m2 ∷ q.volume_best_m3 ∷ []))
    (number_lines q) 157
unfolding filled_at filled line bits hex number_lines
number_lines_lem q = record { is = refl; short = omega arith }

pub prism_none : Spells (codes "prism none\n") (line "prism " (prism_text None)) 15
unfolding line prism_text
prism_none = record { is = refl; short = omega arith }

pub prism_bits_lem : (p : Float) → Spells (filled (codes "prism #\n") (p ∷ [])) (line "prism " (prism_text (Some p))) 15
unfolding filled_at filled line bits hex prism_text
prism_bits_lem p = record { is = refl; short = omega arith }
