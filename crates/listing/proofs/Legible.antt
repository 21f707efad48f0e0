-- What is printed can be read back: numbers by their digits, the cases of an enum by a letter of their names. Assumes nothing.
use Rattle.std.specs.Prelude.{Option, Some, None}
use mathlib.Core.Path.{◌≡◌, refl, sym, ap, ◌∙◌}
use mathlib.Core.Bool.{cond}
use mathlib.Core.List.{List}
use Prim.Native.Nat.{ℕ}
use native.Mathlib.Omega.{arith}
use lib.Dec.{T, eqb}
use lib.ListN.{length, get_or}
use lib.Ieee.{Float, binary32, to_bits, of_bits, fits}
use lib.Ieee.Bits.{of_bits-to_bits, to_bits-lt}
use Rattle.verdict.specs.declared.Quality.{Quality}
use Rattle.volume.specs.declared.Method.{Method}
use Rattle.record.specs.declared.ProfileDefect.{ProfileDefect}
use Rattle.record.specs.Names.{quality_name, method_name, defect_name, profile_name}
use Rattle.spelling.specs.Text.{codes, glyph, hex, bits, decimal_in}
use Rattle.listing.specs.Legible.{Legible}
use Rattle.spelling.proofs.Apart.{hex_apart, decimal_apart, no_leading_zero}

-- ---- numbers

bits_apart : (x y : Float) → T (fits binary32 x) → T (fits binary32 y) → bits x ≡ bits y → x ≡ y
unfolding bits
bits_apart x y hx hy e =
    sym (of_bits-to_bits binary32 x hx)
    ∙ ap (of_bits binary32) (hex_apart (to_bits binary32 x) (to_bits binary32 y) (to_bits-lt binary32 x hx) (to_bits-lt binary32 y hy) e)
    ∙ of_bits-to_bits binary32 y hy

-- four letters are not eight digits
none_apart : (x : Float) → codes "none" ≡ bits x → ⊥
unfolding bits hex
none_apart x e = let l : ◌≡◌ {A = ℕ} 4 8 = ap length e in omega arith

-- ---- names: what reads them back tells them apart

apart : {A : Type 0} (name : A → List ℕ) (back : List ℕ → A) → ((a : A) → back (name a) ≡ a) → (a b : A) → name a ≡ name b → a ≡ b
apart name back h a b e = sym (h a) ∙ ap back e ∙ h b

-- the letter at a place
abbrev at : ℕ → ℕ → List ℕ → {A : Type 0} → A → A → A
at k c l = cond (eqb (get_or l k 0) c)

quality_back : List ℕ → Quality
quality_back l = at 0 99 l Quality.Closed (at 0 111 l Quality.OpenShell Quality.Degenerate)

quality_read : (q : Quality) → quality_back (codes (quality_name q)) ≡ q
unfolding quality_back quality_name
quality_read Quality.Closed = refl
quality_read Quality.OpenShell = refl
quality_read Quality.Degenerate = refl

-- mesh, mesh_open, mesh_unclipped and mesh_profile_invalid by their sixth letter
method_back : List ℕ → Method
method_back l =
    at 0 112 l Method.PrismFallback
    (at 5 111 l Method.MeshOpen
    (at 5 117 l Method.MeshUnclipped
    (at 5 112 l Method.MeshProfileInvalid Method.Mesh)))

method_read : (m : Method) → method_back (codes (method_name m)) ≡ m
unfolding method_back method_name
method_read Method.Mesh = refl
method_read Method.MeshOpen = refl
method_read Method.PrismFallback = refl
method_read Method.MeshUnclipped = refl
method_read Method.MeshProfileInvalid = refl

profile_back : List ℕ → Option ProfileDefect
profile_back l =
    at 0 115 l (Some ProfileDefect.SelfIntersecting)
    (at 0 100 l (Some ProfileDefect.Degenerate)
    (at 0 104 l (Some ProfileDefect.HoleOutside)
    (at 0 111 l (Some ProfileDefect.Overlapping) None)))

profile_read : (p : Option ProfileDefect) → profile_back (codes (profile_name p)) ≡ p
unfolding profile_back profile_name defect_name
profile_read None = refl
profile_read (Some ProfileDefect.SelfIntersecting) = refl
profile_read (Some ProfileDefect.Degenerate) = refl
profile_read (Some ProfileDefect.HoleOutside) = refl
profile_read (Some ProfileDefect.Overlapping) = refl

pub legible : Legible
unfolding decimal_in glyph
legible =
    record {
      patterns = hex_apart;
      numbers = bits_apart;
      not_computed = none_apart;
      counts = decimal_apart 9;
      first_digit = no_leading_zero 9;
      nought = refl;
      qualities = apart (λ q. codes (quality_name q)) quality_back quality_read;
      methods = apart (λ m. codes (method_name m)) method_back method_read;
      profiles = apart (λ p. codes (profile_name p)) profile_back profile_read;
    }
