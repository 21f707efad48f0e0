-- What is printed can be read back: two different numbers or cases are never spelt alike.
use Rattle.std.specs.Prelude.{◌≡◌, ℕ, ◌^◌, ◌<◌, T, get_or, Float, Option}
use Rattle.std.specs.Float.{binary32}
use Rattle.std.specs.Float.Ieee.{fits}
use Rattle.verdict.specs.declared.Quality.{Quality}
use Rattle.volume.specs.declared.Method.{Method}
use Rattle.record.specs.declared.ProfileDefect.{ProfileDefect}
use Rattle.record.specs.Names.{quality_name, method_name, profile_name}
use Rattle.spelling.specs.Text.{codes, hex, bits, decimal}

pub record Legible : Type 0 where
  -- patterns of 32 bits, and with that the floats of binary32
  pub patterns : (v w : ℕ) → v < 2 ^ 32 → w < 2 ^ 32 → hex v ≡ hex w → v ≡ w
  pub numbers : (x y : Float) → T (fits binary32 x) → T (fits binary32 y) → bits x ≡ bits y → x ≡ y
  pub not_computed : (x : Float) → codes "none" ≡ bits x → ⊥
  -- counts of ten digits, of which the first is no 0 unless the count is
  pub counts : (m n : ℕ) → m < 10 ^ 10 → n < 10 ^ 10 → decimal m ≡ decimal n → m ≡ n
  pub first_digit : (n : ℕ) → 0 < n → n < 10 ^ 10 → get_or (decimal n) 0 0 ≡ 48 → ⊥
  pub nought : decimal 0 ≡ codes "0"
  pub qualities : (p q : Quality) → codes (quality_name p) ≡ codes (quality_name q) → p ≡ q
  pub methods : (p q : Method) → codes (method_name p) ≡ codes (method_name q) → p ≡ q
  pub profiles : (p q : Option ProfileDefect) → codes (profile_name p) ≡ codes (profile_name q) → p ≡ q
