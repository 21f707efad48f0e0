-- What it means that a contract leaves one answer. Each contract of `floats` is `r ≡ d` with a definition d, or `SignCleared`:
-- `equation_one` and `sign_cleared_one` of proofs/Answers.antt say it of these two forms.
use Rattle.std.specs.Prelude.{◌≡◌}

-- any two answers that P allows are equal
abbrev pub OneAnswer : (A : Type 0) → (A → Type 0) → Type 0
OneAnswer A P = (r r' : A) → P r → P r' → r ≡ r'
