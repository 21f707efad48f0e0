-- The text that was printed lies within its area; there is one for every input; input that is longer than any file is refused, and its
-- first bytes decide how.
use Rattle.std.specs.Prelude.{Ok, Err}
use Rattle.ids.specs.declared.refusal.Refusal.{Refusal}
use Rattle.ids.specs.Refusal.{refusal_number}
use mathlib.Core.Path.{◌≡◌, refl, sym, ap, ◌∙◌}
use mathlib.Core.Logic.{◌⊎◌}
use Prim.Native.Nat.{ℕ, ◌+◌, ◌≤◌, ◌<◌}
use mathlib.Core.List.{List}
use native.Mathlib.Omega.{arith}
use native.Mathlib.Decide.{dec_le}
use lib.ListN.{length, take, drop, length-append}
use lib.Seq.{length-take-le, take_all, take-take}
use Rattle.meshfile.specs.Format.{Contents, File, file_of}
use Rattle.meshfile.specs.Written.{longest}
use Rattle.meshfile.proofs.Bounds.{files_are_short, front_decides as file_front_decides}
use Rattle.meshfile.proofs.One.{File56, file_56}
use Rattle.listing.specs.Listing.{refused_line}
use Rattle.program.specs.Program.{text_for, text_of, Prints, RunOne}
use Rattle.program.specs.Promises.{KeptDecides, LongRefused, RunFrontOne}

module _ (text area : List ℕ) (r : ℕ) (area' : List ℕ) (printed : Prints text area r area') where
  pub prints_inside : r ≤ length area'
  prints_inside = rw (printed.answers, printed.later) (omega (arith, length-append text (drop (length text) area)))

  pub prints_front : r ≡ length (take r area')
  prints_front = sym (length-take-le r area' prints_inside)

pub run_one : RunOne
run_one text area r₁ r₂ area₁ area₂ x y = (x.answers ∙ sym y.answers, x.later ∙ sym y.later)

pub run_front_one : RunFrontOne
run_front_one text bytes n area r₁ r₂ area₁ area₂ x y = run_one (text (take n bytes)) area r₁ r₂ area₁ area₂ x.prints y.prints

-- ---- input that is longer than any file

module _ (text : List ℕ → List ℕ) (most : ℕ) (front : KeptDecides text most) where
  -- So do more bytes than decide, if they are kept.
  more_decides : (l : ℕ) (input : List ℕ) → most + 1 ≤ l → l < length input → text (take l input) ≡ text input
  more_decides l input h g =
      let long : most < length (take l input) = omega (arith, length-take-le l input (omega arith)) in
      sym (front (take l input) long) ∙ (ap text (take-take (most + 1) l input h) ∙ front input (omega arith))

  -- an area of at least so many bytes decides, be they all of the input or not
  pub front_alike : (l : ℕ) (input : List ℕ) → most + 1 ≤ l → text (take l input) ≡ text input
  front_alike l input h =
      elim (dec_le (length input) l) [
        | yes k ↦ ap text (take_all l input k)
        | no k ↦ more_decides l input h (omega arith)
      ]

pub refused_text : (f : File) → File56 f → ((m : Contents) → f ≡ Ok m → ⊥)
    → (n : Refusal) × ((n ≡ Refusal.File) ⊎ (n ≡ Refusal.FileTooLarge)) × (text_for f ≡ refused_line (refusal_number n))
unfolding text_for
refused_text (Err n) h none = (n, h, refl)
refused_text (Ok m) h none = absurd (none m refl)

-- ---- for a mesh file

pub front_decides : KeptDecides text_of longest
unfolding text_of
front_decides bytes h = ap text_for (file_front_decides bytes h)

pub long_refused : LongRefused text_of longest
unfolding text_of
long_refused bytes h =
    refused_text (file_of bytes) (file_56 bytes)
    (λ m e.
    let short = files_are_short m bytes e in
    omega arith)

pub text_front : (l : ℕ) (input : List ℕ) → longest + 1 ≤ l → text_of (take l input) ≡ text_of input
text_front = front_alike text_of longest front_decides

-- what `run_front` needs to know
pub ruleset by_front = (take_all, text_front)
