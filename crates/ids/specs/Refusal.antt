-- The numbers of the refusals, as documents 01 and 02 have them.
use Rattle.std.specs.Prelude.{ℕ, ◌+◌, Ok, Err, Result}
use Rattle.ids.specs.declared.refusal.Refusal.{Refusal}
use Rattle.ids.specs.declared.refusal.Refusal.TheVariants as refusal

abbrev pub refusal_number : Refusal → ℕ
refusal_number refusal.TooMany = 1
refusal_number refusal.Unit = 2
refusal_number refusal.ShortArea = 3
refusal_number refusal.Float = 4
refusal_number refusal.File = 5
refusal_number refusal.FileTooLarge = 6
refusal_number refusal.Edition = 7

-- as the C interface has them: 2^31 more
abbrev pub refused_number : Refusal → ℕ
refused_number r = 2147483648 + refusal_number r

-- an answer that is a number, or the refusal's, as the C interface has it
unfoldable pub answer_number : Result ℕ Refusal → ℕ
answer_number (Ok n) = n
answer_number (Err r) = refused_number r
