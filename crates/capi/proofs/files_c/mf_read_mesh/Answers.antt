-- `mf_read_mesh` gives the numbers of what `meshfile::read_bits` gives; of a refusal whatever words the code has for its number, so that only
-- another number is refused. Assumes nothing.
use mathlib.Core.Path.{◌≡◌}
use mathlib.Core.List.{List}
use Prim.Native.Nat.{ℕ, ◌+◌}
use native.Mathlib.Omega.{arith}
use Rattle.std.specs.Prelude.{Result, Err}
use borrow.Author.Rules.{rules}
use Rattle.ids.specs.declared.refusal.Refusal.{Refusal}
use Rattle.ids.specs.Refusal.{refusal_number, refused_number}
use Rattle.meshfile.specs.declared.MeshFile.{MeshFile}
use Rattle.meshfile.specs.Reading.{ReadsBits}
use Rattle.meshfile.specs.Numbers.{ReadsNumbered}
use Rattle.meshfile.proofs.Most.{reads_most_bits}
use Rattle.meshfile.proofs.Numbers.{refused_read, counted}
use Rattle.capi.proofs.files_c.mf_read_mesh.Goals as goal

pub overflow_cast-counts : goal.overflow_cast-counts
overflow_cast-counts c = omega (arith, reads_most_bits _ _ _ _ _ _ c.read_bits-answer.ensures _ c.in-Ok.is)

pub overflow_cast-counts-in-Ok : goal.overflow_cast-counts-in-Ok
overflow_cast-counts-in-Ok c = omega (arith, reads_most_bits _ _ _ _ _ _ c.read_bits-answer.ensures _ c.in-Ok.is)

pub returns-in-Ok : goal.returns-in-Ok
returns-in-Ok c =
    counted _ _ _ _ _ _ c.read_bits-answer.ensures _ _ c.in-Ok.is _ c.profile_number.ensures

refused_at : (bytes ps ids : List ℕ) (r : Result (MeshFile ℕ) Refusal) (ps' ids' : List ℕ) → ReadsBits bytes ps ids r ps' ids' → (five : List ℕ)
    (n : Refusal) → r ≡ Err n → (k : ℕ) → k ≡ refused_number n → ReadsNumbered bytes ps ids five k ps' ids' five
refused_at bytes ps ids r ps' ids' x five n e k q = rw q (refused_read bytes ps ids r ps' ids' x five n e)

pub returns-in-Err : goal.returns-in-Err
returns-in-Err c = refused_at _ _ _ _ _ _ c.read_bits-answer.ensures _ _ c.in-Err.is _ (search rules)
