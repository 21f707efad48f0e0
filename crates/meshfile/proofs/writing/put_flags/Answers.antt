-- `meshfile::writing::put_flags` meets its contract: a header, and the flags' numbers, which a byte holds. Assumes nothing.
use native.Mathlib.Omega.{arith}
use lib.ListN.{length-set}
use Rattle.meshfile.proofs.Puts.{flags_put, defect_small}
use Rattle.meshfile.proofs.writing.put_flags.Goals as goal

pub overflow_cast-area-2 : goal.overflow_cast-area-2
overflow_cast-area-2 c =
    omega (arith, c.profile_number.ensures, defect_small c.args.profile)

pub bounds-area-7 : goal.bounds-area-7
bounds-area-7 c = simp length-set (omega arith)

pub returns : goal.returns
returns c =
    flags_put c.args.area.now _ c.args.clip _ c.args.profile c.requires c.put_header.ensures
    c.profile_number.ensures
