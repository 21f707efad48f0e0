-- `mf_read_stl_large` gives the number of what `stl::read_large` gives. Assumes nothing.
use native.Mathlib.Omega.{arith}
use Rattle.stl.proofs.Numbers.{few_triangles, as_number}
use Rattle.capi.proofs.files_c.mf_read_stl_large.Goals as goal

pub stl_number-requires : goal.stl_number-requires
stl_number-requires c = few_triangles _ _ _ _ _ _ _ c.read_large.ensures (omega arith)

pub returns : goal.returns
returns c = rw c.stl_number.ensures (as_number _ _ _ _ _ _ _ c.read_large.ensures)
