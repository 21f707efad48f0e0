-- Flags leave the counts of triangles alone (02, A1). (`flags_leave_counts`)
use Rattle.std.specs.Prelude.{◌≡◌, Bool, Option}
use Rattle.record.specs.declared.ProfileDefect.{ProfileDefect}
use Rattle.record.specs.declared.MeshQto.{MeshQto}
use Rattle.record.specs.Flags.{flagged}

pub record SameCounts (q q' : MeshQto) : Type 0 where
  pub used : q'.triangles_used ≡ q.triangles_used
  pub out_of_range : q'.triangles_out_of_range ≡ q.triangles_out_of_range
  pub sliver : q'.triangles_sliver ≡ q.triangles_sliver

abbrev pub FlagsLeaveCounts : Type 0
FlagsLeaveCounts = (clip : Bool) (profile : Option ProfileDefect) (q : MeshQto) → SameCounts q (flagged clip profile q)
