-- Flags leave alone whatever neither of them writes, and so the counts of triangles. Assumes nothing.
use Rattle.std.specs.Prelude.{Option, Some, None}
use mathlib.Core.Path.{◌≡◌, refl, ◌∙◌}
use mathlib.Core.Bool.{Bool, true, false}
use Rattle.volume.specs.declared.Method.{Method}
use Rattle.record.specs.declared.ProfileDefect.{ProfileDefect}
use Rattle.record.specs.declared.MeshQto.{MeshQto}
use Rattle.record.specs.Flags.{marked, if_clip, if_invalid, flagged}
use Rattle.record.specs.Kept.{FlagsLeaveCounts}

pub flags_leave : {A : Type 0} (see : MeshQto → A) → ((to : Method) (p : Option ProfileDefect) (q : MeshQto) → see (marked to p q) ≡ see q)
    → (clip : Bool) (profile : Option ProfileDefect) (q : MeshQto) → see (flagged clip profile q) ≡ see q
unfolding if_clip if_invalid
flags_leave see kept true None q = kept _ _ q
flags_leave see kept false None q = refl
flags_leave see kept true (Some d) q = kept _ _ (if_clip true q) ∙ kept _ _ q
flags_leave see kept false (Some d) q = kept _ _ q

pub flags_leave_counts : FlagsLeaveCounts
unfolding marked
flags_leave_counts clip profile q =
    record {
      used = flags_leave (λ x. x.triangles_used) (λ to p x. refl) clip profile q;
      out_of_range = flags_leave (λ x. x.triangles_out_of_range) (λ to p x. refl) clip profile q;
      sliver = flags_leave (λ x. x.triangles_sliver) (λ to p x. refl) clip profile q;
    }
