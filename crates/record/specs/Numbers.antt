-- The numbers of the cases of each enum: those of clip and defect are document 01's (kind 4 of a file), all others the C interface's alone.
use Rattle.std.specs.Prelude.{ℕ, zero, suc, Bool, ◌&&◌, leb, Option, Float, Some, None}
use Rattle.std.specs.Float.{binary32}
use Rattle.std.specs.Float.Ieee.{to_bits}
use Rattle.record.specs.declared.ProfileDefect.{ProfileDefect}

-- the defects as 000 lists them
unfoldable pub defect_number : ProfileDefect → ℕ
defect_number ProfileDefect.SelfIntersecting = 1
defect_number ProfileDefect.Degenerate = 2
defect_number ProfileDefect.HoleOutside = 3
defect_number ProfileDefect.Overlapping = 4

unfoldable pub profile_number : Option ProfileDefect → ℕ
profile_number None = 0
profile_number (Some d) = defect_number d

-- whether the bound was computed, and its bits: 0 where it was not
unfoldable pub prism_number : Option Float → ℕ
prism_number None = 0
prism_number (Some p) = 1

unfoldable pub prism_bits : Option Float → ℕ
prism_bits None = 0
prism_bits (Some p) = to_bits binary32 p

-- and the profile of a number
unfoldable pub profile_at : ℕ → Option ProfileDefect
profile_at zero = None
profile_at (suc zero) = Some ProfileDefect.SelfIntersecting
profile_at (suc (suc zero)) = Some ProfileDefect.Degenerate
profile_at (suc (suc (suc zero))) = Some ProfileDefect.HoleOutside
profile_at (suc (suc (suc (suc n)))) = Some ProfileDefect.Overlapping

-- flag values: clip is 0 or 1, defect 0 to 4
unfoldable pub flags_fit : ℕ → ℕ → Bool
flags_fit clip defect = leb clip 1 && leb defect 4
