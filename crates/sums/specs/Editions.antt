-- The editions of the house measurement rule (02, A6): which there are, and the pair of thresholds of each.
use Rattle.std.specs.Prelude.{ℕ, Bool, cond, ◌||◌, ◌==◌, from_bits}
use Rattle.std.specs.Float.{binary32}
use Rattle.sums.specs.declared.totals.Thresholds.{Thresholds}

-- 01's: 0.940 and 0.342
abbrev pub thresholds1 : Thresholds
thresholds1 = record { top = from_bits binary32 0x3f70_a3d7; side = from_bits binary32 0x3eaf_1aa0 }

-- 2027's: 0.866 and 0.5
abbrev pub thresholds2 : Thresholds
thresholds2 = record { top = from_bits binary32 0x3f5d_b22d; side = from_bits binary32 0x3f00_0000 }

-- an edition is a number; 1 and 2 are known
unfoldable pub edition_known : ℕ → Bool
edition_known e = e == 1 || e == 2

-- the pair of an edition; any other number is refused (7), so no record is made by what stands here for it
unfoldable pub thresholds_of : ℕ → Thresholds
thresholds_of e = cond (e == 2) thresholds2 thresholds1
