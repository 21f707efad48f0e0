-- A triangle on its way into the sums: its cross product and volume term are there, then that one's length too, and the part that they
-- make.
use Rattle.std.specs.Prelude.{◌≡◌, false, cond}
use Rattle.std.specs.Float.{binary32, binary64}
use Rattle.std.specs.Float.Ieee.{lt}
use Rattle.ieee.specs.Root.{root}
use Rattle.ieee.specs.Rounded.{rounded}
use Rattle.ieee.specs.Double.{◌⊠◌, nought64}
use Rattle.sums.specs.declared.triangle.Facet.{Facet}
use Rattle.sums.specs.declared.triangle.Prepared.{Prepared}
use Rattle.sums.specs.Facet.{Part, out_of_range, sliver, used, half64, shortest, unit}

-- ---- with its length

unfoldable pub facet_by : Prepared → Facet
facet_by r =
    record {
      area = half64 ⊠ r.length;
      area32 = rounded binary32 (half64 ⊠ r.length);
      volume = r.volume;
      nx = unit r.length r.nx;
      ny = unit r.length r.ny;
      nz = unit r.length r.nz;
    }

unfoldable pub part_by : Prepared → Part
part_by r = cond r.in_range (cond (lt r.length shortest) sliver (used (facet_by r))) out_of_range

abbrev pub HasRoot : Prepared → Type 0
HasRoot r = r.length ≡ root binary64 r.square

-- ---- without

unfoldable pub with_root : Prepared → Prepared
with_root r =
    record {
      in_range = r.in_range;
      square = r.square;
      length = root binary64 r.square;
      nx = r.nx;
      ny = r.ny;
      nz = r.nz;
      volume = r.volume;
    }

abbrev pub part_in : Prepared → Part
part_in r = part_by (with_root r)

-- one that adds nothing: 0 is its own root
abbrev pub no_triangle : Prepared
no_triangle =
    record {
      in_range = false;
      square = nought64;
      length = nought64;
      nx = nought64;
      ny = nought64;
      nz = nought64;
      volume = nought64;
    }
