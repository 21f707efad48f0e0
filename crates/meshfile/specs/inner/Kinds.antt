-- The numbers of the kinds of records, as the format has them.
use Rattle.std.specs.Prelude.{ℕ}
use Rattle.meshfile.specs.declared.kind.Kind.{Kind}

abbrev pub kind_number : Kind → ℕ
kind_number Kind.Unit = 1
kind_number Kind.Vertices = 2
kind_number Kind.Ids = 3
kind_number Kind.Flags = 4
