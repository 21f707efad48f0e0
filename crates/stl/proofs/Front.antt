-- Of input that is longer than any file one byte more than the longest decides. Assumes nothing.
use mathlib.Core.Path.{◌≡◌, sym, ◌∙◌}
use mathlib.Core.List.{List}
use Prim.Native.Nat.{ℕ, ◌+◌, ◌≤◌, ◌<◌}
use native.Mathlib.Omega.{arith}
use native.Mathlib.Decide.{dec_lt}
use lib.ListN.{length, take}
use lib.Seq.{length-take-le}
use Rattle.words.proofs.At.{word_part}
use Rattle.std.specs.Prelude.{Err}
use Rattle.ids.specs.declared.refusal.Refusal.{Refusal}
use Rattle.stl.specs.Stl.{stl_count, stl_length, stl_of}
use Rattle.stl.specs.Worth.{StlFrontDecides, StlFilesAreShort}
use Rattle.stl.proofs.Tests.{too_many_lem, wrong_length, taken_exactly}

pub stl_files_are_short : StlFilesAreShort
stl_files_are_short most n bytes e =
    let s = (taken_exactly most n bytes).only_these e in
    omega (arith, s.size, s.few)

-- where its count passes, its length does not
too_long : (most : ℕ) (bytes : List ℕ) → stl_length most < length bytes → stl_count bytes ≤ most → stl_of most bytes ≡ Err Refusal.File
too_long most bytes h few = wrong_length most bytes (omega arith) few (λ q. omega (arith, q))

pub stl_front_decides : StlFrontDecides
stl_front_decides most bytes h = go (dec_lt most (stl_count bytes))
  where
    long : length (take (stl_length most + 1) bytes) ≡ stl_length most + 1
    long = length-take-le (stl_length most + 1) bytes (omega arith)

    count : stl_count (take (stl_length most + 1) bytes) ≡ stl_count bytes
    count = word_part 0 (stl_length most + 1) 80 bytes (omega arith)

    go : Dec (most < stl_count bytes) → stl_of most (take (stl_length most + 1) bytes) ≡ stl_of most bytes
    go (yes many) =
        too_many_lem most (take (stl_length most + 1) bytes) (omega (arith, long)) (omega (arith, count))
        ∙ sym (too_many_lem most bytes (omega arith) many)
    go (no few) =
        too_long most (take (stl_length most + 1) bytes) (omega (arith, long)) (omega (arith, count))
        ∙ sym (too_long most bytes h (omega arith))
