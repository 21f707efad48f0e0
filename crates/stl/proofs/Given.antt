-- What reading gives: a fault, too short an area, or both areas filled. Assumes nothing.
use mathlib.Core.Path.{◌≡◌, refl}
use mathlib.Core.Bool.{Bool, true, false, ◌||◌}
use mathlib.Core.List.{List, ◌++◌}
use Prim.Native.Nat.{ℕ, ◌*◌, ◌/◌, ◌≤◌}
use native.Mathlib.Omega.{arith}
use borrow.Author.Tests.{ltb-false}
use lib.Dec.{ltb}
use lib.Ieee.{Float}
use lib.ListN.{length, take, drop}
use lib.Seq.{length-take-le}
use Rattle.words.specs.Words.{floats_of}
use Rattle.ids.proofs.Groups.{neither}
use Rattle.std.specs.Prelude.{Ok, Err}
use Rattle.ids.specs.declared.refusal.Refusal.{Refusal}
use Rattle.stl.specs.Stl.{stl_of, corners_to, ids_to}
use Rattle.stl.specs.Reading.{in_areas, corners_later, ids_later, ReadsStl}
use Rattle.stl.specs.Worth.{IsStl}
use Rattle.stl.specs.inner.Filled.{RoomFor, Filled}
use Rattle.stl.proofs.Tests.{taken_exactly}

pub filled : (bytes : List ℕ) (n : ℕ) (vs : List Float) (ids : List ℕ) → 3 * n ≤ length ids
    → (front : List Float) (places : List ℕ) → front ≡ floats_of (corners_to bytes n) → places ≡ ids_to (length (take (3 * n) ids) / 3)
    → Filled bytes n vs ids (front ++ drop (9 * n) vs) (places ++ drop (3 * n) ids)
unfolding corners_later ids_later
filled bytes n vs ids room front places ef ei =
    let third : length (take (3 * n) ids) / 3 ≡ n = omega (arith, length-take-le (3 * n) ids room) in
    record { floats = rw ef; ids_later_lem = rw (ei, third) }

module _ (most : ℕ) (bytes : List ℕ) (vs : List Float) (ids : List ℕ) where
  pub refused : (n : Refusal) → stl_of most bytes ≡ Err n → ReadsStl most bytes vs ids (Err n) vs ids
  unfolding in_areas corners_later ids_later
  refused n fault = record { answers = rw fault; floats = refl; ids_later_lem = refl }

  module _ (n : ℕ) (held : stl_of most bytes ≡ Ok n) where
    pub is_stl : IsStl most n bytes
    is_stl = (taken_exactly most n bytes).only_these held

    -- too short an area, or not, as the code tests it
    abbrev too_short : Bool
    too_short = ltb (length vs) (9 * n) || ltb (length ids) (3 * n)

    pub short : too_short ≡ true → ReadsStl most bytes vs ids (Err Refusal.ShortArea) vs ids
    unfolding in_areas corners_later ids_later
    short q = record { answers = rw (held, q); floats = refl; ids_later_lem = refl }

    pub given : too_short ≡ false → (vs' : List Float) (ids' : List ℕ) → Filled bytes n vs ids vs' ids'
        → ReadsStl most bytes vs ids (Ok n) vs' ids'
    unfolding in_areas
    given q vs' ids' x = record { answers = rw (held, q); floats = x.floats; ids_later_lem = x.ids_later_lem }

    pub room : too_short ≡ false → 3 * most ≤ 4294967296 → RoomFor n (length bytes) (length vs) (length ids)
    room q words =
        let both = neither (ltb (length vs) (9 * n)) (ltb (length ids) (3 * n)) q in
        record {
          inside = omega (arith, is_stl.size);
          floats_room = ltb-false _ _ both.0;
          ids_room = ltb-false _ _ both.1;
          ids_fit = omega (arith, is_stl.few);
        }
