-- The mesh of an STL: nine floats and three ids a triangle, each from its place. Assumes nothing.
use mathlib.Core.Path.{◌≡◌, ap, ◌∙◌}
use mathlib.Core.List.{List}
use Prim.Native.Nat.{ℕ, ◌+◌, ◌*◌, ◌≤◌, ◌<◌}
use native.Mathlib.Omega.{arith}
use lib.ListN.{length, get_or, take, drop}
use lib.Ieee.{nan, binary32, of_bits}
use Rattle.words.specs.Words.{u32_at, floats_of}
use Rattle.words.proofs.Parts.{part_length, part_words, length_floats}
use Rattle.words.proofs.At.{word_at, float_at, word_part}
use Rattle.stl.specs.Stl.{stl_length, corners_at, corners_to}
use Rattle.stl.specs.Worth.{MeshOfStl}
use Rattle.stl.proofs.OverNumbers.{order_length, order_at}
use Rattle.stl.proofs.Ids.{ids_length, each_id}

module _ (n : ℕ) (bytes : List ℕ) (whole : stl_length n ≤ length bytes) where
  nine : (t : ℕ) → t < n → length (corners_at bytes t) ≡ 9
  nine t l = part_words (stl_length t + 12) 9 bytes (omega arith)

  pub corners_length : length (corners_to bytes n) ≡ 9 * n
  corners_length = order_length (corners_at bytes) 9 n nine

  corner_at : (t j : ℕ) → t < n → j < 9 → get_or (corners_at bytes t) j 0 ≡ u32_at bytes (stl_length t + 12 + 4 * j)
  corner_at t j lt lj =
      let p = stl_length t + 12 in
      let part = take 36 (drop p bytes) in
      let long : length part ≡ 36 = part_length p 36 bytes (omega arith) in
      let e : 0 + 4 * j ≡ 4 * j = omega arith in
      rw (word_at j 0 part (omega (arith, long)), e) (word_part p 36 (4 * j) bytes (omega arith))

  pub each_float : (t j : ℕ) → t < n → j < 9
      → get_or (floats_of (corners_to bytes n)) (9 * t + j) nan ≡ of_bits binary32 (u32_at bytes (stl_length t + 12 + 4 * j))
  each_float t j lt lj =
      float_at (corners_to bytes n) (9 * t + j) nan (omega (arith, corners_length))
      ∙ ap (of_bits binary32) (order_at (corners_at bytes) 9 0 n nine t j lt lj ∙ corner_at t j lt lj)

pub mesh_of_stl : MeshOfStl
mesh_of_stl n bytes whole =
    record {
      floats_length = length_floats (corners_to bytes n) ∙ corners_length n bytes whole;
      each_float = each_float n bytes whole;
      ids_length = ids_length n;
      each_id = each_id n;
    }
