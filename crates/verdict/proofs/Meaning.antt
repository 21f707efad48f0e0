-- The verdict case by case: each law is one clause of document 01's paragraph. Assumes nothing.
use mathlib.Core.Path.{◌≡◌, refl, sym, ap, ◌∙◌}
use mathlib.Core.Bool.{Bool, true, false, cond, ◌&&◌, ◌||◌}
use mathlib.Core.List.{List}
use Prim.Native.Nat.{ℕ}
use lib.Dec.{leb}
use lib.Ieee.{Float, le}
use Rattle.std.specs.Prelude.{Some, None}
use Rattle.std.specs.Option.{unwrap_or}
use Rattle.ieee.specs.Single.{nought}
use Rattle.ids.specs.EdgeChain.{boundary_free, over_incident}
use Rattle.ids.specs.FaceNet.{max_abs, all_cancel}
use Rattle.weld.specs.Weld.{welded}
use Rattle.verdict.specs.Verdict.{too_large, near_zero, by_faces, by_chain, quality}
use Rattle.verdict.specs.inner.Steps.{chained, open_unless_free}
use Rattle.verdict.specs.declared.Quality.{Quality}
use Rattle.verdict.specs.declared.Quality.TheVariants.{Closed, OpenShell, Degenerate}

-- ---- the box and the volume, then the ids

module _ (vs : List Float) (ids : List ℕ) (ε volume box : Float) where
  pub no_box : le box nought ≡ true → quality vs ids ε volume box ≡ Degenerate
  unfolding quality
  no_box h = rw h

  module _ (some : le box nought ≡ false) where
    pub too_large_lem : too_large volume box ≡ true → quality vs ids ε volume box ≡ OpenShell
    unfolding quality
    too_large_lem h = rw (some, h)

    pub within_box : too_large volume box ≡ false → quality vs ids ε volume box ≡ by_chain vs ids ε (near_zero volume box)
    unfolding quality
    within_box h = rw (some, h)

-- ---- ids that are boundary-free: the faces

module _ (ids : List ℕ) (near : Bool) where
  pub unasked : over_incident ids || near ≡ false → by_faces ids near ≡ Closed
  unfolding by_faces
  unasked h = rw h

  module _ (asked : over_incident ids || near ≡ true) where
    pub one_sided : leb 2 (max_abs ids) ≡ true → by_faces ids near ≡ OpenShell
    unfolding by_faces
    one_sided h = rw (asked, h)

    module _ (small : leb 2 (max_abs ids) ≡ false) where
      pub cancels : near && all_cancel ids ≡ true → by_faces ids near ≡ Degenerate
      unfolding by_faces
      cancels h = rw (asked, small, h)

      pub not_cancelled : near && all_cancel ids ≡ false → by_faces ids near ≡ Closed
      unfolding by_faces
      not_cancelled h = rw (asked, small, h)

  -- ---- what the chain says of ids

  pub free : boundary_free ids ≡ true → chained ids near ≡ Some (by_faces ids near)
  unfolding chained
  free h = rw h

  pub bounded : boundary_free ids ≡ false → chained ids near ≡ None
  unfolding chained
  bounded h = rw h

-- ---- given ids that are boundary-free are not welded; if they are not, the welded ones decide

module _ (vs : List Float) (ids : List ℕ) (ε : Float) (near : Bool) where
  module _ (given : boundary_free ids ≡ true) where
    pub as_given : by_chain vs ids ε near ≡ by_faces ids near
    unfolding by_chain
    as_given = rw given

  module _ (not-given : boundary_free ids ≡ false) where
    pub as_welded : boundary_free (welded vs ids ε) ≡ true → by_chain vs ids ε near ≡ by_faces (welded vs ids ε) near
    unfolding by_chain
    as_welded h = rw (not-given, h)

    pub open_still : boundary_free (welded vs ids ε) ≡ false → by_chain vs ids ε near ≡ OpenShell
    unfolding by_chain
    open_still h = rw (not-given, h)

  -- as the code asks them, one after the other
  pub given_then_welded : by_chain vs ids ε near ≡ unwrap_or (chained ids near) (open_unless_free (chained (welded vs ids ε) near))
  unfolding by_chain chained
  given_then_welded = go (boundary_free ids) (boundary_free (welded vs ids ε))
    where
      go : (b w : Bool) → cond b (by_faces ids near) (cond w (by_faces (welded vs ids ε) near) OpenShell)
          ≡ unwrap_or (cond b (Some (by_faces ids near)) None)
          (open_unless_free (cond w (Some (by_faces (welded vs ids ε) near)) None))
      go true w = refl
      go false true = refl
      go false false = refl

  pub given_some : (q : Quality) → chained ids near ≡ Some q → q ≡ by_chain vs ids ε near
  given_some q said = sym (given_then_welded ∙ ap (λ o. unwrap_or o (open_unless_free (chained (welded vs ids ε) near))) said)

  pub given_none : chained ids near ≡ None → open_unless_free (chained (welded vs ids ε) near) ≡ by_chain vs ids ε near
  given_none said = sym (given_then_welded ∙ ap (λ o. unwrap_or o (open_unless_free (chained (welded vs ids ε) near))) said)
