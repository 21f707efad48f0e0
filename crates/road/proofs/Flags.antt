-- The same flags on two records that agree: they still do; and flags pass over volume and areas. Assumes nothing.
use Rattle.std.specs.Prelude.{Option, Some, None}
use mathlib.Core.Path.{◌≡◌, refl, sym, ◌∙◌, ap, subst}
use mathlib.Core.Bool.{Bool, true, false}
use lib.Ieee.{Float}
use Rattle.sums.specs.declared.totals.Areas.{Areas}
use Rattle.verdict.specs.declared.Quality.{Quality}
use Rattle.volume.specs.declared.Method.{Method}
use Rattle.record.specs.declared.ProfileDefect.{ProfileDefect}
use Rattle.record.specs.declared.MeshQto.{MeshQto}
use Rattle.record.specs.Flags.{marked, clip_unapplied, profile_invalid, if_clip, if_invalid, flagged}
use Rattle.record.proofs.Kept.{flags_leave}
use Rattle.road.specs.Agree.{AgreeBy, AgreeButBest, AgreeRecords, FlagsKeep}
use Rattle.road.specs.Replaced.{areas_in, replaced}

-- what leaves the verdict alone and keeps agreement but for the four keeps agreement
keeps : (mark : MeshQto → MeshQto) → ((q : MeshQto) → (mark q).mesh_quality ≡ q.mesh_quality)
    → ((q q' : MeshQto) → AgreeButBest q q' → AgreeButBest (mark q) (mark q'))
    → (q q' : MeshQto) → AgreeRecords q q' → AgreeRecords (mark q) (mark q')
unfolding AgreeBy
keeps mark same open-keeps q q' r =
    record {
      verdict = same q' ∙ r.verdict ∙ sym (same q);
      rest = subst (λ (v : Quality). AgreeBy v (mark q) (mark q')) (sym (same q)) (by q.mesh_quality r.rest);
    }
  where
    by : (v : Quality) → AgreeBy v q q' → AgreeBy v (mark q) (mark q')
    by Quality.Closed e = ap mark e
    by Quality.Degenerate e = ap mark e
    by Quality.OpenShell e = open-keeps q q' e

marked_open : (to to' : Method) (p p' : Option ProfileDefect) (q q' : MeshQto) → p' ≡ p → AgreeButBest q q'
    → AgreeButBest (marked to p q) (marked to' p' q')
unfolding marked
marked_open to to' p p' q q' e r =
    record {
      volume = r.volume;
      aabb = r.aabb;
      surface = r.surface;
      top = r.top;
      bottom = r.bottom;
      side = r.side;
      inclined = r.inclined;
      largest = r.largest;
      smallest = r.smallest;
      count = r.count;
      profile = e;
      used = r.used;
      out_of_range = r.out_of_range;
      sliver = r.sliver;
      bounded = r.bounded;
    }

clip_keeps : (clip : Bool) (q q' : MeshQto) → AgreeRecords q q' → AgreeRecords (if_clip clip q) (if_clip clip q')
unfolding if_clip marked
clip_keeps false q q' r = r
clip_keeps true q q' r =
    keeps clip_unapplied (λ x. refl) (λ x x' e. marked_open _ _ x.profile_invalid x'.profile_invalid x x' e.profile e) q q' r

profile_keeps : (profile : Option ProfileDefect) (q q' : MeshQto) → AgreeRecords q q' → AgreeRecords (if_invalid profile q)
    (if_invalid profile q')
unfolding if_invalid marked
profile_keeps None q q' r = r
profile_keeps (Some d) q q' r =
    keeps (λ x. profile_invalid x d) (λ x. refl) (λ x x' e. marked_open _ _ (Some d) (Some d) x x' refl e) q q' r

pub flags_keep : FlagsKeep
flags_keep clip profile q q' r = profile_keeps profile (if_clip clip q) (if_clip clip q') (clip_keeps clip q q' r)

-- flags neither look at the volume and the areas by slope nor write them
pub flags_pass : (clip : Bool) (profile : Option ProfileDefect) (volume : Float) (areas : Areas) (q : MeshQto)
    → flagged clip profile (replaced volume areas q) ≡ replaced volume areas (flagged clip profile q)
unfolding if_clip if_invalid marked replaced
flags_pass true None volume areas q = refl
flags_pass true (Some d) volume areas q = refl
flags_pass false None volume areas q = refl
flags_pass false (Some d) volume areas q = refl

-- so what is made of these two is made of them behind the flags as well
pub flags_replace : (volume : Float → Float) (areas : Areas → Areas) (clip : Bool) (profile : Option ProfileDefect) (q : MeshQto)
    → flagged clip profile (replaced (volume q.volume_m3) (areas (areas_in q)) q)
    ≡ replaced (volume (flagged clip profile q).volume_m3) (areas (areas_in (flagged clip profile q))) (flagged clip profile q)
unfolding marked
flags_replace volume areas clip profile q =
    let v = flags_leave (λ x. x.volume_m3) (λ to p x. refl) clip profile q in
    let a = flags_leave areas_in (λ to p x. refl) clip profile q in
    flags_pass clip profile (volume q.volume_m3) (areas (areas_in q)) q
    ∙ (λ i. replaced (volume (sym v i)) (areas (sym a i)) (flagged clip profile q))
