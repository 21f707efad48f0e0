-- With the same measures and verdict, two records agree whatever the prisms are: only an open shell asks for its own. Assumes nothing.
use Rattle.std.specs.Prelude.{Some}
use mathlib.Core.Path.{◌≡◌, refl, sym, ◌∙◌}
use mathlib.Core.Bool.{Bool, true, false, cond}
use lib.Ieee.{Float}
use Rattle.verdict.specs.declared.Quality.{Quality}
use Rattle.volume.specs.declared.Method.{Method}
use Rattle.volume.specs.declared.Best.{Best}
use Rattle.volume.specs.Best.{upper, trusted, open_best, best_of}
use Rattle.record.specs.Numbers.{prism_number}
use Rattle.qto.specs.declared.Measures.{Measures}
use Rattle.qto.specs.Full.{record_from}
use Rattle.road.specs.Agree.{AgreeBy, AgreeRecords}

-- an open mesh has a prism bound, trusted or not
open_bounded : (v s aabb p : Float) → prism_number (open_best v s aabb p).prism ≡ 1
unfolding open_best prism_number
open_bounded v s aabb p = go (trusted p (upper p aabb) v s)
  where
    go : (t : Bool) → prism_number
        (cond {A = Best} t (record { volume = v; method = Method.MeshOpen; reliable = true; prism = Some p })
        (record { volume = p; method = Method.PrismFallback; reliable = false; prism = Some p })).prism ≡ 1
    go true = refl
    go false = refl

-- of a closed or degenerate mesh nothing asks for the prism, p or p'
pub agree_but_prism : (m : Measures) (q : Quality) (v s aabb p p' : Float)
    → AgreeRecords (record_from m aabb q (best_of q v s aabb p)) (record_from m aabb q (best_of q v s aabb p'))
unfolding record_from best_of AgreeBy
agree_but_prism m Quality.Closed v s aabb p p' = record { verdict = refl; rest = refl }
agree_but_prism m Quality.Degenerate v s aabb p p' = record { verdict = refl; rest = refl }
agree_but_prism m Quality.OpenShell v s aabb p p' =
    let bounded = open_bounded v s aabb p' ∙ sym (open_bounded v s aabb p) in
    record { verdict = refl; rest = search bounded }
