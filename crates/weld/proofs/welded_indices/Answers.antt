-- `weld::welded_indices` meets its contract: by the test of ε and of the length, as `unwelded` has it. Assumes nothing.
use Rattle.std.proofs.Common.{◌≡◌, ℕ, ◌*◌, List, ◌++◌, replicate, ap, ◌∙◌}
use lib.Ieee.{Float}
use Rattle.vertices.specs.Vertices.{vertex_count}
use Rattle.weld.specs.Weld.{inverse, weld_all, unwelded}
use Rattle.weld.proofs.Mapping.{welded_not, welded_so}
use Rattle.weld.proofs.welded_indices.Goals as goal

-- the ids behind the words of a table that is cleared
behind : (vs : List Float) (ids ids' : List ℕ) → ids ≡ ids'
    → replicate (8 * vertex_count vs) 0 ++ ids ≡ replicate (8 * vertex_count vs) 0 ++ ids'
behind vs ids ids' = ap (λ (l : List ℕ). replicate (8 * vertex_count vs) 0 ++ l)

pub returns-then-is_nan-eps : goal.returns-then-is_nan-eps
unfolding unwelded
returns-then-is_nan-eps c =
    let a = c.args in
    c.keep.ensures
    ∙ behind a.vertices.now _ _ (welded_not a.vertices.now a.indices.now a.eps (rw (← c.is_nan.ensures.value) c.if-is_nan-eps.true))

pub returns : goal.returns
unfolding unwelded
returns c =
    let a = c.args in
    let vs = a.vertices.now in
    c.weld.ensures
    ∙ behind vs _ _ (ap (λ (ε : Float). weld_all vs (inverse ε) a.indices.now) c.f32_to_f64_with_nan.ensures
    ∙ welded_so vs a.indices.now a.eps (rw (← c.is_nan.ensures.value) c.if-is_nan-eps.false))
