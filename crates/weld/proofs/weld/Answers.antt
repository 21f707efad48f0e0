-- `weld::weld` meets its contract: with no slot used nothing is entered, and with all vertices entered the ids are mapped as the weld
-- says. Assumes nothing.
use Rattle.std.proofs.Common.{◌≡◌, ℕ, ◌*◌, length, replicate, ap, ◌∙◌, arith}
use Rattle.vertices.specs.Vertices.{vertex_count}
use Rattle.cells.proofs.Welding.{welds_none}
use Rattle.weld.specs.Weld.{weld_all}
use Rattle.weld.proofs.Mapping.{slots_cleared, welds_all}
use Rattle.weld.proofs.weld.Goals as goal

pub gather-requires : goal.gather-requires
gather-requires c =
    let a = c.args in
    let n = vertex_count a.vertices.now in
    record {
      few = c.requires.few;
      words = omega (arith, c.clear.auto, c.split_at_mut-front.ensures.front_len, c.requires.words);
      welds = welds_none n a.vertices.now a.inv _ (λ r l. slots_cleared (2 * n) _ _ c.clear.ensures r l);
    }

pub returns : goal.returns
returns c =
    let a = c.args in
    let n = vertex_count a.vertices.now in
    let long : length c.gather.new.part ≡ 8 * n = omega (arith, c.gather.auto, c.clear.auto, c.split_at_mut-front.ensures.front_len) in
    let front : c.fill.new.self ≡ replicate (8 * n) 0 = c.fill.ensures.after (λ y e. e) ∙ ap (λ (k : ℕ). replicate k 0) long in
    let back : c.map_ids.new.to ≡ weld_all a.vertices.now a.inv a.ids.now =
    c.map_ids.ensures ∙ welds_all a.vertices.now a.inv c.gather.new.part a.ids.now (omega arith) c.gather.ensures in
    rw (front, back)
