-- `capi::record_c::record_words` meets its contract: word by word. Assumes nothing.
use mathlib.Core.List.{[], ◌∷◌}
use Rattle.ids.proofs.Bits.{byte_bit}
use Rattle.qto.specs.Numbers.{words_of}
use Rattle.capi.proofs.record_c.record_words.Goals as goal

pub returns : goal.returns
unfolding words_of
returns c =
    let t = c.args.t in
    λ i.
    c.from.ensures i
    ∷ byte_bit t.qto.volume_reliable i
    ∷ c.from-2.ensures i
    ∷ c.profile_number.ensures i
    ∷ c.bits.ensures i
    ∷ c.bits-2.ensures i
    ∷ c.bits-3.ensures i
    ∷ c.bits-4.ensures i
    ∷ c.bits-5.ensures i
    ∷ c.bits-6.ensures i
    ∷ c.bits-7.ensures i
    ∷ c.bits-8.ensures i
    ∷ c.bits-9.ensures i
    ∷ c.bits-10.ensures i
    ∷ c.prism_number.ensures i
    ∷ c.prism_bits.ensures i
    ∷ t.qto.surface_count
    ∷ t.qto.triangles_used
    ∷ t.qto.triangles_out_of_range
    ∷ t.qto.triangles_sliver
    ∷ t.pairs.z.covered
    ∷ t.pairs.z.rim
    ∷ t.pairs.y.covered
    ∷ t.pairs.y.rim
    ∷ t.pairs.x.covered
    ∷ t.pairs.x.rim
    ∷ []
