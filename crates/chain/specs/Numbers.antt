-- The number of each answer, as the C interface has it. A refusal n is 2^31 + n.
use Rattle.std.specs.Prelude.{ℕ, ◌+◌, ◌*◌, Bool, List, length}
use Rattle.ids.specs.Triangles.{triangle_count}
use Rattle.ids.specs.Uses.{bit}
use Rattle.ids.specs.EdgeChain.{closed_manifold, winding_coherent}
use Rattle.ids.specs.Refusal.{refused_number}
use Rattle.ids.specs.Lent.{Gives}
use Rattle.tally.specs.declared.Incidence.{Incidence}
use Rattle.tally.specs.declared.Net.{Net}
use Rattle.chain.specs.Answers.{incidence_of, net_of}

abbrev pub incidence_number : Incidence → ℕ
incidence_number said = bit said.boundary_free + 2 * bit said.over_incident

abbrev pub net_number : Net → ℕ
net_number said = 2 * said.max_abs + bit said.all_cancel

-- ---- the contracts of the C forms: the same routines, their answers as numbers

abbrev pub EdgeChainNumbered : List ℕ → List ℕ → ℕ → List ℕ → Type 0
EdgeChainNumbered ids area r after = Gives (4 * length ids) refused_number (incidence_number (incidence_of ids)) ids area r after

abbrev pub FaceNetNumbered : List ℕ → List ℕ → ℕ → List ℕ → Type 0
FaceNetNumbered ids area r after = Gives (4 * triangle_count ids) refused_number (net_number (net_of ids)) ids area r after

abbrev pub VerdictNumbered : (List ℕ → Bool) → List ℕ → List ℕ → ℕ → List ℕ → Type 0
VerdictNumbered holds ids area r after = Gives (4 * length ids) refused_number (bit (holds ids)) ids area r after

abbrev pub ClosedManifoldNumbered : List ℕ → List ℕ → ℕ → List ℕ → Type 0
ClosedManifoldNumbered = VerdictNumbered closed_manifold

abbrev pub WindingCoherentNumbered : List ℕ → List ℕ → ℕ → List ℕ → Type 0
WindingCoherentNumbered = VerdictNumbered winding_coherent
