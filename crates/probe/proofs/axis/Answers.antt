-- `probe::axis` meets its contract: 0, 1, and any other number for z. Assumes nothing.
use mathlib.Core.Path.{◌≡◌, refl}
use Prim.Native.Nat.{ℕ, zero, suc}
use native.Mathlib.Omega.{arith}
use Rattle.vertices.specs.declared.Axis.{Axis}
use Rattle.probe.specs.inner.Asked.{axis_at}
use Rattle.probe.proofs.axis.Goals as goal

neither : (n : ℕ) → (n ≡ 0 → ⊥) → (n ≡ 1 → ⊥) → Axis.Z ≡ axis_at n
unfolding axis_at
neither zero p q = absurd (p refl)
neither (suc zero) p q = absurd (q refl)
neither (suc (suc n)) p q = refl

pub returns-then-n-eq0 : goal.returns-then-n-eq0
unfolding axis_at
returns-then-n-eq0 c = rw c.if-n-eq0.true

pub returns-then-n-eq1 : goal.returns-then-n-eq1
unfolding axis_at
returns-then-n-eq1 c = rw c.if-n-eq1.true

pub returns-else-n-eq1 : goal.returns-else-n-eq1
returns-else-n-eq1 c =
    neither c.args.n (λ e. absurd (omega (arith, e, c.if-n-eq0.false)))
    (λ e. absurd (omega (arith, e, c.if-n-eq1.false)))
