-- No component of a used triangle's unit normal is above 2 in size, so that ten times it is far within an i32: the length of the cross
-- product is at least the greatest power of two within the component, and no rounding passes a power of two. Assumes nothing.
use Rattle.std.proofs.Common.{◌≡◌, ℕ, suc, ◌+◌, ◌*◌, ◌^◌, ◌<◌, ◌≤◌, false, not, T, ◌⊎◌, List, refl, inl, inr, ⊎_elim, mul-le-mul_right, mul-le-mul, mul-pos, le_of_mul-le-mul_right, arith, lit<, lit≤, pow_pos, pow_mono, pow-add}
use native.Mathlib.Decide.{dec_le}
use lib.Ieee.{Float, nan, inf, fin, binary32, binary64, up, down, round, unlike, mul, le, lt, is_nan, of_bits}
use lib.Ieee.Exact.{HasValue}
use lib.Ieee.Fits.{add-fits, down_pos}
use lib.Ieee.Positive.{num, den, positive, den_pos, own_value, above_of_le, le→cross}
use lib.Ieee.Scale.{finite}
use Rattle.ieee.specs.Double.{◌⊞◌, ◌⊠◌, ◌⧄◌, one64}
use Rattle.ieee.specs.Magnitude.{magnitude}
use Rattle.ieee.proofs.Order.Comparison.{le_of_not_lt}
use Rattle.ieee.proofs.Order.Quotients.{num_pos}
use Rattle.ieee.proofs.Order.Signed.{AtMost, le_of_at_most}
use Rattle.ieee.proofs.Values.ByValue.{div_values}
use Rattle.sums.specs.inner.Plus.{plus}
use Rattle.sums.specs.Facet.{at, dot, normal, facet_of, part, shortest, size as length, unit, used}
use Rattle.sums.specs.Box.{box, origin}
use Rattle.sums.specs.Fine.{all_fine}
use Rattle.sums.specs.declared.triangle.Facet.{Facet}
use Rattle.ids.specs.Triangles.{Triangle}
use Rattle.sums.proofs.Fractions.{Has, has_powers, not_over, root_least, more_sum, more_square, finite_above, positive_num, num_some}
use Rattle.sums.proofs.Fractions.{power_below, power}
use Rattle.sums.proofs.Plus.{plus_add, plus_square}
use Rattle.sums.proofs.AreaLaws.{dot_plus, size_within}
use Rattle.sums.proofs.Small.{Three, Small, dot_three, normal_three, part_has}
use Rattle.sums.proofs.Within.{Within, power_value, within_both, within_most, within_mul, within_number, within_rounded}
use Rattle.sums.proofs.Within.{within_value}

-- ---- the square of the length is at least that of a component

module _ (n : List Float) (t : Three (2 ^ 71) n) where
  abbrev square : ℕ → Float
  square i = at n i ⊠ at n i

  -- from zero up, and finite
  record Fair (k : ℕ) (x : Float) : Type 0 where
    from_zero : T (plus x)
    within : Within (2 ^ k) x

  fair_square : (x : Float) → Within (2 ^ 71) x → Fair 142 (x ⊠ x)
  fair_square x w =
      record { from_zero = plus_square binary64 x (within_number (2 ^ 71) x w); within = within_mul binary64 71 71 x x (lit≤ tt) w w }

  fair_sum : (k : ℕ) (x y : Float) → suc k ≤ 1023 → Fair k x → Fair k y → Fair (suc k) (x ⊞ y)
  fair_sum k x y K p q =
      record {
        from_zero = plus_add binary64 x y p.from_zero q.from_zero;
        within = within_both binary64 k x y K p.within q.within;
      }

  fair_more : (k : ℕ) (x : Float) → Fair k x → Fair (suc k) x
  fair_more k x p = record { from_zero = p.from_zero; within = within_most (2 ^ k) (2 ^ suc k) x (pow_mono (omega arith)) p.within }

  module _ (a b : ℕ) (B : 0 < b) (has : Has binary64 (a * a) (b * b)) where
    abbrev Least : Float → Type 0
    Least x = a * den x ≤ num x * b

    dot_least : Least (at n 0) ⊎ (Least (at n 1) ⊎ Least (at n 2)) → a * a * den (dot n n) ≤ num (dot n n) * (b * b)
    dot_least h =
        let p = fair_square (at n 0) t.x in
        let q = fair_square (at n 1) t.y in
        let r = fair_square (at n 2) t.z in
        let pq = fair_sum 142 (square 0) (square 1) (lit≤ tt) p q in
        let d = fair_sum 143 (square 0 ⊞ square 1) (square 2) (lit≤ tt) pq (fair_more 142 (square 2) r) in
        let both : Least (at n 0) ⊎ Least (at n 1) → a * a * den (square 0 ⊞ square 1) ≤ num (square 0 ⊞ square 1) * (b * b) =
        λ g. more_sum binary64 (a * a) (b * b) (mul-pos B B) has (square 0) (square 1) p.from_zero q.from_zero p.within.finite_is
        q.within.finite_is pq.within.finite_is
        (⊎_elim (λ l. inl (more_square binary64 a b B has (at n 0) t.x.finite_is p.within.finite_is l))
        (λ l. inr (more_square binary64 a b B has (at n 1) t.y.finite_is q.within.finite_is l)) g) in
        more_sum binary64 (a * a) (b * b) (mul-pos B B) has (square 0 ⊞ square 1) (square 2) pq.from_zero r.from_zero
        pq.within.finite_is r.within.finite_is d.within.finite_is
        (⊎_elim (λ l. inl (both (inl l)))
        (⊎_elim (λ l. inl (both (inr l)))
        (λ l. inr (more_square binary64 a b B has (at n 2) t.z.finite_is r.within.finite_is l))) h)

-- ---- a component over the length

two_value : HasValue (round binary64 false 2 1) false 2 1
two_value = power_value binary64 1 (lit≤ tt)

product_within : (x y : Float) → T (finite x) → T (finite y) → num x * num y ≤ 2 * (den x * den y) → Within 2 (x ⊠ y)
unfolding mul
product_within nan y g k h = absurd g
product_within (inf s) y g k h = absurd g
product_within (fin s m e) nan g k h = absurd k
product_within (fin s m e) (inf t) g k h = absurd k
product_within (fin s m e) (fin t n d) g k h =
    within_value binary64 2 two_value (unlike s t) (m * up e * (n * up d)) (down e * down d) (mul-pos (down_pos e) (down_pos d)) h

module _ (l : Float) (p : T (positive l)) (long : den l ≤ 2 ^ 40 * num l) where
  inverse_is : one64 ⧄ l ≡ round binary64 false (1 * den l) (num l * 1)
  unfolding of_bits
  inverse_is =
      div_values binary64 one64 l false 1 1 false (num l) (den l) (lit< tt) (den_pos l) (refl, refl) (own_value l p) (num_pos l p)

  abbrev inverse : Float
  inverse = round binary64 false (1 * den l) (num l * 1)

  inverse_finite : T (finite inverse)
  inverse_finite =
      (within_value binary64 (2 ^ 40) (power_value binary64 40 (lit≤ tt)) false (1 * den l) (num l * 1) (omega (arith, num_pos l p))
      (omega arith)).finite_is

  -- |x| is at most twice a / b, and the length at least that
  over_length : (x : Float) (a b : ℕ) → 0 < a → 0 < b → Has binary64 b a → T (finite x) → num x * b ≤ 2 * a * den x → a * den l ≤ num l * b
      → Within 2 (x ⊠ (one64 ⧄ l))
  over_length x a b A B has g h k =
      let over = not_over binary64 b a (1 * den l) (num l * 1) A (omega (arith, num_pos l p)) has inverse_finite (omega arith) in
      rw inverse_is (product_within x inverse g inverse_finite (cancelled (num x) (den x) (num inverse) (den inverse) h over))
    where
      cancelled : (m c n d : ℕ) → m * b ≤ 2 * a * c → n * a ≤ b * d → m * n ≤ 2 * (c * d)
      cancelled m c n d h k =
          let z = mul-le-mul h k in
          let g : m * n * (a * b) ≤ 2 * (c * d) * (a * b) = omega arith in
          le_of_mul-le-mul_right g (mul-pos A B)

-- ---- all components of a cross product that is long enough

-- 1e-12 is above 2 ^ -40
shortest_is : den shortest ≤ 2 ^ 40 * num shortest
unfolding of_bits
shortest_is = lit≤ tt

shortest_positive : T (positive shortest) × T (not (is_nan shortest))
unfolding of_bits is_nan
shortest_positive = (tt, tt)

module _ (n : List Float) (t : Three (2 ^ 71) n) (enough : lt (length n) shortest ≡ false) where
  abbrev l : Float
  l = length n

  l_finite : T (finite l)
  l_finite = (size_within n t).finite_is

  l_least : T (le shortest l)
  l_least = le_of_not_lt shortest l shortest_positive.1 (within_number (2 ^ 72) l (size_within n t)) enough

  l_positive : T (positive l)
  l_positive = finite_above l (above_of_le shortest l shortest_positive.0 l_least) l_finite

  l_long : den l ≤ 2 ^ 40 * num l
  l_long =
      cancelled (num shortest) (den shortest) (num_pos shortest shortest_positive.0) shortest_is
      (le→cross shortest l shortest_positive.0 l_positive l_least)
    where
      cancelled : (s c : ℕ) → 0 < s → c ≤ 2 ^ 40 * s → s * den l ≤ num l * c → den l ≤ 2 ^ 40 * num l
      cancelled s c S h k =
          let z = mul-le-mul_right (num l) h in
          let g : den l * s ≤ 2 ^ 40 * num l * s = omega arith in
          le_of_mul-le-mul_right g S

  -- one of the three
  Component : Float → Type 0
  Component x = (a b : ℕ) → 0 < b → Has binary64 (a * a) (b * b) → a * den x ≤ num x * b → a * a * den (dot n n) ≤ num (dot n n) * (b * b)

  -- 2 ^ k / 2 ^ 40 is at most |x|, and at least half of it
  by_power : (x : Float) → Within (2 ^ 71) x → Component x → (k : ℕ) → 2 ^ k * den x ≤ num x * 2 ^ 40
      → num x * 2 ^ 40 ≤ 2 * 2 ^ k * den x → Within 2 (x ⊠ (one64 ⧄ l))
  unfolding length Component
  by_power x w part k h g =
      let few : k ≤ 71 + 40 = power_below k 71 40 (num x) (den x) (den_pos x) h w.small in
      let squares : Has binary64 (2 ^ k * 2 ^ k) (2 ^ 40 * 2 ^ 40) =
      rw (← pow-add 2 k k, ← pow-add 2 40 40) (has_powers binary64 (k + k) (40 + 40) (omega arith) (lit≤ tt)) in
      let more = part (2 ^ k) (2 ^ 40) (pow_pos 40) squares h in
      let some = dot_plus (2 ^ 71) n t in
      let above_zero = num_some (2 ^ k * 2 ^ k) (2 ^ 40 * 2 ^ 40) (num (dot n n)) (den (dot n n)) (mul-pos (pow_pos k) (pow_pos k))
      (den_pos (dot n n)) more in
      let positive-dot = positive_num (dot n n) some (dot_three 71 71 n n (lit≤ tt) t t).finite_is above_zero in
      over_length l l_positive l_long x (2 ^ k) (2 ^ 40) (pow_pos k) (pow_pos 40)
      (has_powers binary64 40 k (lit≤ tt) (omega arith)) w.finite_is g
      (root_least binary64 (2 ^ k) (2 ^ 40) (pow_pos k) (pow_pos 40) (has_powers binary64 k 40 (omega arith) (lit≤ tt)) (dot n n)
      (add-fits binary64 _ _) positive-dot more)

  component_within : (x : Float) → Within (2 ^ 71) x → Component x → Within 2 (x ⊠ (one64 ⧄ l))
  component_within x w part =
      elim (dec_le (den x) (num x * 2 ^ 40)) [
        | yes h ↦ (let p = power (num x * 2 ^ 40) (den x) (den_pos x) h in by_power x w part p.at p.reached p.passed)
        | no h ↦ over_length l l_positive l_long x 1 (2 ^ 40) (lit< tt) (pow_pos 40) (has_powers binary64 40 0 (lit≤ tt) (omega arith))
            w.finite_is (omega arith) (omega (arith, l_long))
      ]

  pub record UnitWithin : Type 0 where
    pub x : Within 2 (unit l (at n 0))
    pub y : Within 2 (unit l (at n 1))
    pub z : Within 2 (unit l (at n 2))

  pub unit_within : UnitWithin
  unfolding Component
  unit_within =
      let narrowed = within_rounded binary32 2 (power_value binary32 1 (lit≤ tt)) in
      record {
        x = narrowed _ (component_within (at n 0) t.x (λ a b B has h. dot_least n t a b B has (inl h)));
        y = narrowed _ (component_within (at n 1) t.y (λ a b B has h. dot_least n t a b B has (inr (inl h))));
        z = narrowed _ (component_within (at n 2) t.z (λ a b B has h. dot_least n t a b B has (inr (inr h))));
      }

-- ---- of a used triangle

-- 2 in f32
abbrev pub two : Float
two = of_bits binary32 0x4000_0000

pub record UnitFacet (f : Facet) : Type 0 where
  pub x : T (le (magnitude f.nx) two)
  pub y : T (le (magnitude f.ny) two)
  pub z : T (le (magnitude f.nz) two)

within_two : (x : Float) → Within 2 x → T (le (magnitude x) two)
unfolding magnitude of_bits AtMost
within_two nan w = absurd w.finite_is
within_two (inf s) w = absurd w.finite_is
within_two (fin s m e) w =
    le_of_at_most false false (m * up e) (down e) 2 1 (down_pos e) (lit< tt) (fin false m e) two (refl, refl) (refl, refl)
    (omega (arith, w.small))

facet_unit : (t : List (List Float)) → Small t → lt (length (normal t)) shortest ≡ false
    → UnitFacet (facet_of t (normal t) (length (normal t)))
unfolding facet_of
facet_unit t p enough =
    let u = unit_within (normal t) (normal_three t p) enough in
    record { x = within_two _ u.x; y = within_two _ u.y; z = within_two _ u.z }

pub part_unit : (vs : List Float) (t : Triangle) (f : Facet) → T (all_fine vs) → part vs (origin (box vs)) t ≡ used f → UnitFacet f
part_unit = part_has UnitFacet facet_unit
