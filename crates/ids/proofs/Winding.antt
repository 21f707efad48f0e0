-- `winding_coherent` is yes exactly where some edge exists and at most one in fifty is incoherent, said of two lists that have these edges
-- each once. Assumes nothing.
use mathlib.Core.Path.{◌≡◌, refl, sym, ap, ◌∙◌}
use mathlib.Core.Bool.{Bool, true, false, not, ◌&&◌, true≢false}
use mathlib.Core.List.{List}
use Prim.Native.Nat.{ℕ, zero, suc, ◌*◌, ◌<◌}
use native.Mathlib.Omega.{arith}
use native.Mathlib.Decide.{dec_lt}
use borrow.Author.Tests.{lt-ltb, le-leb, ne_eqb, eqb-true, leb-true}
use lib.Dec.{ltb, eqb}
use lib.IntN.{nat_abs}
use lib.ListN.{length}
use Rattle.ids.specs.Uses.{bit, times, uses, signed_sum, keys, keys_that}
use Rattle.ids.specs.EdgeChain.{Edge, same_edge, edges_that, present, incoherent, proper_edges, winding_coherent}
use Rattle.ids.specs.Meaning.{Tells, EachOnce, Incoherent, WindingCoherent}
use Rattle.ids.proofs.Same.{both, edge_eq, edge_refl}
use Rattle.ids.proofs.Keys.{keys_once}
use Rattle.ids.proofs.Times.{passing, passing_length, passing_times, ones_length, same_length}
use Rattle.ids.proofs.Meaning.{abs_zero, bit_some, above, and_true}

-- ---- used neither once nor twice, once each way

incoherent_tells : (n s : ℕ) → incoherent n s ≡ true → (n ≡ 1 → ⊥) × (n ≡ 2 → s ≡ 0 → ⊥)
unfolding incoherent
incoherent_tells n s h =
    (λ e. true≢false (sym h ∙ ap (λ k. incoherent k s) e), λ e z. true≢false (sym h ∙ (ap (λ k. incoherent k s) e ∙ ap (incoherent 2) z)))

incoherent_told : (n s : ℕ) → (n ≡ 1 → ⊥) → (n ≡ 2 → s ≡ 0 → ⊥) → incoherent n s ≡ true
unfolding incoherent
incoherent_told n s once paired = rw (ne_eqb n 1 once) (go (eqb n 2) refl)
  where
    go : (b : Bool) → eqb n 2 ≡ b → not (b && eqb s 0) ≡ true
    go true e = rw (ne_eqb s 0 (paired (eqb-true n 2 e)))
    go false e = refl

-- two lists of just the edges of which P holds, each once, are equally long
same_listed : (P : Edge → Type 0) (es fs : List Edge) → EachOnce P es → EachOnce P fs → length es ≡ length fs
same_listed P es fs h g =
    same_length same_edge edge_eq edge_refl es fs (λ e. go e (dec_lt 0 (times same_edge e es)) (dec_lt 0 (times same_edge e fs)))
  where
    go : (e : Edge) → Dec (0 < times same_edge e es) → Dec (0 < times same_edge e fs) → times same_edge e es ≡ times same_edge e fs
    go e (yes l) m = h.once e (h.only e l) ∙ sym (g.once e (h.only e l))
    go e (no l) (yes m) = h.once e (g.only e m) ∙ sym (g.once e (g.only e m))
    go e (no l) (no m) = omega arith

-- ---- the answer

module _ (ids : List ℕ) where
  -- the edges used, each once, and those of them that are incoherent

  abbrev present_edges : ℕ
  present_edges = edges_that present (proper_edges ids)

  abbrev bad_edges : ℕ
  bad_edges = edges_that incoherent (proper_edges ids)

  abbrev edges : List Edge
  edges = keys same_edge (proper_edges ids)

  abbrev uses_of : Edge → ℕ
  uses_of e = uses same_edge e (proper_edges ids)

  abbrev is_bad : Edge → Bool
  is_bad e = incoherent (uses_of e) (nat_abs (signed_sum same_edge e (proper_edges ids)))

  abbrev bad : List Edge
  bad = passing is_bad edges

  edges_count : present_edges ≡ length edges
  unfolding keys_that present
  edges_count = ones_length _ edges (λ e. refl)

  bad_count : bad_edges ≡ length bad
  unfolding keys_that
  bad_count = sym (passing_length is_bad edges)

  edge_times : (e : Edge) → times same_edge e edges ≡ bit (ltb 0 (uses_of e))
  edge_times e = keys_once same_edge edge_eq edge_refl e (proper_edges ids)

  edges_listed : EachOnce (λ e. 0 < uses_of e) edges
  unfolding bit
  edges_listed = record {
    once = λ e l. edge_times e ∙ ap bit (lt-ltb 0 (uses_of e) l);
    only = λ e l. above (uses_of e) (bit_some _ (omega (arith, l, edge_times e)));
  }

  bad_times : (e : Edge) → times same_edge e bad ≡ bit (is_bad e) * bit (ltb 0 (uses_of e))
  bad_times e = passing_times same_edge edge_eq edge_refl is_bad e edges ∙ ap (λ n. bit (is_bad e) * n) (edge_times e)

  is_bad_lem : (e : Edge) → Incoherent ids e → is_bad e ≡ true
  is_bad_lem e h = incoherent_told _ _ h.not_once (λ two none. h.not_paired two (abs_zero _ none))

  bad_listed : EachOnce (Incoherent ids) bad
  unfolding bit
  bad_listed = record {
    once = λ e h. let b : bit (is_bad e) ≡ 1 = ap bit (is_bad_lem e h) in
        let u : bit (ltb 0 (uses_of e)) ≡ 1 = ap bit (lt-ltb 0 (uses_of e) h.used) in
        bad_times e ∙ rw (b, u);
    only = λ e l. let w = both_above (bit (is_bad e)) (bit (ltb 0 (uses_of e))) (omega (arith, l, bad_times e)) in
        let n = incoherent_tells _ _ (bit_some (is_bad e) w.0) in
        record { used = above (uses_of e) (bit_some _ w.1); not_once = n.0; not_paired = λ two none. n.1 two (ap nat_abs none) };
  }
    where
      both_above : (a b : ℕ) → 0 < a * b → (0 < a) × (0 < b)
      both_above zero b l = absurd (omega (arith, l))
      both_above (suc a) zero l = absurd (omega (arith, l))
      both_above (suc a) (suc b) l = (omega arith, omega arith)

  pub winding_coherent_tells : Tells (winding_coherent ids) (WindingCoherent ids)
  unfolding winding_coherent
  winding_coherent_tells = record {
    sound = λ h. let w = both _ _ h in
        let v = both _ _ w.1 in
        record {
          long_enough = w.0;
          edges = edges;
          bad = bad;
          all_edges = edges_listed;
          all_bad = bad_listed;
          some = omega (arith, above present_edges v.0, edges_count);
          few = omega (arith, leb-true (50 * bad_edges) present_edges v.1, edges_count, bad_count);
        };
    complete = λ h. let n = same_listed (λ e. 0 < uses_of e) edges h.edges edges_listed h.all_edges in
        let m = same_listed (Incoherent ids) bad h.bad bad_listed h.all_bad in
        and_true _ _ h.long_enough
        (and_true _ _ (lt-ltb 0 present_edges (omega (arith, edges_count, n, h.some)))
        (le-leb (50 * bad_edges) present_edges (omega (arith, edges_count, bad_count, n, m, h.few))));
  }
