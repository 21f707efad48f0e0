-- `surfaces::put_normal` meets its contract: from what the search found and what was written, by the laws `adds_new` and `adds_known`.
-- Assumes nothing.
use Rattle.std.proofs.Common.{sym, ap, ◌∙◌, subst, arith}
use borrow.Author.Rules.{rules}
use Rattle.ieee.proofs.Values.Commutes.{add_commutes}
use Rattle.slots.specs.inner.Forms.{narrow}
use Rattle.surfaces.specs.declared.Key.{Key}
use Rattle.surfaces.specs.Surfaces.{normal_key}
use Rattle.surfaces.specs.inner.Index.{with_row}
use Rattle.surfaces.proofs.Codes.{normal_fits}
use Rattle.surfaces.proofs.Gathering.{ready_searchable, adds_new, adds_known}
use Rattle.surfaces.proofs.put_normal.Goals as goal

pub find-requires : goal.find-requires
find-requires c = ready_searchable c.args.m c.args.n c.args.index.now c.args.rows.now c.requires

pub key_of-requires : goal.key_of-requires
key_of-requires c =
    let n = c.args.normal in
    subst narrow.Fits (sym c.code_of_normal-l.ensures) (normal_fits n.x n.y n.z)

pub claim-requires : goal.claim-requires
claim-requires c =
    let n = c.args.normal in
    record {
      words = record { small = c.requires.small; long = omega (arith, c.requires.words) };
      slot = c.in-Err.ensures.0.within;
      entry = c.requires.left;
      free = c.in-Err.ensures.1;
      fits = subst narrow.Fits (sym c.code_of_normal-l.ensures) (normal_fits n.x n.y n.z);
    }

pub returns-in-Ok : goal.returns-in-Ok
returns-in-Ok c =
    let a = c.args in
    let found = rw c.code_of_normal-l.ensures at c.in-Ok.ensures in
    adds_known a.m a.n (normal_key a.normal.x a.normal.y a.normal.z) a.area a.index.now a.rows.now _ found.0 c.requires found.1 c.in-Ok.row found.2 (search (rules, add_commutes))

pub returns-in-Err : goal.returns-in-Err
returns-in-Err c =
    let a = c.args in
    let code = c.code_of_normal-l.ensures in
    let found = rw code at c.in-Err.ensures in
    let claimed = rw code at c.claim.ensures in
    adds_new a.m a.n (normal_key a.normal.x a.normal.y a.normal.z) a.area a.index.now a.rows.now c.new_row.new.rows c.in-Err.free c.requires found.0
    c.claim.new.part found.1 claimed
    (c.new_row.ensures ∙ ap (λ (x : Key). with_row a.rows.now a.n x a.area) (c.key_of.ensures a.normal.x a.normal.y a.normal.z code))
