-- `surfaces::new_row` meets its contract: it writes the four floats, the sum in either order. Assumes nothing.
use Rattle.std.proofs.Common.{◌≡◌, rules}
use Rattle.ieee.proofs.Values.Commutes.{add_commutes}
use Rattle.surfaces.proofs.Buckets.{fresh, floats, row_written}
use Rattle.surfaces.proofs.new_row.Goals as goal

pub returns : goal.returns
returns c =
    let a = c.args in
    let row : c.copy_from_slice.new.self ≡ floats (fresh a.k a.area) = search (rules, add_commutes) in
    row_written a.k a.area a.rows.now _ a.n row c.requires.1
