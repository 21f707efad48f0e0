-- What `?` gives back of a refusal is that refusal. Assumes nothing.
use Rattle.std.proofs.Common.{◌≡◌, ◌∙◌, ap, Result, Err, IsErr, IsErrAnd}
use Rattle.std.proofs.lemmas.Result.{err_from_is_err_and}

pub passed_on : {T E : Type 0} (r : Result T E) (e : E) → IsErr r × IsErrAnd r (λ (y : E). y ≡ e) → r ≡ Err e
passed_on r e h =
    let p = err_from_is_err_and r h.1 in
    p.1 ∙ ap Err p.2
