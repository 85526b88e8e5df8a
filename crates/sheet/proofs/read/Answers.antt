use mathlib.Core.Path.{◌∙◌}
use Rattle.std.proofs.lemmas.Result.{err_from_is_err_and}
use Rattle.sheet.proofs.Halves.{pointed_good, read_checked, read_refused}
use Rattle.sheet.proofs.read.Goals as goal

pub returns-in_err-found : goal.returns-in_err-found
returns-in_err-found c =
    let p = err_from_is_err_and c.from_residual.result c.from_residual.ensures.1 in
    rw (p.1, p.2) (read_refused _ c.in_err-found.ensures.0)

pub checked_at-requires : goal.checked_at-requires
checked_at-requires c = pointed_good _ c.in_ok-found.ensures.0 c.in_ok-found.ensures.1

pub returns : goal.returns
returns c = c.checked_at.ensures ∙ read_checked _ c.in_ok-found.ensures.0
