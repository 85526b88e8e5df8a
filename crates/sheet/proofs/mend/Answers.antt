use mathlib.Core.Path.{◌∙◌}
use Rattle.sheet.proofs.Mending.{by_copy}
use Rattle.sheet.proofs.mend.Goals as goal

pub returns-in-Ok : goal.returns-in-Ok
returns-in-Ok c =
    c.copy_whole.ensures
    ∙ by_copy _ _ _ _ c.if-numbers-ne2.false c.if-file-place.false (rw c.if-found-at.true at c.in-Ok.ensures)
