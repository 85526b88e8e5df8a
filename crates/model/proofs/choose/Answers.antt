-- Each answer by the number of the file that is chosen. Assumes nothing.
use mathlib.Core.Path.{◌∙◌}
use native.Mathlib.Omega.{arith}
use Rattle.model.proofs.Places.{empty_seen, chosen_by}
use Rattle.model.proofs.choose.Goals as goal

pub returns-in-Trial : goal.returns-in-Trial
returns-in-Trial c =
    let a = c.args in
    (chosen_by a.trial a.house _ c.choice.ensures).0 (rw c.in-Trial.is)

pub returns-in-House : goal.returns-in-House
returns-in-House c =
    let a = c.args in
    (chosen_by a.trial a.house _ c.choice.ensures).1 (rw c.in-House.is)

pub returns-in-Neither : goal.returns-in-Neither
returns-in-Neither c =
    let a = c.args in
    empty_seen a.trial ∙ (chosen_by a.trial a.house _ c.choice.ensures).2 (rw c.in-Neither.is (omega arith))
