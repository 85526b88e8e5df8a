-- The three bytes of a header, or too few. Assumes nothing.
use Rattle.rules.proofs.Common.{◌∙◌}
use native.Mathlib.Omega.{arith}
use Rattle.model.proofs.Layer.{short, headed_step}
use Rattle.model.proofs.Cursor.layer.Goals as goal

pub returns-then-bytes-at : goal.returns-then-bytes-at
returns-then-bytes-at c = short _ _ _ (omega arith)

pub returns : goal.returns
returns c =
    let a = c.args in
    c.headed_by.ensures ∙ headed_step a.kind a.bytes.now a.self.at (omega arith)
