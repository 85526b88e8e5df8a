-- `pieces::waiting::waiting_good` meets its contract. Assumes nothing.
use mathlib.Core.Path.{◌∙◌}
use native.Mathlib.Nat.{add-sub_cancel_left}
use Rattle.rules.specs.Place.{get}
use Rattle.pieces.proofs.waiting.waiting_good.Goals as goal

pub returns : goal.returns
unfolding get
returns c = c.all_good.ensures ∙ simp add-sub_cancel_left
