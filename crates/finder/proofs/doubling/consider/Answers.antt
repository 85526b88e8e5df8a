-- `finder::doubling::consider` meets its contract. Assumes nothing.
use Rattle.finder.proofs.Joined.{better}
use Rattle.finder.proofs.doubling.consider.Goals as goal

pub returns-then-g1-threshold_at : goal.returns-then-g1-threshold_at
returns-then-g1-threshold_at c =
    better _ _ _ _ _ _ c.second_place-t1b.ensures c.product_at.ensures
    c.product_at-2.ensures
    c.pitch_gain-g1.ensures c.threshold_at.ensures c.if-g1-threshold_at.true

pub returns : goal.returns
returns c =
    better _ _ _ _ _ _ c.second_place-t1b.ensures c.product_at.ensures
    c.product_at-2.ensures
    c.pitch_gain-g1.ensures c.threshold_at.ensures c.if-g1-threshold_at.false
