-- `pieces::finish::go_on` meets its contract. Assumes nothing.
use Rattle.std.specs.Prelude.{◌+◌, ◌-◌}
use Rattle.rules.proofs.Common.{length-take, length-drop}
use native.Mathlib.Omega.{arith}
use Rattle.pieces.proofs.Goods.{good_take, good_drop}
use Rattle.pieces.proofs.Serve.{rest_waits, rest_begins}
use Rattle.pieces.proofs.finish.go_on.Goals as goal

pub returns-then-samples-from-lt480 : goal.returns-then-samples-from-lt480
returns-then-samples-from-lt480 c =
    let a = c.args in
    rest_waits a.share.now a.way a.samples.now a.from a.sums.now c.if-samples-from-lt480.true
    c.keep.ensures

pub enter-requires : goal.enter-requires
enter-requires c =
    let a = c.args in (
      c.requires.0,
      simp (length-take, length-drop) (omega arith),
      good_take (a.from + 480 - a.from) _ (good_drop a.from a.samples.now c.requires.2),
      c.requires.3,
    )

pub returns : goal.returns
returns c =
    let n = c.enter.ensures in
    let a = c.args in
    rest_begins a.share.now a.way a.samples.now a.from a.sums.now c.if-samples-from-lt480.false n.share_after
    n.sums_after
