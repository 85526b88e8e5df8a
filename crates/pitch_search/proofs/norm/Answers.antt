-- `pitch_search::norm` meets its contract. Assumes nothing.
use Rattle.std.specs.Prelude.{◌<◌}
use Rattle.rules.proofs.Common.{nan, Float, length-take}
use native.Mathlib.Omega.{arith}
use Rattle.rules.proofs.Loops.{turns}
use Rattle.std.proofs.lemmas.List.{get_or-take}
use Rattle.pitch_search.proofs.norm.Goals as goal

pub loop-y-init : goal.loop-y-init
loop-y-init c = search turns

pub loop-y-preserved : goal.loop-y-preserved
loop-y-preserved c =
    let l = c.loop-y in
    let inside : l.y-index < c.args.len = omega (arith, length-take {A = Float}) in
    let read = get_or-take c.args.len c.args.ys.now l.y-index nan inside in
    rw read (search turns)

pub returns : goal.returns
returns c = search turns
