-- `halves::second::look_back` meets its contract. Assumes nothing.
use Rattle.std.specs.Prelude.{◌≤◌}
use Rattle.rules.proofs.Common.{refl, ap, ◌∙◌, length-take, length-drop}
use native.Mathlib.Omega.{arith}
use Rattle.rules.proofs.Refusals.{left as fitted}
use Rattle.finder.proofs.Lags.{lag_small}
use Rattle.halves.specs.Ways.{forward_by}
use Rattle.halves.proofs.Lagged.{looked_back_lem}
use Rattle.halves.proofs.second.look_back.Goals as goal

pub overflow_sub-from : goal.overflow_sub-from
overflow_sub-from c = rw c.whole_lag-lag.ensures (lag_small _)

pub returns : goal.returns
returns c =
    let share = c.args.share.now in
    let small : c.whole_lag-lag.result ≤ 768 = rw c.whole_lag-lag.ensures (lag_small _) in
    let window = fitted c.apply_window.ensures
    (record { into = refl; from = simp (length-take, length-drop) (omega arith) }) in
    c.forward.ensures
    ∙ ap (forward_by _) (window ∙ looked_back_lem share (omega arith) c.whole_lag-lag.ensures)
