-- No second outcome meets what a call's contract says. Assumes nothing.
use mathlib.Core.Path.{sym, ◌∙◌}
use Rattle.frame.specs.Effect.{Settled, SettledBoth}

pub settled : {A : Type 0} → Settled A
settled f answer answer' kept kept' held out out' w v =
    (w.answers ∙ sym v.answers, w.keeps ∙ sym v.keeps, w.writes ∙ sym v.writes)

pub settled_both : {A : Type 0} → SettledBoth A
settled_both f answer answer' kept kept' held out out' wholes noted noted' w v =
    let s = settled f answer answer' kept kept' held out out' w.floats v.floats in
    (s.0, s.1, s.2, w.notes ∙ sym v.notes)
