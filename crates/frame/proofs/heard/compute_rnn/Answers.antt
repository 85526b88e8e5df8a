-- `frame::heard::compute_rnn` meets its contract: the states come back as the network leaves them. Assumes nothing.
use mathlib.Core.Path.{refl, ap, sym, ◌∙◌}
use native.Mathlib.Omega.{arith}
use Rattle.rules.specs.Place.{get, put}
use Rattle.rules.proofs.Places.{length_get}
use Rattle.network.specs.Compute.{Outcome}
use Rattle.network.proofs.Callers.{computed_done}
use Rattle.network.proofs.States.{fit_on}
use Rattle.model.specs.Model.{read_of}
use Rattle.frame.proofs.Answered.{model_in, computed_ok}
use Rattle.frame.proofs.Spoken.{states, thought}
use Rattle.frame.proofs.heard.compute_rnn.Goals as goal

pub unwrap-requires : goal.unwrap-requires
unfolding get
unwrap-requires c =
    let n = c.compute_on in
    let a = c.args in
    let share = a.share.now in
    let lent = length_get states share (omega arith) in
    let good = (model_in (read_of a.model.now) c.requires.reads).1 in
    let done = n.ensures
    ∙ sym (computed_done _ _ _ _ _ _ _ (fit_on (get states share) (omega arith) refl lent (omega arith)) good refl) in
    computed_ok n.result (ap (λ (o : Outcome). o.answer) done)

pub returns : goal.returns
unfolding get put
returns c = λ m good.
    let n = c.compute_on in
    let a = c.args in
    let share = a.share.now in
    let lent = length_get states share (omega arith) in
    let done = n.ensures
    ∙ sym (computed_done _ _ _ _ _ _ _ (fit_on (get states share) (omega arith) refl lent (omega arith)) good refl) in
    thought share a.model.now m a.features.now n.new.states (omega arith) (n.auto.states ∙ lent)
    (ap (λ (o : Outcome). o.layers) done)
