-- `whole::spoken::process_frame` meets its contract: both halves, with our logarithms between them, and the record.
-- Assumes nothing.
use Rattle.std.specs.Prelude.{◌≡◌, Result}
use native.Mathlib.Omega.{arith}
use Rattle.rules.proofs.Common.{refl, ap, ◌∙◌}
use Rattle.rules.specs.Place.{get, put}
use Rattle.rules.proofs.Refusals.{left}
use Rattle.frame.specs.Answer.{as_reply}
use Rattle.frame.specs.declared.answer.Told.{Told}
use Rattle.frame.specs.declared.answer.Cause.{Cause}
use Rattle.frame.specs.Reply.{passed}
use Rattle.desk.specs.Answer.{Answer, answer_of}
use Rattle.desk.specs.declared.Record.{Record}
use Rattle.desk.specs.Private.{told_second, after_second}
use Rattle.desk.proofs.Results.{is_done, is_answered, second_answered}
use Rattle.whole.proofs.Said.{spoke, first_fits, second_fits, spoke_length}
use Rattle.whole.proofs.spoken.process_frame.Goals as goal

-- the answer in the words of `told_second`
said : (rec : Record) (outcome : Result Told Cause) {result : Result (Told × Record) Cause}
    → result ≡ after_second rec outcome → answer_of rec result ≡ told_second rec (as_reply outcome)
said rec outcome e = ap (answer_of rec) e ∙ second_answered rec outcome

pub unwrap-requires : goal.unwrap-requires
unfolding get put
unwrap-requires c =
    let a = c.args in
    let k = c.requires.samples_len in
    is_done _
    (first_fits a.rec a.share.now a.samples.now a.model.now c.requires.fit k.0 k.1 c.first_half.ensures.answers)

pub unwrap-requires-3 : goal.unwrap-requires-3
unfolding get put
unwrap-requires-3 c =
    let a = c.args in
    let k = c.requires.samples_len in
    is_answered _ _
    (ap (λ (x : Answer). passed x.reply) (said c.holding.result c.second_half-outcome.result c.told_second.ensures)
    ∙ second_fits a.rec a.share.now a.samples.now a.model.now c.requires.fit k.0 k.1 _ c.first_half.ensures
    (omega (arith, c.logs.auto)) k.2 c.second_half-outcome.ensures)

pub shape_of-share : goal.shape_of-share
unfolding get put
shape_of-share c =
    let a = c.args in
    let k = c.requires.samples_len in
    spoke_length a.rec a.share.now a.samples.now a.model.now c.requires.fit k.0
    k.1 _ c.first_half.ensures c.second_half-outcome.ensures

pub returns : goal.returns
unfolding get put
returns c =
    let a = c.args in
    let k = c.requires.samples_len in
    let told = rw c.unwrap-3.ensures at
    (said c.holding.result c.second_half-outcome.result c.told_second.ensures) in
    spoke a.rec a.share.now a.samples.now a.model.now c.requires.fit k.0 k.1 c.first_half.ensures
    (left c.logs.ensures (record { into = refl; from = omega (arith, c.first_half.auto) })) k.2
    c.second_half-outcome.ensures
    (told ∙ ap (λ (b : Record). told_second b (as_reply c.second_half-outcome.result)) c.holding.ensures)
