-- What is done passes, and what is refused does not; so what the second half gives is `told_second`, also where the
-- reason for a refusal is none of the desk's. Assumes nothing.
use Rattle.std.specs.Prelude.{◌≡◌, Result, Ok, Err, IfOk, IsOk, IsErrAnd}
use Rattle.rules.proofs.Common.{true, false, false≢true, refl, sym, ap, ◌∙◌}
use Rattle.frame.specs.Reply.{passed}
use Rattle.frame.specs.Answer.{as_reply, reply_told, reply_refused}
use Rattle.frame.specs.declared.answer.Told.{Told}
use Rattle.frame.specs.declared.answer.Told.TheVariants as tells
use Rattle.frame.specs.declared.answer.Cause.{Cause}
use Rattle.frame.specs.declared.answer.Cause.TheVariants as cause
use Rattle.desk.specs.Answer.{answer_of}
use Rattle.desk.specs.declared.Record.{Record}
use Rattle.desk.specs.Laws.{SecondTold, SecondAnswered}

pub done_passes : (told : Told) → passed (reply_told told) ≡ true
done_passes tells.Done = refl
done_passes tells.Silent = refl
done_passes (tells.Heard v e) = refl
done_passes (tells.Numbered f h) = refl

pub refused_fails : (why : Cause) → passed (reply_refused why) ≡ false
refused_fails (cause.Plain refusal) = refl
refused_fails (cause.Model misread) = refl

-- what holds of a reply that passes holds of what is done
pub on_done : (outcome : Result Told Cause) {P : Type 0} → (passed (as_reply outcome) ≡ true → P)
    → IfOk outcome (λ _. P)
on_done (Ok told) f = f (done_passes told)
on_done (Err why) f = tt

-- what passes is done
pub is_done : (outcome : Result Told Cause) → passed (as_reply outcome) ≡ true → IsOk outcome
is_done (Ok told) p = refl
is_done (Err why) p = absurd (false≢true (sym (refused_fails why) ∙ p))

pub is_answered : (rec : Record) (result : Result (Told × Record) Cause)
    → passed (answer_of rec result).reply ≡ true → IsOk result
is_answered rec (Ok (told, next)) p = refl
is_answered rec (Err why) p = absurd (false≢true (sym (refused_fails why) ∙ p))

pub second_told : SecondTold
second_told _ reads fails rec (Ok told) = rw (done_passes told) refl
second_told _ reads fails rec (Err why) = rw (fails why) refl

pub second_answered : SecondAnswered
second_answered rec (Ok told) = second_told Cause reply_refused refused_fails rec (Ok told)
second_answered rec (Err why) = second_told Cause reply_refused refused_fails rec (Err why)

-- a refusal that is handed on is the same
pub same_error : {T : Type 0} (result : Result T Cause) (why : Cause) → IsErrAnd result (λ x. x ≡ why)
    → result ≡ Err why
same_error (Ok x) why e = absurd e
same_error (Err x) why e = ap Err e
