-- What the desk makes of a call, by what the call gives on the side's share.
--     replied_by, refused     the reply is the share's, but for a call 4 that is done
--     done_alike              a call is done at the desk exactly where it is done on the share
--     admitted_by             what holds of a refusal, and of the call where the gate gives 0, holds of an admitted
--                             call
--     let_in                  where the gate gives 0, the call's effect on the share is the desk's
--     was_let_in, on_share    a call that is done was let through, and is done on the share
-- Assumes nothing.
use Rattle.std.specs.Prelude.{◌&&◌, ◌≡◌}
use Rattle.rules.proofs.Common.{ℕ, Bool, true, false, cond, false≢true, List, refl, sym, ◌∙◌, eqb, length}
use Rattle.rules.proofs.Common.{Float}
use borrow.Author.Tests.{eq-eqb, eqb-true}
use Rattle.rules.specs.Place.{get}
use Rattle.frame.specs.Effect.{Effect, refusal}
use Rattle.frame.specs.Reply.{passed, one_more}
use Rattle.frame.specs.Reply.{Reply}
use Rattle.frame.specs.Reply.{Numbered, Refused}
use Rattle.desk.specs.Answer.{Answer}
use Rattle.desk.specs.declared.Record.{Record}
use Rattle.desk.specs.Gate.{gate, share_of}
use Rattle.desk.specs.Desk.{Ask, call_of, reply_to, answered, on_share, admitted, desk}
use Rattle.desk.specs.Laws.{placed}

module _ (b : Record) (ask : Ask) where
  pub replied_by : (reply : Reply) (P : Reply → Type 0)
      → (passed reply ≡ true → P (Numbered (one_more b.frame) b.heard)) → P reply
      → P (reply_to b ask reply)
  replied_by reply P done same = go (eqb (call_of ask) 4) (passed reply) refl
    where
      go : (s t : Bool) → passed reply ≡ t → P (cond (s && t) (Numbered (one_more b.frame) b.heard) reply)
      go true true e = done e
      go true false e = same
      go false t e = same

  pub refused : (n : ℕ) → reply_to b ask (Refused n) ≡ Refused n
  refused n = replied_by (Refused n) (λ r. r ≡ Refused n) (λ e. absurd (false≢true e)) refl

  pub done_alike : (reply : Reply) → passed (reply_to b ask reply) ≡ passed reply
  done_alike reply = replied_by reply (λ r. passed r ≡ passed reply) (λ e. sym e) refl

  -- what comes of a share, as an outcome
  abbrev pub given_of : Effect Reply → Effect Answer
  given_of f = record { answer = answered b ask f.answer; kept = f.kept; written = f.written }

  pub admitted_by : (share : List Float) (number : ℕ) (P : Effect Reply → Type 0) → P (refusal (Refused number) share)
      → (number ≡ 0 → P (on_share b share ask)) → P (admitted b share ask number)
  admitted_by share number P bad good = go (eqb number 0) refl
    where
      go : (t : Bool) → eqb number 0 ≡ t → P (cond t (on_share b share ask) (refusal (Refused number) share))
      go true e = good (eqb-true number 0 e)
      go false e = bad

  module _ (n side : ℕ) (store : List Float) where
    abbrev share : List Float
    share = get (share_of side) store

    abbrev number : ℕ
    number = gate n side b (length store) (call_of ask)

    pub let_in : gate n side b (length store) (call_of ask) ≡ 0
        → desk n side b store ask ≡ placed side store (given_of (on_share b (get (share_of side) store) ask))
    unfolding desk
    let_in e = rw (eq-eqb number 0 e)

    module _ (p : passed (desk n side b store ask).answer.reply ≡ true) where
      done : passed (admitted b share ask number).answer ≡ true
      unfolding desk
      done = sym (done_alike (admitted b share ask number).answer) ∙ p

      pub was_let_in : gate n side b (length store) (call_of ask) ≡ 0
      was_let_in = admitted_by share number (λ f. passed f.answer ≡ true → number ≡ 0) (λ e. absurd (false≢true e))
          (λ z _. z) done

      pub on_share_lem : passed (on_share b (get (share_of side) store) ask).answer ≡ true
      on_share_lem =
          admitted_by share number (λ f. passed f.answer ≡ true → passed (on_share b share ask).answer ≡ true)
          (λ e. absurd (false≢true e)) (λ _ e. e) done
