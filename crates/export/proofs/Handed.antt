-- What a host's call of the desk comes to, once for every call.
--     hands_back               the desk's answer can be handed back as numbers
--     handed                   it is, and the call is what the desk gives
--     three, handed_three      a call with three numbers besides
-- Assumes nothing.
use Rattle.std.specs.Prelude.{◌∷◌, ◌++◌, ◌≡◌, Result}
use Rattle.rules.proofs.Common.{ℕ, suc, true, false, cond, List, [], ap₂, length, Float}
use mathlib.Core.List.{append-nil}
use Rattle.rules.specs.Place.{get, put}
use Rattle.frame.specs.Effect.{Effect, Worked}
use Rattle.frame.specs.Reply.{Reply, passed}
use Rattle.frame.specs.declared.answer.Told.{Told}
use Rattle.frame.specs.declared.answer.Cause.{Cause}
use Rattle.desk.specs.declared.Record.{Record}
use Rattle.desk.specs.Answer.{Answer, answer_of}
use Rattle.desk.specs.Gate.{BENCHES}
use Rattle.desk.specs.Desk.{Ask, desk}
use Rattle.desk.specs.Surface.{record_in, numbers_of, reply_number, heard_of, told_besides, besides, out_of, hosted}
use Rattle.desk.specs.Surface as surface
use Rattle.desk.proofs.Buffers.{buffers_of, buffers}
use Rattle.desk.proofs.Ranged.{range_kept, seated}
use Rattle.export.specs.Private.{reply_in, HandsBack}
use Rattle.export.proofs.Given.{Handed, Telling, up_to, told_three}
use Rattle.export.proofs.Given as any

-- the record as the code has it, and what the desk's call left
module _ (side : ℕ) (ns : List ℕ) (b : Record) (store store' : List Float) (ask : Ask) (held out : List (List Float))
    (given : Result (Told × Record) Cause)
    (read : b ≡ record_in side ns)
    (served : Worked (desk BENCHES side b store ask) (answer_of b given) store' held out) where
  pub hands_back : HandsBack side ns (answer_of (record_in side ns) given)
  hands_back =
      any.hands_back side ns b given read
      (record {
        ranged = range_kept BENCHES side b store ask;
        seated = seated BENCHES side b store ask;
      }) served.answers

  -- a call with no buffer but its own
  pub handed : {number : ℕ} {ns' : List ℕ}
      → Handed side ns (record_in side ns) given number ns'
      → ((reply : Reply) → besides ask reply ≡ [])
      → Worked (surface.handed side ns (hosted BENCHES side ns store ask)) (number, ns') store' held out
  unfolding hosted
  handed back none =
      let o = desk BENCHES side b store ask in
      let h : Handed side ns b given _ _ = rw (← read) at back in
      let alone : o.written ++ besides ask o.answer.reply ≡ o.written =
      rw (none o.answer.reply) (append-nil o.written) in
      rw (← read)
      (record {
        answers = rw (← served.answers) (ap₂ (λ (n : ℕ) (ms : List ℕ). (n, ms)) h.0 h.1);
        keeps = served.keeps;
        writes = rw alone served.writes;
      })

-- ---- call 3, the second half and a resume, with their answer as three numbers

-- `others` are the buffers between `out` and `answer`
module _ (side : ℕ) (ns : List ℕ) (b : Record) (store store' : List Float) (ask : ℕ → Ask) (out answer new : List Float)
    (others others' : List (List Float)) (given : Result (Told × Record) Cause) (end : ℕ)
    (no_place : passed (desk BENCHES side b store (ask 0)).answer.reply ≡ false)
    (lent : (n : ℕ) → buffers_of (ask n) ≡ suc (length others))
    (with-three : (n : ℕ) (r : Reply) → besides (ask n) r ≡ told_besides r)
    (read : b ≡ record_in side ns) (ends : end ≡ out_of (length answer) (length out))
    (served : Worked (desk BENCHES side b store (ask (length (get (up_to end) out)))) (answer_of b given) store'
    (get (up_to end) out ∷ others) (new ∷ others')) where
  abbrev give : ℕ → Effect Answer
  give n = desk BENCHES side b store (ask n)

  known : Telling (suc (length others)) give
  known = record { no_place = no_place; writes = λ n. rw (lent n) at (buffers BENCHES side b store (ask n)) }

  pub three : passed (reply_in given) ≡ true → length answer ≡ 3
  three = any.three side ns store' give out answer new others others' b given end read known ends served

  pub handed_three : {number : ℕ} {ns' : List ℕ} {answer' : List Float} → length new ≡ length (get (up_to end) out)
      → answer' ≡ cond (passed (reply_in given)) (heard_of (reply_in given)) answer
      → Handed side ns (record_in side ns) given number ns'
      → Worked (surface.handed side ns (hosted BENCHES side ns store (ask (out_of (length answer) (length out)))))
      (number, ns') store'
      (out ∷ others ++ (answer ∷ [])) (put (up_to end) out new ∷ others' ++ (answer' ∷ []))
  unfolding hosted
  handed_three same told h =
      let n = out_of (length answer) (length out) in
      rw (← read, with-three n (give n).answer.reply)
      (told_three side ns store' give out answer new others others' b given end read known ends served same told h)
