-- What a host's call comes to, once for every call, whatever gives its answer.
--     Sound, hands_back      an answer can be handed back as numbers
--     Handed                 it is handed back
--     Telling                what is known of a call with three numbers besides, by the places of `out` that it is lent
--     three, told_three      it is lent `out`, or no place of it where `answer` has another length than three
-- Assumes nothing.
use Rattle.std.specs.Prelude.{◌-◌, ◌≤◌, ◌<◌, ◌∷◌, ◌++◌, ◌≡◌, Result, Ok, Err}
use Rattle.rules.proofs.Common.{ℕ, suc, Bool, true, false, cond, false≢true, List, []}
use Rattle.rules.proofs.Common.{refl, sym, ap, ap₂, ◌∙◌, eqb, length}
use Rattle.rules.proofs.Common.{drop, Float}
use native.Mathlib.Omega.{arith}
use mathlib.Core.List.{append-nil}
use borrow.Author.Tests.{eqb-true}
use lib.ListN.{drop_of_length-le}
use lib.Seq.{take_all}
use Rattle.rules.specs.Place.{Place, get, put}
use Rattle.frame.specs.Written.{Written, all, onto}
use Rattle.frame.proofs.Buffers.{onto_more, to_none}
use Rattle.frame.specs.Effect.{Effect, Worked}
use Rattle.frame.specs.Reply.{passed}
use Rattle.frame.specs.declared.answer.Told.{Told}
use Rattle.frame.specs.declared.answer.Cause.{Cause}
use Rattle.desk.specs.declared.Record.{Record}
use Rattle.desk.specs.Answer.{Answer, answer_of}
use Rattle.desk.specs.Gate.{BENCHES, in_range}
use Rattle.desk.specs.Surface.{RECORD, record_in, reply_number, heard_of, handed_back, out_of, telling, handed}
use Rattle.desk.proofs.Ranged.{bounded}
use Rattle.export.specs.Private.{reply_in, HandsBack}

-- ---- the answer as numbers

-- what is known of an answer to a call on this side, with this record
pub record Sound (side : ℕ) (b : Record) (a : Answer) : Type 0 where
  pub ranged : passed a.reply ≡ true → (in_range b ≡ true) × (in_range a.rec ≡ true)
  pub seated : passed a.reply ≡ true → side < BENCHES

-- a record in range has all its places
all_places : (side : ℕ) (ns : List ℕ) → in_range (record_in side ns) ≡ true → length ns ≡ RECORD
unfolding record_in in_range
all_places side ns e = go (eqb (length ns) RECORD) refl
  where
    go : (t : Bool) → eqb (length ns) RECORD ≡ t → length ns ≡ RECORD
    go true h = eqb-true (length ns) RECORD h
    go false h = absurd (false≢true (rw h at e))

pub same_reply : (rec : Record) (given : Result (Told × Record) Cause) → reply_in given ≡ (answer_of rec given).reply
same_reply rec (Ok (told, next)) = refl
same_reply rec (Err why) = refl

pub hands_back : (side : ℕ) (ns : List ℕ) (b : Record) {a : Answer} (given : Result (Told × Record) Cause)
    → b ≡ record_in side ns → Sound side b a → answer_of b given ≡ a
    → HandsBack side ns (answer_of (record_in side ns) given)
hands_back side ns b {a} given read sound e =
    rw (← read, e)
    (record {
      fits =
          λ p.
          let r = sound.ranged p in
          (all_places side ns (rw read at r.0), bounded a.rec r.1, sound.seated p);
    })

-- what the code hands back
abbrev pub Handed : ℕ → List ℕ → Record → Result (Told × Record) Cause → ℕ → List ℕ → Type 0
Handed side ns b given number ns' =
    (number ≡ reply_number (answer_of b given).reply) × (ns' ≡ handed_back side (answer_of b given) ns)

-- ---- a call with its answer as three numbers besides

-- it writes to so many buffers, or is refused and writes to none; and it is refused where it is lent no place of `out`
pub record Telling (buffers : ℕ) (give : ℕ → Effect Answer) : Type 0 where
  pub no_place : passed (give 0).answer.reply ≡ false
  pub writes : (n : ℕ) → length (give n).written ≡ cond (passed (give n).answer.reply) buffers 0

-- the first places of a buffer, as the code lends them
abbrev pub up_to : ℕ → Place
up_to end = record { at = 0; size = end - 0 }

pub no_more : (answer out : ℕ) → out_of answer out ≤ out
no_more answer out = go (eqb answer 3)
  where
    go : (t : Bool) → cond t out 0 ≤ out
    go true = omega arith
    go false = omega arith

module _ (out : List Float) where
  whole : (end : ℕ) → length out ≤ end → get (up_to end) out ≡ out
  unfolding get
  whole end h = take_all (end - 0) out (omega arith)

  replaced : (end : ℕ) (new : List Float) → length out ≤ end → put (up_to end) out new ≡ new
  unfolding put
  replaced end new h =
      ap (λ (t : List Float). new ++ t) (drop_of_length-le out {i = end - 0} (omega arith)) ∙ append-nil new

  empty : get (up_to 0) out ≡ []
  unfolding get
  empty = refl

  kept : (new : List Float) → length new ≡ 0 → put (up_to 0) out new ≡ out
  unfolding put
  kept [] h = refl
  kept (x ∷ xs) h = absurd (omega arith)

joined : (p : Bool) (ws : List Written) (held left : List (List Float)) (told t t' : List Float)
    → length ws ≡ cond p (length held) 0
    → left ≡ onto ws held → t' ≡ cond p told t
    → left ++ (t' ∷ []) ≡ onto (ws ++ cond p (all told ∷ []) []) (held ++ (t ∷ []))
joined true ws held left told t t' l e f =
    ap₂ (λ (x : List (List Float)) (y : List Float). x ++ (y ∷ [])) e f
    ∙ sym (onto_more ws (all told ∷ []) held (t ∷ []) l)
joined false [] held left told t t' l e f = ap₂ (λ (x : List (List Float)) (y : List Float). x ++ (y ∷ [])) e f
joined false (w ∷ ws) held left told t t' l e f = absurd (omega arith)

-- `others` are the buffers between `out` and `answer`
module _ (side : ℕ) (ns : List ℕ) (store' : List Float) (give : ℕ → Effect Answer) (out answer new : List Float)
    (others others' : List (List Float)) (b : Record) (given : Result (Told × Record) Cause) (end : ℕ)
    (read : b ≡ record_in side ns) (known : Telling (suc (length others)) give)
    (ends : end ≡ out_of (length answer) (length out))
    (served : Worked (give (length (get (up_to end) out))) (answer_of b given) store' (get (up_to end) out ∷ others)
    (new ∷ others')) where
  -- of another length, the call is refused
  shut : eqb (length answer) 3 ≡ false → passed (answer_of b given).reply ≡ false
  shut e =
      let z : end ≡ 0 = rw e at ends in
      let s = rw (z, empty out) at served in
      ap (λ (a : Answer). passed a.reply) s.answers ∙ known.no_place

  pub three : passed (reply_in given) ≡ true → length answer ≡ 3
  three p = go (eqb (length answer) 3) refl
    where
      go : (t : Bool) → eqb (length answer) 3 ≡ t → length answer ≡ 3
      go true e = eqb-true (length answer) 3 e
      go false e = absurd (false≢true (sym (shut e) ∙ sym (ap passed (same_reply b given)) ∙ p))

  pub told_three : {number : ℕ} {ns' : List ℕ} {answer' : List Float} → length new ≡ length (get (up_to end) out)
      → answer' ≡ cond (passed (reply_in given)) (heard_of (reply_in given)) answer
      → Handed side ns (record_in side ns) given number ns'
      → Worked (handed side ns (telling (give (out_of (length answer) (length out))))) (number, ns') store'
      (out ∷ others ++ (answer ∷ [])) (put (up_to end) out new ∷ others' ++ (answer' ∷ []))
  told_three {number} {ns'} {answer'} same said back = go (eqb (length answer) 3) refl
    where
      told : answer' ≡ cond (passed (answer_of b given).reply) (heard_of (answer_of b given).reply) answer
      told = rw (same_reply b given) at said

      h : Handed side ns b given number ns'
      h = rw (← read) at back

      go : (t : Bool) → eqb (length answer) 3 ≡ t
          → Worked (handed side ns (telling (give (out_of (length answer) (length out))))) (number, ns') store'
          (out ∷ others ++ (answer ∷ [])) (put (up_to end) out new ∷ others' ++ (answer' ∷ []))
      go true e =
          let z : end ≡ length out = rw e at ends in
          let s = rw (whole out end (omega arith)) at served in
          let o = give (length out) in
          rw (e, replaced out end new (omega arith))
          (record {
            answers = rw (← s.answers) (ap₂ (λ (n : ℕ) (ms : List ℕ). (n, ms)) h.0 h.1);
            keeps = s.keeps;
            writes =
                joined (passed o.answer.reply) o.written (out ∷ others) (new ∷ others')
                (heard_of o.answer.reply) answer answer'
                (known.writes (length out)) s.writes (rw s.answers at told);
          })
      go false e =
          let z : end ≡ 0 = rw e at ends in
          let s = rw (z, empty out) at served in
          let no = shut e in
          let o = give 0 in
          let unwritten = to_none o.written (rw known.no_place at (known.writes 0)) in
          let untouched : others' ≡ others = ap (drop 1) (rw unwritten at s.writes) in
          rw (e, z, kept out new (rw (z, empty out) at same))
          (record {
            answers = rw (← s.answers) (ap₂ (λ (n : ℕ) (ms : List ℕ). (n, ms)) h.0 h.1);
            keeps = s.keeps;
            writes =
                rw (unwritten, known.no_place)
                (ap₂ (λ (x : List (List Float)) (y : List Float). out ∷ x ++ (y ∷ [])) untouched (rw no at told));
          })
