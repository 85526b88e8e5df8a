-- The ways a call ends, once for every call.
--     turned_away_lem     the gate refuses it
--     served              it gets through, and what is left of the share is what the call makes of it
--     framed              a call of a frame gets through, and was lent the frame's part alone
--     misread, wiped      an opening that gets through, whose model is refused or reads
-- Assumes nothing.
use Rattle.std.specs.Prelude.{◌-◌, ◌≡◌, Result, Ok, Err, IsErrAnd}
use Rattle.rules.proofs.Common.{ℕ, true, false, cond, true≢false, false≢true, List, [], refl}
use Rattle.rules.proofs.Common.{sym, ap, ◌∙◌, length}
use Rattle.rules.proofs.Common.{replicate, Float}
use native.Mathlib.Nat.{add-sub_cancel_left, add-zero}
use native.Mathlib.Omega.{arith}
use borrow.Author.Tests.{ne_eqb}
use Rattle.rules.specs.F32.{f32, zeros}
use Rattle.rules.specs.Place.{Place, get, put}
use Rattle.rules.specs.Refusal.{refusal_number}
use Rattle.rules.specs.declared.refusal.Refusal.{Refusal}
use Rattle.frame.specs.Written.{onto}
use Rattle.rules.proofs.Places.{put_get, put_in, get_get, length_get}
use Rattle.model.specs.Model.{read_of}
use Rattle.model.specs.Reading.{Reading, Good, Refused as Unread}
use Rattle.frame.specs.Share.{SHARE, PART}
use Rattle.frame.specs.Effect.{Effect, Worked}
use Rattle.frame.specs.declared.answer.Told.{Told}
use Rattle.frame.specs.declared.answer.Cause.{Cause}
use Rattle.frame.specs.declared.answer.Cause.TheVariants.{Plain}
use Rattle.frame.specs.Reply.{passed}
use Rattle.frame.specs.Reply.{Reply}
use Rattle.frame.specs.declared.Way.{Way}
use Rattle.pieces.specs.Pieces.{frame_part, in_part}
use Rattle.desk.specs.declared.Record.{Record}
use Rattle.desk.specs.Answer.{Answer, answer_of}
use Rattle.desk.specs.Gate.{gate, share_of}
use Rattle.desk.specs.Desk.{Ask, opening, call_of, started, answered, opened, on_share, desk}
use Rattle.desk.specs.Private.{Lies, opened_of}
use Rattle.desk.specs.declared.Share.{Share}
use Rattle.rules.proofs.Numbered.{never_0}
use Rattle.desk.proofs.Results.{done_passes, refused_fails}
use Rattle.desk.proofs.Answered.{refused}
use Rattle.desk.proofs.Turned.{through}

-- a part of the store as the code lends it, from a start to an end
abbrev pub lent : ℕ → ℕ → Place
lent start end = record { at = start; size = end - start }

lent_share : (side len : ℕ) (share : Share) → Lies side len share → lent share.start share.end ≡ share_of side
lent_share side len share e = rw (e.start, e.end, add-sub_cancel_left)

-- a frame's part, as a place of the store
abbrev part_of : ℕ → Place
part_of side = record { at = (share_of side).at; size = PART }

lent_part : (side len : ℕ) (share : Share) → Lies side len share → lent share.start share.part ≡ part_of side
lent_part side len share e = rw (e.start, e.part, add-sub_cancel_left)

module _ (benches side : ℕ) (b : Record) (store : List Float) (held : List (List Float)) (ask : Ask) where
  pub turned_away_lem : (refusal : Refusal) (result : Result (Told × Record) Cause)
      → refusal_number refusal ≡ gate benches side b (length store) (call_of ask)
      → IsErrAnd result (λ why. why ≡ Plain refusal)
      → Worked (desk benches side b store ask) (answer_of b result) store held held
  unfolding desk
  turned_away_lem refusal (Ok x) e w = absurd w
  turned_away_lem refusal (Err why) e w =
      rw (← e, ne_eqb (refusal_number refusal) 0 (never_0 refusal))
      (record {
        answers =
            rw w (ap (λ (x : Reply). record { reply = x; rec = b }) (sym (refused b ask (refusal_number refusal))));
        keeps = sym (put_get (share_of side) store);
        writes = refl;
      })

  abbrev own : List Float
  own = get (share_of side) store

  module _ {r : Answer} (z : 0 ≡ gate benches side b (length store) (call_of ask)) where
    pub past : {reply : Reply} {new : List Float} {out : List (List Float)}
        → Worked (on_share b own ask) reply new held out → r ≡ answered b ask reply
        → Worked (desk benches side b store ask) r (put (share_of side) store new) held out
    unfolding desk
    past w a =
        rw (← z)
        (record {
          answers = a ∙ ap (λ (x : Reply). answered b ask x) w.answers;
          keeps = ap (put (share_of side) store) w.keeps;
          writes = w.writes;
        })

    module _ {share : Share} {reply : Reply} {new : List Float} {out : List (List Float)}
        (lies : Lies side (length store) share) where
      pub served : Worked (on_share b (get (lent share.start share.end) store) ask) reply new held out
          → r ≡ answered b ask reply
          → Worked (desk benches side b store ask) r (put (lent share.start share.end) store new) held out
      served w a = let same = lent_share side (length store) share lies in rw same (past (rw same at w) a)

      -- f is what the call makes of the part that it is lent
      pub framed : {f : Effect Reply} → Worked f reply new held out
          → (get frame_part own ≡ get (lent share.start share.part) store → on_share b own ask ≡ in_part own f)
          → r ≡ answered b ask reply
          → Worked (desk benches side b store ask) r (put (lent share.start share.part) store new) held out
      framed w is a =
          let t = through benches side b (length store) (call_of ask) (sym z) in
          let inside : get frame_part own ≡ get (part_of side) store =
          rw add-zero at (get_get (share_of side) frame_part store (omega arith) (omega arith)) in
          let same = lent_part side (length store) share lies in
          rw (same, ← put_in (share_of side) PART store new (omega arith) (omega arith))
          (past {reply = reply} (rw (is (inside ∙ ap (λ (p : Place). get p store) (sym same)))
          (record { answers = w.answers; keeps = ap (put frame_part own) w.keeps; writes = w.writes })) a)

-- what an opening makes of a model that is refused, and of one that reads
kept : (read : Reading) (b : Record) (w : Way) (share : List Float) → passed (opened_of b w read).reply ≡ false
    → (opened share read).kept ≡ share
kept (Unread n l) b w share e = refl
kept (Good m) b w share e = absurd (true≢false e)

cleared : (read : Reading) (b : Record) (w : Way) (share : List Float) → passed (opened_of b w read).reply ≡ true
    → (opened share read).kept ≡ replicate SHARE (f32 0)
cleared (Good m) b w share e = refl
cleared (Unread n l) b w share e = absurd (false≢true e)

-- the answer of an opening, as the desk has it
answers : (w : Way) (m : List ℕ) (b : Record) (share : List Float)
    → opened_of b w (read_of m) ≡ answered b (opening w m) (opened share (read_of m)).answer
answers w m b share = go (read_of m)
  where
    go : (read : Reading) → opened_of b w read
        ≡ record {
          reply = (opened share read).answer;
          rec = cond (passed (opened share read).answer) (started b w read) b;
        }
    go (Good m) = refl
    go (Unread n l) = refl

-- nothing is written
silent : (read : Reading) (share : List Float) → [] ≡ onto (opened share read).written []
silent (Good m) share = refl
silent (Unread n l) share = refl

module _ (benches side : ℕ) (b : Record) (store : List Float) (w : Way) (m : List ℕ)
    (z : 0 ≡ gate benches side b (length store) 0) where
  -- with the share as it was left
  left_with : (r : Answer) → r ≡ opened_of b w (read_of m) → (new : List Float)
      → new ≡ (opened (get (share_of side) store) (read_of m)).kept
      → Worked (desk benches side b store (opening w m)) r (put (share_of side) store new) [] []
  left_with r a new f =
      let share = get (share_of side) store in
      past benches side b store [] (opening w m) z
      (record { answers = refl; keeps = f; writes = silent (read_of m) share }) (a ∙ answers w m b share)

  pub misread : (result : Result (Told × Record) Cause) (why : Cause) → IsErrAnd result (λ x. x ≡ why)
      → answer_of b (Err why) ≡ opened_of b w (read_of m)
      → Worked (desk benches side b store (opening w m)) (answer_of b result) store [] []
  misread (Ok x) why e a = absurd e
  misread (Err x) why e a =
      let share = get (share_of side) store in
      let no : passed (opened_of b w (read_of m)).reply ≡ false = rw (← a) (refused_fails why) in
      rw (put_get (share_of side) store) at
      (left_with (answer_of b (Err x)) (rw e a) share (sym (kept (read_of m) b w share no)))

  pub wiped : (told : Told) (next : Record) {share : Share} → answer_of b (Ok (told, next)) ≡ opened_of b w (read_of m)
      → Lies side (length store) share → (new : List Float)
      → new ≡ zeros (length (get (lent share.start share.end) store))
      → Worked (desk benches side b store (opening w m)) (answer_of b (Ok (told, next)))
      (put (lent share.start share.end) store new) [] []
  wiped told next {share} a lies new f =
      let yes : passed (opened_of b w (read_of m)).reply ≡ true = rw (← a) (done_passes told) in
      let t = through benches side b (length store) 0 (sym z) in
      let all = length_get (share_of side) store (omega arith) in
      let same = lent_share side (length store) share lies in
      let f' = rw (same, all) at f in
      rw same (left_with (answer_of b (Ok (told, next))) a new
      (f' ∙ sym (cleared (read_of m) b w (get (share_of side) store) yes)))
