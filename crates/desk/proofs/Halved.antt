-- The law of request 08 over the desk: accepted, a half is its two calls in turn, the second handed the record and the
-- store as the first left them. Assumes nothing.
use Rattle.std.specs.Prelude.{◌+◌, ◌*◌, ◌≤◌, ◌<◌, ◌≡◌}
use Rattle.rules.proofs.Common.{ℕ, true, false, false≢true, List, refl, sym, ap, ◌∙◌, eqb}
use Rattle.rules.proofs.Common.{length, Float}
use native.Mathlib.Omega.{arith}
use borrow.Author.Tests.{lt-ltb, eq-eqb, ne_eqb, eqb-true, eqb-false, not-false}
use Rattle.rules.specs.Place.{get, put}
use Rattle.frame.specs.Written.{first_in}
use Rattle.rules.proofs.Places.{Within, length_get, length_put, get_put, put_put}
use Rattle.rules.proofs.Refusals.{clear}
use Rattle.rules.proofs.Tests.{both}
use Rattle.transforms.specs.Transform.{forward_of}
use Rattle.frame.specs.Reply.{passed}
use Rattle.frame.specs.Share.{SHARE, PART}
use Rattle.frame.specs.Effect.{Effect}
use Rattle.frame.specs.Frame as frame
use Rattle.frame.specs.Reply.{Reply}
use Rattle.frame.specs.Reply.{Done}
use Rattle.frame.specs.declared.Way.{Way}
use Rattle.frame.proofs.Cases.{call1_by}
use Rattle.frame.proofs.Keeps.{call1_keeps, call3_keeps}
use Rattle.halves.specs.Halves.{looked_back}
use Rattle.halves.specs.Halves as halves
use Rattle.halves.specs.Ways.{forward_by, inverse_by}
use Rattle.halves.proofs.Joined.{asked_first, second_half_is}
use Rattle.halves.proofs.Sister.{call2_own_by}
use Rattle.pieces.specs.Pieces.{frame_part, in_part}
use Rattle.desk.specs.Answer.{Answer}
use Rattle.desk.specs.declared.Record.{Record}
use Rattle.desk.specs.Gate.{idle, in_range, is_due, refusals, gate, share_of}
use Rattle.desk.specs.Desk.{Ask, call1, call2_own, call3, call4, first_half, second_half, call_of, next_due, advanced}
use Rattle.desk.specs.Desk.{answered, on_share, desk}
use Rattle.desk.specs.Laws.{FirstInTurn, SecondInTurn, placed}
use Rattle.desk.proofs.Answered.{given_of, let_in, was_let_in}
use Rattle.desk.proofs.Turned.{none, through}
use Rattle.desk.proofs.Ranged.{advanced_range}

-- ---- the gate

-- where a call of a frame is due, its number stands
stands : (b : Record) (call : ℕ) → call ≤ 4 → is_due b call ≡ true → b.due ≡ call
unfolding is_due
stands b call few e =
    eqb-true b.due call (both _ _ (rw (ne_eqb call 5 (λ z. omega arith), ne_eqb call 6 (λ z. omega arith)) at e)).0

is_due_lem : (b : Record) (call : ℕ) (reply : Reply) → call ≤ 4 → next_due b.due ≡ call
    → is_due (advanced b reply) call ≡ true
unfolding is_due idle
is_due_lem b call reply few e =
    rw (ne_eqb call 5 (λ z. omega arith), ne_eqb call 6 (λ z. omega arith), eq-eqb (next_due b.due) call e)

-- behind a call that was let through, the next one is
gate_next : (n side : ℕ) (b : Record) (len call : ℕ) (reply : Reply) → 1 ≤ call → call ≤ 3 → gate n side b len call ≡ 0
    → gate n side (advanced b reply) len (call + 1) ≡ 0
unfolding gate
gate_next n side b len call reply some few e =
    let c = none n side b len call e in
    let is : eqb call 0 ≡ false = ne_eqb call 0 (λ z. omega arith) in
    let ajar : b.due ≡ 0 → ⊥ = eqb-false b.due 0 (rw is at c.1.1.1.0) in
    let due : b.due ≡ call = stands b call (omega arith) (not-false (is_due b call) (rw is at c.1.1.1.1.0)) in
    let next : next_due b.due ≡ call + 1 = rw (due, lt-ltb call 4 (omega arith)) in
    let later : eqb (call + 1) 0 ≡ false = ne_eqb (call + 1) 0 (λ z. omega arith) in
    clear (λ k. k) 0 (refusals n side (advanced b reply) len (call + 1)) (
      c.0,
      (
        c.1.0,
        (
          rw (advanced_range b reply ajar (not-false (in_range b) c.1.1.0)),
          (
            rw (next, later),
            (rw (is_due_lem b (call + 1) reply (omega arith) next, later), tt),
          ),
        ),
      ),
    )

-- ---- what the calls that are done reply

done_1 : (share samples : List Float) (window : ℕ) → passed (frame.call1 share samples window).answer ≡ true
    → (frame.call1 share samples window).answer ≡ Done
done_1 share samples window =
    call1_by share (λ f. passed f.answer ≡ true → f.answer ≡ Done) (λ _ p. absurd (false≢true p)) samples window
    (λ _ _ _. refl)

done_2 : (share spectrum : List Float) (window sums : ℕ)
    → passed (halves.call2_own share spectrum window sums).answer ≡ true
    → (halves.call2_own share spectrum window sums).answer ≡ Done
done_2 share spectrum window sums =
    call2_own_by share (λ f. passed f.answer ≡ true → f.answer ≡ Done)
    (λ _ p. absurd (false≢true p)) spectrum window sums (λ _ _. refl)

-- ---- the halves

-- a second call on the part that a first one left
again : (share left : List Float) (f : List Float → Effect Reply) → length share ≡ SHARE → length left ≡ PART
    → in_part (put frame_part share left) (f (get frame_part (put frame_part share left))) ≡ in_part share (f left)
again share left f whole l =
    rw (get_put frame_part share left (omega arith) l)
    (ap (λ (s : List Float). record { answer = (f left).answer; kept = s; written = (f left).written })
    (put_put frame_part share left (f left).kept (omega arith) l))

module _ (side : ℕ) (store : List Float) where
  abbrev mine : List Float
  mine = get (share_of side) store

  abbrev part : List Float
  part = get frame_part mine

  -- a part, in the store
  abbrev stored : List Float → List Float
  stored xs = put (share_of side) store (put frame_part mine xs)

  -- a call on the store, as another call left the part
  next_in : (n : ℕ) (b : Record) (left : List Float) (f : List Float → Effect Reply) (ask : Ask)
      → (side < n) × (length store ≡ n * SHARE) → length left ≡ length part
      → ((s : List Float) → on_share b s ask ≡ in_part s (f (get frame_part s)))
      → gate n side b (length store) (call_of ask) ≡ 0
      → desk n side b (stored left) ask ≡ placed side store (given_of b ask (in_part mine (f left)))
  next_in n b left f ask right kept is e =
      let inside : Within (share_of side) store = omega (arith, right.0, right.1) in
      let fits : length mine ≡ SHARE = length_get (share_of side) store inside in
      let narrow : length left ≡ PART = kept ∙ length_get frame_part mine (omega arith) in
      let share = put frame_part mine left in
      let whole : length share ≡ SHARE = length_put frame_part mine left (omega arith) narrow ∙ fits in
      let_in b ask n side (stored left) (rw (length_put (share_of side) store share inside whole) e)
      ∙ rw (get_put (share_of side) store share inside whole, is share ∙ again mine left f fits narrow)
      (ap (λ (s : List Float). record { answer = answered b ask (f left).answer; kept = s; written = (f left).written })
      (put_put (share_of side) store share (put frame_part mine (f left).kept) inside whole))

pub first_half_in_turn : FirstInTurn
first_half_in_turn n side b store samples sums asked p =
    let e = was_let_in b (first_half samples sums) n side store p in
    let xs = part side store in
    let h =
    let_in b (first_half samples sums) n side store e
    ∙ ap (λ (w : Way). placed side store
    (given_of b (first_half samples sums) (in_part (mine side store) (halves.first_half xs w samples sums)))) asked in
    let a = frame.call1 xs samples 960 in
    let spectrum = forward_of (first_in a.written) in
    let both = asked_first xs samples sums (ap (λ (g : Effect Answer). passed g.answer.reply) (sym h) ∙ p) in
    let two =
    next_in side store n (advanced b a.answer) a.kept (λ ys. halves.call2_own ys spectrum 960 sums)
    (call2_own spectrum 960 sums)
    (through n side b (length store) 1 e) (call1_keeps xs samples 960).size (λ s. refl)
    (gate_next n side b (length store) 1 a.answer (omega arith) (omega arith) e) in
    rw (h, let_in b (call1 samples 960) n side store e, both.first, two)
    (record {
      first = both.first;
      last = both.last;
      replies = both.answers;
      records =
          rw (both.answers, done_2 a.kept spectrum 960 sums both.last, done_1 xs samples 960 both.first);
      stores = ap (stored side store) both.keeps;
      writes = both.writes;
    })

pub second_half_in_turn : SecondInTurn
second_half_in_turn n side b store logs model out p =
    let e = was_let_in b (second_half logs model out) n side store p in
    let xs = part side store in
    let h = let_in b (second_half logs model out) n side store e in
    let spectrum = forward_by b.hearing.way (looked_back xs) in
    let a = frame.call3 xs b.hearing spectrum logs model 961 in
    let inverse = inverse_by b.hearing.way (first_in a.written) in
    let both = second_half_is xs b.hearing logs model out
    (ap (λ (g : Effect Answer). passed g.answer.reply) (sym h) ∙ p) in
    let four =
    next_in side store n (advanced b a.answer) a.kept (λ ys. frame.call4 ys inverse out) (call4 inverse out)
    (through n side b (length store) 3 e) (call3_keeps xs b.hearing spectrum logs model 961).size (λ s. refl)
    (gate_next n side b (length store) 3 a.answer (omega arith) (omega arith) e) in
    rw (h, let_in b (call3 spectrum logs model 961) n side store e, both.first, four, both.answers, both.last) (
      record {
        first = both.first;
        last = refl;
        replies = refl;
        records = rw both.first;
        stores = ap (stored side store) both.keeps;
        writes = both.writes;
      },
      rw both.first,
    )
