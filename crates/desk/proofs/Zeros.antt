-- Of the places for samples that wait, the unused ones are zero, in every state since an opening (`unused_zero`): an
-- opening wipes them, a call of a frame leaves them alone, and what a piece leaves waiting has zeros behind it.
-- Assumes nothing.
use Rattle.std.specs.Prelude.{◌+◌, ◌-◌, ◌*◌, ◌≤◌, ◌<◌, ◌&&◌, ◌++◌, ◌≡◌}
use Rattle.rules.proofs.Common.{ℕ, Bool, true, false, cond, false≢true, List, []}
use Rattle.rules.proofs.Common.{refl, sym, ap, ◌∙◌, eqb}
use Rattle.rules.proofs.Common.{leb, ltb, length, take, drop, replicate, length-drop, length-append, Float}
use native.Mathlib.Omega.{arith}
use mathlib.Core.Logic.{inl}
use borrow.Author.Tests.{eqb-true, eqb-false, ne_eqb, ltb-true, not-false, not-true}
use lib.ListN.{length-replicate, replicate-append-replicate}
use lib.Seq.{take_at, drop_at}
use Rattle.rules.specs.F32.{f32, zeros}
use Rattle.rules.specs.Place.{Place, get, put}
use Rattle.frame.specs.Written.{Written, from, nothing, first_in}
use Rattle.rules.proofs.Places.{Within, length_get, get_put, get_put_apart}
use Rattle.rules.proofs.Tests.{both}
use Rattle.model.specs.Model.{read_of}
use Rattle.model.specs.Reading.{Reading, Good, Refused as Unread}
use Rattle.frame.specs.Share.{SHARE, PART}
use Rattle.frame.specs.Effect.{Effect}
use Rattle.frame.specs.Reply.{passed}
use Rattle.frame.specs.Reply.{Reply}
use Rattle.frame.specs.Reply.{Done}
use Rattle.frame.specs.declared.Way.{Way}
use Rattle.frame.proofs.Keeps.{Keeps, call1_keeps, call2_keeps, call3_keeps, call4_keeps}
use Rattle.halves.specs.Halves as halves
use Rattle.halves.proofs.Kept.{first_half_keeps, second_half_keeps}
use Rattle.halves.proofs.Sister.{call2_own_keeps}
use Rattle.pieces.specs.Pieces.{frame_part, waiting_place, waiting_in, padded_to, waits, frame_at, at_end, paused}
use Rattle.pieces.specs.Pieces.{further}
use Rattle.pieces.proofs.Accepted.{piece_taken, resume_taken}
use Rattle.pieces.proofs.Halved.{first_length}
use Rattle.pieces.proofs.Padding.{padded_none}
use Rattle.pieces.proofs.Shares.{length_padded, part_length, waiting_length, waits_length, waiting_back, frame_length}
use Rattle.desk.specs.Answer.{Answer}
use Rattle.desk.specs.declared.Record.{Record}
use Rattle.desk.specs.Gate.{idle, under_way, in_pieces, in_range, is_due, gate, share_of}
use Rattle.desk.specs.Desk.{Ask, opening, call1, call2, call2_own, call3, call4, first_half, second_half, piece}
use Rattle.desk.specs.Desk.{resume, call_of, holding, carried, recorded, opened, on_share, desk}
use Rattle.desk.specs.Laws.{ZerosBehind, Reached, UnusedZero}
use Rattle.desk.specs.Laws as laws
use Rattle.desk.proofs.Answered.{let_in, was_let_in, on_share_lem}
use Rattle.desk.proofs.Apart.{same_length, other_share}
use Rattle.desk.proofs.Pieced.{piece_fitted, resume_fitted}
use Rattle.desk.proofs.Ranged.{open_range}
use Rattle.desk.proofs.Kept.{refused_keeps, admitted_kept}
use Rattle.desk.proofs.Turned.{none, through}

-- a place of a list of one number
pub get_replicate : (p : Place) (n : ℕ) (a : Float) → p.at + p.size ≤ n
    → get p (replicate n a) ≡ replicate p.size a
unfolding get
get_replicate p n a h =
    let rest = n - (p.at + p.size) in
    let sum : p.at + (p.size + rest) ≡ n = omega arith in
    let split : replicate n a ≡ replicate p.at a ++ (replicate p.size a ++ replicate rest a) =
    ap (λ (k : ℕ). replicate k a) (sym sum)
    ∙ sym (replicate-append-replicate p.at (p.size + rest) a)
    ∙ ap (λ (xs : List Float). replicate p.at a ++ xs) (sym (replicate-append-replicate p.size rest a)) in
    rw (
      split,
      drop_at (replicate p.at a) (replicate p.size a ++ replicate rest a) p.at (length-replicate p.at a),
    )
    (take_at (replicate p.size a) (replicate rest a) p.size (length-replicate p.size a))

-- ---- one share, where so many samples wait

abbrev Clean : ℕ → List Float → Type 0
Clean n share = waiting_in 479 share ≡ padded_to 479 (waiting_in n share)

wiped : (n : ℕ) → SHARE ≤ n → Clean 0 (zeros n)
unfolding get
wiped n h =
    let all = get_replicate (waiting_place 479) n (f32 0) (omega arith) in
    let none = get_replicate (waiting_place 0) n (f32 0) (omega arith) in
    all ∙ padded_none 479 (replicate 479 (f32 0)) (length-replicate 479 (f32 0)) ∙ ap (padded_to 479) (sym none)

module _ (share : List Float) (l : length share ≡ SHARE) where
  -- xs wait, and no others
  waits_clean : (xs : List Float) → length xs ≤ 479 → Clean (length xs) (waits share xs)
  waits_clean xs h =
      get_put (waiting_place 479) share (padded_to 479 xs) (omega arith) (length_padded 479 xs)
      ∙ ap (padded_to 479) (sym (waiting_back share l xs h))

  -- a frame's part is written
  part_clean : (p : List Float) → length p ≡ PART → Clean 0 share → Clean 0 (put frame_part share p)
  part_clean p k c =
      let all = get_put_apart frame_part (waiting_place 479) share p (omega arith) k (inl (omega arith)) in
      let none = get_put_apart frame_part (waiting_place 0) share p (omega arith) k (inl (omega arith)) in
      all ∙ c ∙ ap (padded_to 479) (sym none)

  framed : {f : Effect Reply} → Keeps (get frame_part share) f → Clean 0 share → Clean 0 (put frame_part share f.kept)
  framed {f} k = part_clean f.kept (k.size ∙ part_length share l)

  -- the rest of a piece waits, or a frame is begun with it
  further_clean : (reply : Reply) (way : Way) (rest : List Float) (w : Written) → Clean 0 share
      → Clean (cond (ltb (length rest) 480) (length rest) 0) (further reply share way rest w).kept
  unfolding further
  further_clean reply way rest w c = go (ltb (length rest) 480) refl
    where
      go : (t : Bool) → ltb (length rest) 480 ≡ t
          → Clean (cond t (length rest) 0) (cond t (at_end reply share rest w) (paused reply share way rest w)).kept
      go true e = let less = ltb-true (length rest) 480 e in waits_clean rest (omega arith)
      go false e = part_clean _ (first_length (get frame_part share) way (take 480 rest) 22 (part_length share l)) c

-- ---- the record

carried_waits : (b : Record) (rest size progress : ℕ)
    → (carried b rest size progress).waiting ≡ cond (ltb rest 480) rest 0
unfolding carried
carried_waits b rest size progress = go (ltb rest 480)
  where
    go : (t : Bool) → (cond t (holding 1 b rest 0 0) (holding 3 b 0 size progress)).waiting ≡ cond t rest 0
    go true = refl
    go false = refl

-- where a call of a frame is due, and where a piece is unfinished, nothing waits
none_due : (b : Record) (call : ℕ) → call ≤ 4 → is_due b call ≡ true → b.waiting ≡ 0
unfolding is_due idle
none_due b call few e =
    let due = rw (ne_eqb call 5 (λ z. omega arith), ne_eqb call 6 (λ z. omega arith)) at e in
    let still = (both (eqb b.due call) (eqb b.waiting 0 && eqb b.piece 0) due).1 in
    eqb-true b.waiting 0 (both (eqb b.waiting 0) (eqb b.piece 0) still).0

none_unfinished : (b : Record) → in_pieces b ≡ true → is_due b 6 ≡ true → b.waiting ≡ 0
unfolding is_due in_pieces under_way
none_unfinished b r e =
    let some : eqb b.piece 0 ≡ false = not-true (eqb b.piece 0) e in
    let last : Bool = leb 1 b.progress && leb b.progress b.piece in
    let p = both (leb b.piece 4096) (eqb b.due 3 && (eqb b.waiting 0 && last)) (rw some at r) in
    eqb-true b.waiting 0 (both (eqb b.waiting 0) last
    (both (eqb b.due 3) (eqb b.waiting 0 && last) p.1).1).0

-- ---- one call that is done

module _ (b : Record) (share : List Float) (l : length share ≡ SHARE) where
  abbrev part : List Float
  part = get frame_part share

  abbrev After : Ask → Type 0
  After ask = Clean (recorded b ask (on_share b share ask).answer).waiting (on_share b share ask).kept

  open_clean : (w : Way) (m : List ℕ) → passed (on_share b share (opening w m)).answer ≡ true → After (opening w m)
  open_clean w m = go (read_of m) refl
    where
      go : (read : Reading) → read_of m ≡ read → passed (opened share read).answer ≡ true
          → Clean (recorded b (opening w m) (opened share read).answer).waiting (opened share read).kept
      go (Good k) e p = rw e (wiped SHARE (omega arith))
      go (Unread n j) e p = absurd (false≢true p)

  -- a call of a frame, where nothing waits
  module _ (z : b.waiting ≡ 0) (c : Clean b.waiting share) where
    still : Clean 0 share
    still = rw z at c

    frame_clean : {f : Effect Reply} → Keeps part f → Clean 0 (put frame_part share f.kept)
    frame_clean k = framed share l k still

    resume_clean : (x g : List Float) (m : List ℕ) (o s : ℕ)
        → passed (on_share b share (resume x g m o s)).answer ≡ true → After (resume x g m o s)
    resume_clean x g m o s p =
        let k = resume_fitted share b.hearing b.piece b.progress x g m o s p in
        let h = halves.second_half part b.hearing g m 480 in
        let keeps = second_half_keeps part b.hearing g m 480 in
        let rest = drop b.progress x in
        let w : Written = from (480 * (frame_at b.progress - 1)) (first_in h.written) in
        let next = further_clean (put frame_part share h.kept)
        (frame_length share l h.kept (keeps.size ∙ part_length share l)) h.answer b.hearing.way rest w
        (frame_clean keeps) in
        rw (
          carried_waits _ (length x - b.progress) (length x) (b.progress + 480),
          resume_taken share b.hearing b.piece b.progress x g m o s k,
        )
        (rw (length-drop b.progress x) at next)

  piece_clean : (x : List Float) (o s : ℕ) → passed (on_share b share (piece x o s)).answer ≡ true → After (piece x o s)
  piece_clean x o s p =
      let k = piece_fitted share b.hearing.way b.waiting x o s p in
      let rest = waiting_in b.waiting share ++ x in
      let long : length rest ≡ b.waiting + length x =
      length-append (waiting_in b.waiting share) x
      ∙ ap (λ (m : ℕ). m + length x) (waiting_length share l b.waiting k.waits) in
      let next = further_clean (waits share []) (waits_length share l []) Done b.hearing.way rest nothing
      (waits_clean share l [] (omega arith)) in
      rw (
        carried_waits b (b.waiting + length x) (length x) (480 - b.waiting),
        piece_taken share b.hearing.way b.waiting x o s k,
      )
      (rw long at next)

  done_clean : (ask : Ask) → in_range b ≡ true
      → ((call_of ask ≡ 0 → ⊥) → (b.due ≡ 0 → ⊥) × (is_due b (call_of ask) ≡ true))
      → passed (on_share b share ask).answer ≡ true → Clean b.waiting share → After ask
  done_clean (opening w m) r d p c = open_clean w m p
  done_clean (call1 x w) r d p c =
      let z = none_due b 1 (omega arith) (d (λ e. omega arith)).1 in frame_clean z c (call1_keeps part x w)
  done_clean (call2 x g w s) r d p c =
      let z = none_due b 2 (omega arith) (d (λ e. omega arith)).1 in frame_clean z c (call2_keeps part x g w s)
  done_clean (call2_own x w s) r d p c =
      let z = none_due b 2 (omega arith) (d (λ e. omega arith)).1 in frame_clean z c (call2_own_keeps part x w s)
  done_clean (call3 x g m o) r d p c =
      let z = none_due b 3 (omega arith) (d (λ e. omega arith)).1 in
      frame_clean z c (call3_keeps part b.hearing x g m o)
  done_clean (call4 x o) r d p c =
      let z = none_due b 4 (omega arith) (d (λ e. omega arith)).1 in frame_clean z c (call4_keeps part x o)
  done_clean (first_half x s) r d p c =
      let z = none_due b 1 (omega arith) (d (λ e. omega arith)).1 in
      frame_clean z c (first_half_keeps part b.hearing.way x s)
  done_clean (second_half g m o) r d p c =
      let z = none_due b 3 (omega arith) (d (λ e. omega arith)).1 in
      frame_clean z c (second_half_keeps part b.hearing g m o)
  done_clean (piece x o s) r d p c = piece_clean x o s p
  done_clean (resume x g m o s) r d p c =
      let due = d (λ e. omega arith) in
      resume_clean (none_unfinished b (open_range b due.0 r).2 due.1) c x g m o s p

-- ---- a call on a side

module _ (n side : ℕ) (b : Record) (store : List Float) (ask : Ask) where
  abbrev share : List Float
  share = get (share_of side) store

  abbrev o : Effect Answer
  o = desk n side b store ask

  module _ (p : passed o.answer.reply ≡ true) where
    let_through : gate n side b (length store) (call_of ask) ≡ 0
    let_through = was_let_in b ask n side store p

    right : (side < n) × (length store ≡ n * SHARE)
    right = through n side b (length store) (call_of ask) let_through

    fits : length share ≡ SHARE
    fits = length_get (share_of side) store (omega (arith, right.0, right.1))

    -- what holds of the share holds of the side
    lifted : After b share fits ask → ZerosBehind side o.answer.rec o.kept
    lifted c =
        let inside : Within (share_of side) store = omega (arith, right.0, right.1) in
        rw (
          let_in b ask n side store let_through,
          on_share_lem b ask n side store p,
          get_put (share_of side) store (on_share b share ask).kept inside ((admitted_kept b share ask 0).size fits),
        ) c

    due : (call_of ask ≡ 0 → ⊥) → (b.due ≡ 0 → ⊥) × (is_due b (call_of ask) ≡ true)
    due ne =
        let is : eqb (call_of ask) 0 ≡ false = ne_eqb (call_of ask) 0 ne in
        let clear = none n side b (length store) (call_of ask) let_through in (
          eqb-false b.due 0 (rw is at clear.1.1.1.0),
          not-false (is_due b (call_of ask)) (rw is at clear.1.1.1.1.0),
        )

    done : ZerosBehind side b store → ZerosBehind side o.answer.rec o.kept
    done c =
        let clear = none n side b (length store) (call_of ask) let_through in
        lifted (done_clean b share fits ask (not-false (in_range b) clear.1.1.0) due
        (on_share_lem b ask n side store p) c)

  kept : ZerosBehind side b store → ZerosBehind side o.answer.rec o.kept
  kept c = go (passed o.answer.reply) refl
    where
      go : (t : Bool) → passed o.answer.reply ≡ t → ZerosBehind side o.answer.rec o.kept
      go true p = done p c
      go false p = let k = refused_keeps n side b store ask p in rw (k.0, k.1) c

-- ---- every state since an opening

long : {n side : ℕ} {rec : Record} {store : List Float} → Reached n side rec store → length store ≡ n * SHARE
long {n = n} {side = side} (laws.opened rec store way model p) =
    let l = (right n side rec store (opening way model) p).1 in same_length n side rec store (opening way model) l ∙ l
long {n = n} {side = side} (laws.asked {rec = rec} {store = store} r ask) =
    same_length n side rec store ask (long r) ∙ long r
long {n = n} {side = side} (laws.beside {rec = rec} {store = store} r other ne its ask) =
    same_length n other its store ask (long r) ∙ long r

zero_behind : {n side : ℕ} {rec : Record} {store : List Float} → Reached n side rec store → ZerosBehind side rec store
zero_behind {n = n} {side = side} (laws.opened rec store way model p) =
    lifted n side rec store (opening way model) p
    (open_clean rec (get (share_of side) store) (fits n side rec store (opening way model) p) way model
    (on_share_lem rec (opening way model) n side store p))
zero_behind {n = n} {side = side} (laws.asked {rec = rec} {store = store} r ask) =
    kept n side rec store ask (zero_behind r)
zero_behind {n = n} {side = side} (laws.beside {rec = rec} {store = store} r other ne its ask) =
    rw (other_share n other its store ask (long r) side ne) (zero_behind r)

pub unused_zero : UnusedZero
unused_zero n side rec store r = zero_behind r
