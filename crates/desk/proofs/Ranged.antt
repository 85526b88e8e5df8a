-- The record that a call hands back is in range: a host that hands back what it received is never turned away for it.
--     range_kept    where a call is done, the record that it was given and the one that it gives back are in range
--     bounded       what in range says, in numbers
--     left_open     where a call is done, its side is open
--     seated        where a call is done, its side is one of the benches
--     opens         with a record in range an opening is done, where side, store and model are right
-- Assumes nothing.
use Rattle.std.specs.Prelude.{◌+◌, ◌-◌, ◌*◌, ◌≤◌, ◌<◌, ◌&&◌, ◌≡◌}
use Rattle.rules.proofs.Common.{ℕ, Bool, true, false, cond, false≢true, List, refl}
use Rattle.rules.proofs.Common.{sym, eqb, leb, ltb, length}
use Rattle.rules.proofs.Common.{Float}
use native.Mathlib.Omega.{arith}
use borrow.Author.Tests.{lt-ltb, eq-eqb, ne_eqb, eqb-true, eqb-false, le-leb, leb-true, ltb-true, ltb-false, not-false}
use Rattle.rules.specs.Place.{get}
use Rattle.rules.proofs.Tests.{both}
use Rattle.model.specs.Model.{read_of}
use Rattle.model.specs.declared.Model.{Model}
use Rattle.model.specs.Reading.{Reading, Good, Refused as Unread}
use Rattle.model.proofs.Shapes.{shaped}
use Rattle.frame.specs.Share.{SHARE}
use Rattle.frame.specs.Reply.{passed, is_heard}
use Rattle.frame.specs.Reply.{Reply}
use Rattle.frame.specs.Reply.{Done}
use Rattle.frame.specs.declared.Way.{Way}
use Rattle.desk.specs.declared.Record.{Record}
use Rattle.desk.specs.Gate.{idle, way_number, all_zero, in_counts, resting, under_way, in_pieces, in_range, not_opening}
use Rattle.desk.specs.Gate.{gate, share_of}
use Rattle.desk.specs.Desk.{Ask, opening, call1, call2, call2_own, call3, call4, first_half, second_half, piece}
use Rattle.desk.specs.Desk.{resume, call_of, closed, record_of, holding, next_due, next_index, advanced, numbered}
use Rattle.desk.specs.Desk.{carried, started, recorded, on_share, opened, desk}
use Rattle.desk.specs.Laws.{RangeKept, Opens}
use Rattle.desk.proofs.Answered.{let_in, was_let_in, on_share_lem}
use Rattle.desk.proofs.Pieced.{piece_fitted, resume_fitted}
use Rattle.desk.proofs.Turned.{none, through}

either : (x : Bool) (a b : Bool) → (x ≡ true → a ≡ true) → (x ≡ false → b ≡ true) → cond x a b ≡ true
either true a b f g = f refl
either false a b f g = g refl

-- ---- in range, in numbers

pub record Bounded (b : Record) : Type 0 where
  pub due : b.due ≤ 4
  pub index : b.hearing.index ≤ 7
  pub vad : b.hearing.vad ≤ 127
  pub noise : b.hearing.noise ≤ 127
  pub denoise : b.hearing.denoise ≤ 127
  pub waiting : b.waiting ≤ 479
  pub piece : b.piece ≤ 4096
  pub progress : b.progress ≤ 4096

count : (n : ℕ) → (leb 1 n && leb n 127) ≡ true → n ≤ 127
count n e = leb-true n 127 (both (leb 1 n) (leb n 127) e).1

-- what a piece leaves in the record
pieced : (b : Record) → in_pieces b ≡ true → (b.waiting ≤ 479) × (b.piece ≤ 4096) × (b.progress ≤ 4096)
unfolding in_pieces resting under_way
pieced b e = go (eqb b.piece 0) refl
  where
    waits : (t : Bool) → eqb b.waiting 0 ≡ t → cond t true (leb b.waiting 479 && eqb b.due 1) ≡ true
        → b.waiting ≤ 479
    waits true h k = omega (arith, eqb-true b.waiting 0 h)
    waits false h k = leb-true b.waiting 479 (both _ _ k).0

    go : (t : Bool) → eqb b.piece 0 ≡ t → (b.waiting ≤ 479) × (b.piece ≤ 4096) × (b.progress ≤ 4096)
    go true h =
        let r = both (eqb b.progress 0) (cond (eqb b.waiting 0) true (leb b.waiting 479 && eqb b.due 1))
        (rw h at e) in
        let none = eqb-true b.piece 0 h in
        let begun = eqb-true b.progress 0 r.0 in
        (waits (eqb b.waiting 0) refl r.1, omega arith, omega arith)
    go false h =
        let last : Bool = leb 1 b.progress && leb b.progress b.piece in
        let p = both (leb b.piece 4096) (eqb b.due 3 && (eqb b.waiting 0 && last)) (rw h at e) in
        let w = both (eqb b.waiting 0) last (both (eqb b.due 3) (eqb b.waiting 0 && last) p.1).1 in
        let few = leb-true b.piece 4096 p.0 in
        let none = eqb-true b.waiting 0 w.0 in
        let within =
        leb-true b.progress b.piece (both (leb 1 b.progress) (leb b.progress b.piece) w.1).1 in
        (omega arith, few, omega arith)

pub bounded : (b : Record) → in_range b ≡ true → Bounded b
unfolding in_range all_zero in_counts idle
bounded b e = go (eqb b.due 0) refl
  where
    go : (t : Bool) → eqb b.due 0 ≡ t → Bounded b
    go true h =
        let zero = eqb-true b.due 0 h in
        let last : Bool = eqb b.progress 0 && eqb (way_number b.hearing.way) 0 in
        let pieces : Bool = idle b && last in
        let numbers : Bool = eqb b.frame 0 && (eqb b.heard 0 && pieces) in
        let i = both (eqb b.hearing.index 0)
        (eqb b.hearing.vad 0 && (eqb b.hearing.noise 0 && (eqb b.hearing.denoise 0 && numbers)))
        (rw h at e) in
        let v = both (eqb b.hearing.vad 0) (eqb b.hearing.noise 0 && (eqb b.hearing.denoise 0 && numbers))
        i.1 in
        let n = both (eqb b.hearing.noise 0) (eqb b.hearing.denoise 0 && numbers) v.1 in
        let d = both (eqb b.hearing.denoise 0) numbers n.1 in
        let s = both (eqb b.heard 0) pieces (both (eqb b.frame 0) (eqb b.heard 0 && pieces) d.1).1 in
        let k = both (idle b) last s.1 in
        let p = both (eqb b.progress 0) (eqb (way_number b.hearing.way) 0) k.1 in
        let w = both (eqb b.waiting 0) (eqb b.piece 0) k.0 in
        record {
          due = omega arith;
          index = omega (arith, eqb-true b.hearing.index 0 i.0);
          vad = omega (arith, eqb-true b.hearing.vad 0 v.0);
          noise = omega (arith, eqb-true b.hearing.noise 0 n.0);
          denoise = omega (arith, eqb-true b.hearing.denoise 0 d.0);
          waiting = omega (arith, eqb-true b.waiting 0 w.0);
          piece = omega (arith, eqb-true b.piece 0 w.1);
          progress = omega (arith, eqb-true b.progress 0 p.0);
        }
    go false h =
        let d = both _ _ (rw h at e) in
        let i = both _ _ d.1 in
        let c = both _ _ i.1 in
        let v = both _ _ c.0 in
        let n = both _ _ v.1 in
        let p = pieced b c.1 in
        record {
          due = leb-true b.due 4 d.0;
          index = leb-true b.hearing.index 7 i.0;
          vad = count b.hearing.vad v.0;
          noise = count b.hearing.noise n.0;
          denoise = count b.hearing.denoise n.1;
          waiting = p.0;
          piece = p.1;
          progress = p.2;
        }

-- ---- the record that comes back

counted : (n : ℕ) → 1 ≤ n → n ≤ 127 → (leb 1 n && leb n 127) ≡ true
counted n h k = rw (le-leb 1 n h, le-leb n 127 k)

pub next_due_lem : (d : ℕ) → (1 ≤ next_due d) × (next_due d ≤ 4)
next_due_lem d = go (ltb d 4) refl
  where
    go : (t : Bool) → ltb d 4 ≡ t → (1 ≤ cond t (d + 1) 1) × (cond t (d + 1) 1 ≤ 4)
    go true h = (omega arith, omega (arith, ltb-true d 4 h))
    go false h = (omega arith, omega arith)

pub next_index_lem : (i : ℕ) (r : Reply) → i ≤ 7 → next_index i r ≤ 7
next_index_lem i r h = go (is_heard r) (ltb i 7) refl
  where
    go : (s t : Bool) → ltb i 7 ≡ t → cond s (cond t (i + 1) 0) i ≤ 7
    go true true k = omega (arith, ltb-true i 7 k)
    go true false k = omega arith
    go false t k = h

-- of an open record its index, its counts and what a piece leaves
pub open_range : (b : Record) → (b.due ≡ 0 → ⊥) → in_range b ≡ true
    → (b.hearing.index ≤ 7) × (in_counts b ≡ true) × (in_pieces b ≡ true)
unfolding in_range
open_range b ne e =
    let rest = both (leb b.hearing.index 7) (in_counts b && in_pieces b)
    (both (leb b.due 4) _ (rw (ne_eqb b.due 0 ne) at e)).1 in
    let last = both (in_counts b) (in_pieces b) rest.1 in
    (leb-true b.hearing.index 7 rest.0, last.0, last.1)

module _ (b : Record) (ajar : b.due ≡ 0 → ⊥) (e : in_range b ≡ true) where
  -- moved on, with an index in range
  moved_range : (index frame heard : ℕ) → index ≤ 7 → let h = b.hearing in
      in_range (record_of (next_due b.due)
      (record { index = index; vad = h.vad; noise = h.noise; denoise = h.denoise; way = h.way }) frame heard) ≡ true
  unfolding in_range in_counts in_pieces resting
  moved_range index frame heard i =
      let due = next_due_lem b.due in
      rw (
        ne_eqb (next_due b.due) 0 (λ z. omega arith),
        le-leb (next_due b.due) 4 due.1,
        le-leb index 7 i,
        (open_range b ajar e).1,
      )

  numbered_range : in_range (numbered b) ≡ true
  numbered_range = moved_range _ _ _ (open_range b ajar e).0

pub advanced_range : (b : Record) (reply : Reply) → (b.due ≡ 0 → ⊥) → in_range b ≡ true
    → in_range (advanced b reply) ≡ true
advanced_range b reply ajar e =
    moved_range b ajar e _ _ _ (next_index_lem b.hearing.index reply (open_range b ajar e).0)

stays_open : (d : ℕ) → next_due d ≡ 0 → ⊥
stays_open d z = let due = next_due_lem d in omega arith

-- samples of a piece that are in no frame yet wait, or a frame is under way
carried_range : (b : Record) (rest size progress : ℕ) → b.hearing.index ≤ 7 → in_counts b ≡ true → size ≤ 4096
    → 1 ≤ progress → (480 ≤ rest → progress ≤ size)
    → in_range (carried b rest size progress) ≡ true
unfolding carried in_range in_counts in_pieces resting under_way
carried_range b rest size progress i c few some within = go (ltb rest 480) refl
  where
    idle_or : (t : Bool) → leb rest 479 ≡ true → cond t true (leb rest 479 && true) ≡ true
    idle_or true h = refl
    idle_or false h = rw h

    go : (t : Bool) → ltb rest 480 ≡ t → in_range (cond t (holding 1 b rest 0 0) (holding 3 b 0 size progress)) ≡ true
    go true h =
        let less = ltb-true rest 480 h in
        rw (le-leb b.hearing.index 7 i, c) (idle_or (eqb rest 0) (le-leb rest 479 (omega arith)))
    go false h =
        let more = within (ltb-false rest 480 h) in
        rw (
          le-leb b.hearing.index 7 i,
          c,
          ne_eqb size 0 (λ z. omega arith),
          le-leb size 4096 few,
          le-leb 1 progress some,
          le-leb progress size more,
        )

started_range : (w : Way) (s : List ℕ) (read : Reading) (b : Record) (share : List Float) → read_of s ≡ read
    → passed (opened share read).answer ≡ true
    → in_range (started b w read) ≡ true
unfolding in_range in_counts in_pieces resting
started_range w s (Unread n l) b share e p = absurd (false≢true p)
started_range w s (Good m) b share e p =
    let l = shaped s (sym e) in
    rw (
      counted _ l.layer1.some (omega (arith, l.layer1.neurons)),
      counted _ l.layer2.some (omega (arith, l.layer2.neurons)),
      counted _ l.layer3.some (omega (arith, l.layer3.neurons)),
    )

module _ (b : Record) (share : List Float) where
  recorded_range : (ask : Ask) (reply : Reply) → in_range b ≡ true → (not_opening (call_of ask) && eqb b.due 0) ≡ false
      → passed (on_share b share ask).answer ≡ true → in_range (recorded b ask reply) ≡ true
  recorded_range (opening w m) reply r o p = started_range w m (read_of m) b share refl p
  recorded_range (call1 x w) reply r o p = advanced_range b reply (eqb-false b.due 0 o) r
  recorded_range (call2 x l w s) reply r o p = advanced_range b reply (eqb-false b.due 0 o) r
  recorded_range (call2_own x w s) reply r o p = advanced_range b reply (eqb-false b.due 0 o) r
  recorded_range (call3 x l m k) reply r o p = advanced_range b reply (eqb-false b.due 0 o) r
  recorded_range (call4 x k) reply r o p = numbered_range b (eqb-false b.due 0 o) r
  recorded_range (first_half x s) reply r o p =
      advanced_range (advanced b reply) reply (stays_open b.due) (advanced_range b reply (eqb-false b.due 0 o) r)
  recorded_range (second_half l m k) reply r o p =
      numbered_range (advanced b reply) (stays_open b.due) (advanced_range b reply (eqb-false b.due 0 o) r)
  recorded_range (piece x k s) reply r o p =
      let ajar = open_range b (eqb-false b.due 0 o) r in
      let f = piece_fitted share b.hearing.way b.waiting x k s p in
      carried_range b (b.waiting + length x) (length x) (480 - b.waiting) ajar.0 ajar.1 f.few
      (omega (arith, f.waits)) (λ h. omega (arith, f.waits))
  recorded_range (resume x l m k s) reply r o p =
      let first = advanced_range b reply (eqb-false b.due 0 o) r in
      let ajar = open_range (numbered (advanced b reply)) (stays_open (next_due b.due))
      (numbered_range (advanced b reply) (stays_open b.due) first) in
      let f = resume_fitted share b.hearing b.piece b.progress x l m k s p in
      carried_range (numbered (advanced b reply)) (length x - b.progress) (length x) (b.progress + 480) ajar.0
      ajar.1 (omega (arith, f.same, f.few)) (omega arith) (λ h. omega (arith, f.same, f.within))

pub range_kept : RangeKept
range_kept n side b store ask p =
    let e = was_let_in b ask n side store p in
    let clear = none n side b (length store) (call_of ask) e in
    let r = not-false (in_range b) clear.1.1.0 in
    let share = get (share_of side) store in
    let q = on_share_lem b ask n side store p in (
      r,
      rw (let_in b ask n side store e, q)
          (recorded_range b share ask (on_share b share ask).answer r clear.1.1.1.0 q),
    )

-- a call that is done is on one of the benches
pub seated : (n side : ℕ) (b : Record) (store : List Float) (ask : Ask)
    → passed (desk n side b store ask).answer.reply ≡ true → side < n
seated n side b store ask p = (through n side b (length store) (call_of ask) (was_let_in b ask n side store p)).0

-- ---- a call that is done leaves its side open

carried_open : (b : Record) (rest size progress : ℕ) → (carried b rest size progress).due ≡ 0 → ⊥
unfolding carried
carried_open b rest size progress = go (ltb rest 480)
  where
    go : (t : Bool) → (cond t (holding 1 b rest 0 0) (holding 3 b 0 size progress)).due ≡ 0 → ⊥
    go true z = absurd (omega arith)
    go false z = absurd (omega arith)

started_open : (b : Record) (share : List Float) (w : Way) (read : Reading) → passed (opened share read).answer ≡ true
    → (started b w read).due ≡ 0 → ⊥
started_open b share w (Good m) p z = absurd (omega arith)
started_open b share w (Unread n l) p z = absurd (false≢true p)

recorded_open : (b : Record) (share : List Float) (ask : Ask) (reply : Reply)
    → passed (on_share b share ask).answer ≡ true → (recorded b ask reply).due ≡ 0 → ⊥
recorded_open b share (opening w m) reply p = started_open b share w (read_of m) p
recorded_open b share (call1 x w) reply p = stays_open b.due
recorded_open b share (call2 x l w s) reply p = stays_open b.due
recorded_open b share (call2_own x w s) reply p = stays_open b.due
recorded_open b share (call3 x l m k) reply p = stays_open b.due
recorded_open b share (call4 x k) reply p = stays_open b.due
recorded_open b share (first_half x s) reply p = stays_open (next_due b.due)
recorded_open b share (second_half l m k) reply p = stays_open (next_due b.due)
recorded_open b share (piece x k s) reply p = carried_open b _ _ _
recorded_open b share (resume x l m k s) reply p = carried_open (numbered (advanced b reply)) _ _ _

pub left_open : (n side : ℕ) (b : Record) (store : List Float) (ask : Ask)
    → passed (desk n side b store ask).answer.reply ≡ true
    → (desk n side b store ask).answer.rec.due ≡ 0 → ⊥
left_open n side b store ask p =
    let share = get (share_of side) store in
    let q = on_share_lem b ask n side store p in
    rw (let_in b ask n side store (was_let_in b ask n side store p), q)
    (recorded_open b share ask (on_share b share ask).answer q)

-- ---- an opening gets through

closed_range : in_range closed ≡ true
unfolding in_range all_zero idle
closed_range = refl

let_open : (n side : ℕ) (b : Record) (len : ℕ) → side < n → len ≡ n * SHARE → in_range b ≡ true
    → gate n side b len 0 ≡ 0
unfolding gate
let_open n side b len h l r = rw (lt-ltb side n h, eq-eqb len (n * SHARE) l, r)

done_open : (n side : ℕ) (b : Record) (store : List Float) (w : Way) (s : List ℕ) (m : Model) → side < n
    → length store ≡ n * SHARE → in_range b ≡ true
    → read_of s ≡ Good m → (desk n side b store (opening w s)).answer.reply ≡ Done
unfolding desk
done_open n side b store w s m h l r e = rw (let_open n side b (length store) h l r, e)

pub opens : Opens
opens = (closed_range, done_open)
