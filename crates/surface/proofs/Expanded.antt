-- Runs of the surface's calls as runs of the desk's.
--     again, begun, unmoved     a further call on a side, the first, and none
--     frame-runs, take_runs, one-call     each of the calls; row-runs, the resumes of a take
--     expands, our-calls        any run of them, and what is claimed over it
-- Assumes nothing.
use Rattle.std.specs.Prelude.{◌∷◌, ◌≡◌}
use Rattle.rules.proofs.Common.{ℕ, zero, suc, Bool, true, false, cond, List, [], map, refl, sym, ap, ◌∙◌, eqb}
use Rattle.rules.proofs.Common.{length, replicate, Float}
use mathlib.Core.Path.{fun_ext}
use borrow.Author.Tests.{eqb-true, eq-eqb}
use Rattle.rules.specs.Place.{get}
use Rattle.rules.proofs.Refusals.{along}
use Rattle.frame.specs.Written.{first_in}
use Rattle.logs.specs.Log10.{logs_of}
use Rattle.frame.specs.Effect.{Effect, refusal}
use Rattle.frame.specs.Reply.{Reply, Refused, passed}
use Rattle.pieces.specs.Pieces.{completes}
use Rattle.desk.specs.Answer.{Answer}
use Rattle.desk.specs.declared.Record.{Record}
use Rattle.desk.specs.Gate.{BENCHES, PIECE, side_of, gate, share_of}
use Rattle.desk.specs.Desk.{Ask, first_half, second_half, piece, resume, desk}
use Rattle.desk.specs.Laws.{placed}
use Rattle.desk.specs.Surface.{numbers_of, record_in, handed_back, hosted}
use Rattle.desk.proofs.Kept.{refused_keeps}
use Rattle.dictation.specs.Cutting.{sums_in}
use Rattle.dictation.specs.Dictation.{Dictated, dictated}
use Rattle.dictation.proofs.Cuts.{Row, row_end, row_more, row_passes}
use Rattle.whole.specs.Laws.{frame_begins, frame_ends}
use Rattle.whole.specs.Whole.{our_lent, frame_reply, take_reply, lent_to_each, taken_on}
use Rattle.whole.specs.Whole as whole
use Rattle.whole.specs.Surface.{hosted_frame, hosted_take}
use Rattle.whole.proofs.Dictations.{take_row}
use Rattle.whole.proofs.Halves.{two_halves, refused_is}
use Rattle.feed.specs.Feed.{Block, ROOM, block_size, samples_of, feed_rows, fed_by}
use Rattle.feed.specs.Feed as feeding
use Rattle.feed.specs.Surface.{hosted_feed}
use Rattle.isolation.specs.Run.{on, State, record_at, after, ended, desks, Expands}
use Rattle.isolation.proofs.Memories.{counts}
use Rattle.isolation.proofs.Runs.{reads, expanding}
use Rattle.surface.specs.Surface.{Call, ask, frame, take, feed, surface, resume_for, made_of, OurCalls}

-- ---- the records and the store

-- where a call on a side gave these
abbrev pub leaving : State → ℕ → List ℕ → List Float → State
leaving st side ns store = record { numbers = λ s. cond (eqb side s) ns (st.numbers s); store = store }

-- the record of a side that another one replaces
over : (side s : ℕ) (last first old : List ℕ)
    → cond (eqb side s) last (cond (eqb side s) first old) ≡ cond (eqb side s) last old
over side s last first old = go (eqb side s)
  where
    go : (t : Bool) → cond t last (cond t first old) ≡ cond t last old
    go true = refl
    go false = refl

own : (side s : ℕ) (numbers : ℕ → List ℕ) → cond (eqb side s) (numbers side) (numbers s) ≡ numbers s
own side s numbers = go (eqb side s) refl
  where
    go : (t : Bool) → eqb side s ≡ t → cond t (numbers side) (numbers s) ≡ numbers s
    go true e = ap numbers (eqb-true side s e)
    go false e = refl

-- the record that a call of the desk hands back, of one that is done and of any behind it
back : (side : ℕ) (a : Answer) (ns : List ℕ) → passed a.reply ≡ true → handed_back side a ns ≡ numbers_of side a.rec
back side a ns p = rw p

handed : (n side : ℕ) (rec : Record) (store : List Float) (a : Ask)
    → let o = desk n side rec store a in
    handed_back side o.answer (numbers_of side rec) ≡ numbers_of side o.answer.rec
handed n side rec store a = go (passed o.answer.reply) refl
  where
    o : Effect Answer
    o = desk n side rec store a

    go : (t : Bool) → passed o.answer.reply ≡ t
        → cond t (numbers_of side o.answer.rec) (numbers_of side rec) ≡ numbers_of side o.answer.rec
    go true p = refl
    go false p = ap (numbers_of side) (sym (refused_keeps n side rec store a p).0)

module _ (n side : ℕ) (st : State) where
  pub again : (rec : Record) (store : List Float) (a : Ask)
      → let o = desk n side rec store a in
      after desks n (leaving st side (numbers_of side rec) store) (on side a)
      ≡ leaving st side (numbers_of side o.answer.rec) o.kept
  unfolding hosted record_in
  again rec store a =
      let mine : cond (eqb side side) (numbers_of side rec) (st.numbers side) ≡ numbers_of side rec =
      rw (eq-eqb side side refl) in
      let o = desk n side rec store a in
      let first = leaving st side (numbers_of side rec) store in
      ap (λ (ns : List ℕ).
      let g = desk n side (record_in side ns) store a in leaving first side (handed_back side g.answer ns) g.kept)
      mine
      ∙ ap (λ (r : Record).
      let g = desk n side r store a in leaving first side (handed_back side g.answer (numbers_of side rec)) g.kept)
      (reads side rec)
      ∙ ap (λ (ns : List ℕ). leaving first side ns o.kept) (handed n side rec store a)
      ∙ ap (λ (f : ℕ → List ℕ). record { numbers = f; store = o.kept })
      (fun_ext (λ s. over side s (numbers_of side o.answer.rec) (numbers_of side rec) (st.numbers s)))

  pub begun : (a : Ask) → let o = desk n side (record_at side st) st.store a in
      passed o.answer.reply ≡ true
      → leaving st side (numbers_of side o.answer.rec) o.kept ≡ after desks n st (on side a)
  unfolding hosted
  begun a p =
      let o = desk n side (record_at side st) st.store a in
      ap (λ (ns : List ℕ). leaving st side ns o.kept) (sym (back side o.answer (st.numbers side) p))

  pub unmoved : leaving st side (st.numbers side) st.store ≡ st
  unmoved = ap (λ (f : ℕ → List ℕ). record { numbers = f; store = st.store }) (fun_ext (λ s. own side s st.numbers))

-- ---- each of the calls, on a side with its record

-- so many calls of the desk lead to what was given
abbrev Leads : ℕ → ℕ → State → List Ask → Effect Answer → Type 0
Leads n side st asks o =
    leaving st side (handed_back side o.answer (st.numbers side)) o.kept ≡ ended desks n st (map (on side) asks)

module _ (n side : ℕ) (st : State) where
  abbrev ns : List ℕ
  ns = st.numbers side

  abbrev rec : Record
  rec = record_at side st

  -- a call that is refused is made of none
  none_runs : (reply : Reply) → passed reply ≡ false
      → Leads n side st [] (refusal (record { reply = reply; rec = record_at side st }) st.store)
  unfolding ended
  none_runs reply p =
      ap (λ (t : Bool). leaving st side (cond t (numbers_of side rec) ns) st.store) p ∙ unmoved n side st

  frame_runs : (x : List Float) (m : List ℕ) (o : ℕ)
      → Leads n side st (made_of n side (record_at side st) st.store (frame x m o))
      (whole.frame n side (record_at side st) st.store x m o)
  unfolding ended
  frame_runs x m o = go (passed reply) refl
    where
      reply : Reply
      reply = frame_reply n side rec (length st.store) x m o

      one : Effect Answer
      one = frame_begins n side rec st.store x

      second : Ask
      second = second_half (logs_of (first_in one.written)) m o

      two : Effect Answer
      two = frame_ends n side rec st.store x m o

      go : (t : Bool) → passed reply ≡ t
          → Leads n side st (cond t (first_half x 22 ∷ second ∷ []) []) (whole.frame n side rec st.store x m o)
      go true p =
          let h = two_halves n side rec st.store x m o p in
          ap (λ (g : Effect Answer). leaving st side (handed_back side g.answer ns) g.kept) h.2
          ∙ ap (λ (r : List ℕ). leaving st side r two.kept) (back side two.answer ns h.1)
          ∙ sym (again n side st one.answer.rec one.kept second)
          ∙ ap (λ (s : State). after desks n s (on side second)) (begun n side st (first_half x 22) h.0)
      go false p =
          ap (λ (g : Effect Answer). leaving st side (handed_back side g.answer ns) g.kept)
          (refused_is n side rec st.store x m o p)
          ∙ none_runs reply p

  -- along the resumes of a piece
  row_runs : (x : List Float) (m : List ℕ) (o k : ℕ) {e : Effect Answer} {d : Dictated}
      → Row n side x o e (replicate k (our_lent m)) d
      → leaving st side (numbers_of side d.rec) d.kept
      ≡ ended desks n (leaving st side (numbers_of side e.answer.rec) e.kept)
      (map (on side) (map (resume_for x m o) d.told))
  unfolding ended
  row_runs x m o zero (row_end p) = refl
  row_runs x m o (suc k) (row_more {o = e} {next = next} {d = d} p q more) =
      row_runs x m o k more
      ∙ ap (λ (s : State). ended desks n s (map (on side) (map (resume_for x m o) d.told)))
      (ap (λ (g : Effect Answer). leaving st side (numbers_of side g.answer.rec) g.kept) q
      ∙ sym (again n side st e.answer.rec e.kept (resume x (logs_of (sums_in e)) m o 22)))

  take_runs : (x : List Float) (m : List ℕ) (o a : ℕ)
      → Leads n side st (made_of n side (record_at side st) st.store (take x m o a))
      (whole.take n side (record_at side st) st.store x m o a)
  unfolding whole.take ended
  take_runs x m o a = go (passed reply) refl
    where
      reply : Reply
      reply = take_reply n side rec st.store x m o a

      d : Dictated
      d = dictated side rec st.store x (lent_to_each rec x m)

      go : (t : Bool) → passed reply ≡ t
          → Leads n side st (cond t (piece x o 22 ∷ map (resume_for x m o) d.told) [])
          (cond t (placed side st.store (taken_on rec (get (share_of side) st.store) x m))
          (refusal (record { reply = reply; rec = rec }) st.store))
      go true p =
          let row = take_row n side rec st.store x m o a p in
          row_runs x m o (completes rec.waiting (length x)) row
          ∙ ap (λ (s : State). ended desks n s (map (on side) (map (resume_for x m o) d.told)))
          (begun n side st (piece x o 22) (row_passes row))
      go false p = none_runs reply p

  feed_runs : (b : Block) (m : List ℕ) (cleaned records answers : ℕ)
      → Leads n side st (made_of n side (record_at side st) st.store (feed b m cleaned records answers))
      (feeding.feed n side (record_at side st) st.store b m cleaned records answers)
  unfolding feeding.feed ended
  feed_runs b m cleaned records answers =
      let rows =
      feed_rows (gate n side rec (length st.store) PIECE) rec.waiting (block_size b) cleaned records answers in
      let asks = made_of n side rec st.store (take (samples_of b) m ROOM answers) in
      let run : List Ask → State = λ xs. ended desks n st (map (on side) xs) in
      along (λ (o : Effect Answer). leaving st side (handed_back side o.answer ns) o.kept)
      (λ r. refusal (record { reply = Refused r; rec = rec }) st.store)
      (fed_by (side_of side) rec.frame (whole.take n side rec st.store (samples_of b) m ROOM answers)) (λ _. st)
      (run asks) rows
      (λ _. unmoved n side st) (λ _. take_runs (samples_of b) m ROOM answers)
      ∙ sym (along run (λ _. []) asks (λ _. st) (run asks) rows (λ _. refl) (λ _. refl))

pub one_call : (n : ℕ) (st : State) (side : ℕ) (c : Call)
    → after surface n st (on side c) ≡ ended desks n st (map (on side) (made_of n side (record_at side st) st.store c))
unfolding hosted hosted_frame hosted_take hosted_feed ended
one_call n st side (ask a) = refl
one_call n st side (frame x m o) = frame_runs n side st x m o
one_call n st side (take x m o a) = take_runs n side st x m o a
one_call n st side (feed b m c e a) = feed_runs n side st b m c e a

pub expands : (n : ℕ) → Expands surface made_of n
expands n = expanding surface made_of n (one_call n)

pub our_calls : OurCalls
our_calls = (expands BENCHES, counts surface made_of BENCHES (expands BENCHES))
