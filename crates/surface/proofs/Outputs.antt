-- What a side receives, by the desk's calls that its calls are made of.
--     column                       the numbers that a side's calls of the desk write to one of their buffers, in order
--     take-outputs, take-answers   what a take hands out, by its piece and its resumes
--     told_is, received_is         one call, where what it is made of are pieces and resumes, and any run
--     own-asks                     any run in which a side makes no whole calls
-- Assumes nothing.
use Rattle.std.specs.Prelude.{◌-◌, ◌&&◌, ◌∷◌, ◌++◌, ◌≡◌}
use Rattle.rules.proofs.Common.{ℕ, zero, suc, Bool, true, false, cond, false≢true, List, [], map}
use Rattle.rules.proofs.Common.{refl, sym, ap}
use Rattle.rules.proofs.Common.{ap₂, subst, ◌∙◌, eqb, ltb, length, get_or, drop, replicate, Float}
use native.Mathlib.Omega.{arith}
use mathlib.Core.List.{append_assoc, append-nil}
use borrow.Author.Tests.{eq-eqb}
use Rattle.rules.specs.Place.{get}
use Rattle.rules.proofs.Refusals as by-gates
use Rattle.frame.specs.Written.{Written, all, from, nothing, numbers_in, first_in}
use Rattle.logs.specs.Log10.{logs_of}
use Rattle.desk.specs.Answer.{Answer}
use Rattle.frame.specs.Effect.{Effect, refusal}
use Rattle.frame.specs.Reply.{Reply, Done, Silent, Heard, Numbered, Refused, Misread, passed}
use Rattle.pieces.specs.Pieces.{waiting_in, waits, completes, further}
use Rattle.pieces.specs.Pieces as pieces
use Rattle.desk.specs.declared.Record.{Record}
use Rattle.desk.specs.Gate.{PIECE, side_of, gate, share_of}
use Rattle.desk.specs.Desk.{Ask, opening, call1, call2, call2_own, call3, call4, first_half, second_half, piece, resume}
use Rattle.desk.specs.Desk.{desk}
use Rattle.desk.specs.Laws.{placed}
use Rattle.desk.specs.Surface.{numbers_of, record_in, reply_number, heard_of, besides, telling, hosted}
use Rattle.desk.proofs.Buffers.{buffers}
use Rattle.dictation.specs.Dictation.{Lent, Dictated, dictated}
use Rattle.dictation.proofs.Taken.{onward, piece_passed}
use Rattle.dictation.specs.Cutting.{sums_in}
use Rattle.dictation.proofs.Cuts.{Row, row_end, row_more, row_passes}
use Rattle.whole.specs.Laws.{frame_begins}
use Rattle.whole.specs.Whole.{our_lent, frame_reply, take_reply, lent_to_each, answers_of, taken_on}
use Rattle.whole.specs.Whole as whole
use Rattle.whole.specs.Surface.{hosted_frame, hosted_take}
use Rattle.whole.proofs.Dictations.{take_row}
use Rattle.whole.proofs.Halves.{two_halves, refused_is}
use Rattle.feed.specs.Feed.{Block, ROOM, block_size, samples_of, feed_rows, fed_of, fed_by}
use Rattle.feed.specs.Feed as feeding
use Rattle.feed.specs.Surface.{hosted_feed}
use Rattle.isolation.specs.Isolation.{own}
use Rattle.isolation.specs.Run.{On, on, State, record_at, given, gets, after, ended, done, desks, expand}
use Rattle.isolation.proofs.Runs.{reads}
use Rattle.surface.specs.Surface.{Call, ask, frame, take, feed, surface, resume_for, made_of}
use Rattle.surface.specs.Between.{resumes, InARow, last_piece, more_pieces, in_buffer, answers_at, NoFeed, All}
use Rattle.surface.proofs.Expanded.{leaving, again, begun, one_call}

abbrev pub column : ℕ → ℕ → ℕ → State → List (On Ask) → List Float
column k n s st cs = in_buffer desks (λ _. k) n s st cs

-- what a call of the desk wrote to it, as a host has it
abbrev pub wrote : ℕ → Ask → Effect Answer → List Float
wrote k a o = numbers_in (get_or (o.written ++ besides a o.answer.reply) k nothing)

-- ---- pieces and resumes

abbrev Hands : Ask → Type 0
Hands (opening w m) = ⊥
Hands (call1 x w) = ⊥
Hands (call2 x l w s) = ⊥
Hands (call2_own x w s) = ⊥
Hands (call3 x l m o) = ⊥
Hands (call4 x o) = ⊥
Hands (first_half x s) = ⊥
Hands (second_half l m o) = ⊥
Hands (piece x o s) = Unit
Hands (resume x l m o s) = Unit

abbrev pub AllHands : List Ask → Type 0
AllHands [] = Unit
AllHands (a ∷ more) = Hands a × AllHands more

hands_both : (xs ys : List Ask) → AllHands xs → AllHands ys → AllHands (xs ++ ys)
hands_both [] ys h k = k
hands_both (x ∷ xs) ys h k = (h.0, hands_both xs ys h.1 k)

hands_split : (xs ys : List Ask) → AllHands (xs ++ ys) → AllHands xs × AllHands ys
hands_split [] ys h = (tt, h)
hands_split (x ∷ xs) ys h = let k = hands_split xs ys h.1 in ((h.0, k.0), k.1)

resumes_hand : (x : List Float) (o : ℕ) (gs : List (List Float × List ℕ)) → AllHands (resumes x o gs)
resumes_hand x o [] = tt
resumes_hand x o (g ∷ gs) = (tt, resumes_hand x o gs)

pub row_hands : {asks : List Ask} {ys : List Float} {ms : List Lent} → InARow asks ys ms → AllHands asks
row_hands (last_piece x o gs) = (tt, resumes_hand x o gs)
row_hands (more_pieces x o gs {asks} r) = (tt, hands_both (resumes x o gs) asks (resumes_hand x o gs) (row_hands r))

-- ---- runs one after the other

done_more : (n s : ℕ) (first rest : List (On Ask)) (st : State)
    → done desks n s st (first ++ rest) ≡ done desks n s st first ++ done desks n s (ended desks n st first) rest
unfolding done ended
done_more n s [] rest st = refl
done_more n s (c ∷ first) rest st =
    go (eqb c.side s && eqb (gets desks n st c).number 0) (done_more n s first rest (after desks n st c))
  where
    next : State
    next = after desks n st c

    go : (t : Bool) → done desks n s next (first ++ rest)
        ≡ done desks n s next first ++ done desks n s (ended desks n next first) rest
        → cond t (c.call ∷ done desks n s next (first ++ rest)) (done desks n s next (first ++ rest))
        ≡ cond t (c.call ∷ done desks n s next first) (done desks n s next first)
        ++ done desks n s (ended desks n next first) rest
    go true e = ap (λ (x : List Ask). c.call ∷ x) e
    go false e = e

column_more : (k n s : ℕ) (first rest : List (On Ask)) (st : State)
    → column k n s st (first ++ rest) ≡ column k n s st first ++ column k n s (ended desks n st first) rest
unfolding in_buffer ended
column_more k n s [] rest st = refl
column_more k n s (c ∷ first) rest st =
    let next = after desks n st c in
    let here = cond (eqb c.side s) (numbers_in (get_or (given desks n st c).written k nothing)) [] in
    ap (λ (x : List Float). here ++ x) (column_more k n s first rest next)
    ∙ sym (append_assoc here (column k n s next first) (column k n s (ended desks n next first) rest))

-- ---- one call of the desk

-- in front of what is told besides, and behind
in_front : (ws us : List Written) (k : ℕ) → length ws ≡ suc k → first_in (ws ++ us) ≡ first_in ws
in_front [] us k l = absurd (omega arith)
in_front (w ∷ ws) us k l = refl

third : (ws us : List Written) → length ws ≡ 2 → get_or (ws ++ us) 2 nothing ≡ get_or us 0 nothing
third [] us l = absurd (omega arith)
third (w ∷ []) us l = absurd (omega arith)
third (w ∷ v ∷ []) us l = refl
third (w ∷ v ∷ u ∷ ws) us l = absurd (omega arith)

-- what goes onward, first
pub first_written : (side : ℕ) (store : List Float) (rec : Record) (reply : Reply) (share rest : List Float)
    (size progress k : ℕ) (ys : List Float) (us : List Written)
    → first_in ((onward side store rec reply share rest size progress (from k ys)).written ++ us) ≡ ys
unfolding further
first_written side store rec reply share rest size progress k ys us = go (ltb (length rest) 480)
  where
    go : (t : Bool) → first_in
        ((cond t (pieces.at_end reply share rest (from k ys))
        (pieces.paused reply share rec.hearing.way rest (from k ys))).written ++ us) ≡ ys
    go true = refl
    go false = refl

-- a piece that is done gives no samples and no answers, and a resume three answers
module _ (n side : ℕ) (b : Record) (store x : List Float) (o : ℕ) where
  pub piece_none : passed (desk n side b store (piece x o 22)).answer.reply ≡ true
      → wrote 0 (piece x o 22) (desk n side b store (piece x o 22)) ≡ []
  piece_none p =
      let share = get (share_of side) store in
      ap (wrote 0 (piece x o 22)) (piece_passed n side b store x o 22 p).2
      ∙ first_written side store b Done (waits share []) (waiting_in b.waiting share ++ x) (length x)
      (480 - b.waiting) 0 [] []

  pub piece_unheard : passed (desk n side b store (piece x o 22)).answer.reply ≡ true
      → wrote 2 (piece x o 22) (desk n side b store (piece x o 22)) ≡ []
  piece_unheard p =
      ap numbers_in (third (desk n side b store (piece x o 22)).written []
      (rw p at (buffers n side b store (piece x o 22))))

  module _ (l : List Float) (m : List ℕ) where
    abbrev a : Ask
    a = resume x l m o 22

    resume_first : passed (desk n side b store (resume x l m o 22)).answer.reply ≡ true
        → wrote 0 (resume x l m o 22) (desk n side b store (resume x l m o 22))
        ≡ first_in (desk n side b store (resume x l m o 22)).written
    resume_first p =
        let g = desk n side b store a in
        in_front g.written (besides a g.answer.reply) 1 (rw p at (buffers n side b store a))

    pub resume_heard : passed (desk n side b store (resume x l m o 22)).answer.reply ≡ true
        → wrote 2 (resume x l m o 22) (desk n side b store (resume x l m o 22))
        ≡ heard_of (desk n side b store (resume x l m o 22)).answer.reply
    resume_heard p =
        let g = desk n side b store a in
        ap numbers_in (third g.written (besides a g.answer.reply) (rw p at (buffers n side b store a)))
        ∙ ap (λ (t : Bool). numbers_in (get_or (cond t (all (heard_of g.answer.reply) ∷ []) []) 0 nothing)) p

module _ (n s side : ℕ) where
  -- of another side
  none_out : (k : ℕ) → eqb side s ≡ false → (asks : List Ask) (st : State) → column k n s st (map (on side) asks) ≡ []
  unfolding in_buffer
  none_out k e [] st = refl
  none_out k e (a ∷ more) st = rw e (none_out k e more (after desks n st (on side a)))

  one_out : (k : ℕ) → eqb side s ≡ true → (a : Ask) (st : State)
      → column k n s st (on side a ∷ []) ≡ wrote k a (desk n side (record_at side st) st.store a)
  unfolding in_buffer hosted
  one_out k e a st = rw e (append-nil (wrote k a (desk n side (record_at side st) st.store a)))

-- ---- a take

module _ (n s side : ℕ) (mine : eqb side s ≡ true) (st : State) where
  -- a call of the desk, and those after it
  next_column : (k : ℕ) (b : Record) (store : List Float) (a : Ask) (rest : List (On Ask))
      → let o = desk n side b store a in
      column k n s (leaving st side (numbers_of side b) store) (on side a ∷ rest)
      ≡ wrote k a o ++ column k n s (leaving st side (numbers_of side o.answer.rec) o.kept) rest
  unfolding ended
  next_column k b store a rest =
      let there = leaving st side (numbers_of side b) store in
      let own : there.numbers side ≡ numbers_of side b = rw (eq-eqb side side refl) in
      column_more k n s (on side a ∷ []) rest there
      ∙ ap₂ (λ (u v : List Float). u ++ v)
      (one_out n s side k mine a there ∙ ap (λ (ns : List ℕ). wrote k a (desk n side (record_in side ns) store a)) own
      ∙ ap (λ (r : Record). wrote k a (desk n side r store a)) (reads side b))
      (ap (λ (t : State). column k n s t rest) (again n side st b store a))

  -- the resumes of a piece, by what each of them hands out
  module _ (x : List Float) (m : List ℕ) (o : ℕ) where
    abbrev row : Dictated → List (On Ask)
    row d = map (on side) (map (resume_for x m o) d.told)

    row_columns : (k : ℕ) {e : Effect Answer} {d : Dictated} → Row n side x o e (replicate k (our_lent m)) d
        → let there = leaving st side (numbers_of side e.answer.rec) e.kept in
        (column 0 n s there (row d) ≡ d.out) × (column 2 n s there (row d) ≡ answers_of d.told)
    unfolding in_buffer
    row_columns zero (row_end p) = (refl, refl)
    row_columns (suc k) (row_more {o = e} {next = next} {d = d} p q more) =
        let b = e.answer.rec in
        let logs = logs_of (sums_in e) in
        let a = resume x logs m o 22 in
        let ih = row_columns k more in
        let passes : passed (desk n side b e.kept a).answer.reply ≡ true = rw q at (row_passes more) in
        let to : (c : ℕ) → column c n s (leaving st side (numbers_of side b) e.kept) (on side a ∷ row d)
        ≡ wrote c a next ++ column c n s (leaving st side (numbers_of side next.answer.rec) next.kept) (row d) =
        λ c. rw q (next_column c b e.kept a (row d)) in (
          to 0 ∙ ap₂ (λ (u v : List Float). u ++ v)
              (subst (λ (g : Effect Answer). wrote 0 a g ≡ first_in g.written) (sym q)
              (resume_first n side b e.kept x o logs m passes)) ih.0,
          to 2 ∙ ap₂ (λ (u v : List Float). u ++ v)
              (subst (λ (g : Effect Answer). wrote 2 a g ≡ heard_of g.answer.reply) (sym q)
              (resume_heard n side b e.kept x o logs m passes)) ih.1,
        )

    module _ (a : ℕ) (p : passed (take_reply n side (record_at side st) st.store x m o a) ≡ true) where
      abbrev d : Dictated
      d = dictated side (record_at side st) st.store x (lent_to_each (record_at side st) x m)

      -- where the piece writes nothing to it
      from_piece : (k : ℕ) {ys : List Float} → let e = desk n side (record_at side st) st.store (piece x o 22) in
          wrote k (piece x o 22) e ≡ []
          → column k n s (leaving st side (numbers_of side e.answer.rec) e.kept) (row d) ≡ ys
          → ys ≡ column k n s st (map (on side) (piece x o 22 ∷ map (resume_for x m o) d.told))
      unfolding ended
      from_piece k none more =
          let done = row_passes (take_row n side (record_at side st) st.store x m o a p) in
          sym
          (column_more k n s (on side (piece x o 22) ∷ []) (row d) st
          ∙ ap₂ (λ (u v : List Float). u ++ v) (one_out n s side k mine (piece x o 22) st ∙ none)
          (ap (λ (t : State). column k n s t (row d)) (sym (begun n side st (piece x o 22) done)) ∙ more))

      take_outputs : d.out ≡ column 0 n s st (map (on side) (piece x o 22 ∷ map (resume_for x m o) d.told))
      take_outputs =
          let r = take_row n side (record_at side st) st.store x m o a p in
          from_piece 0 (piece_none n side (record_at side st) st.store x o (row_passes r))
          (row_columns (completes (record_at side st).waiting (length x)) r).0

      take_answers : answers_of d.told
          ≡ column 2 n s st (map (on side) (piece x o 22 ∷ map (resume_for x m o) d.told))
      take_answers =
          let r = take_row n side (record_at side st) st.store x m o a p in
          from_piece 2 (piece_unheard n side (record_at side st) st.store x o (row_passes r))
          (row_columns (completes (record_at side st).waiting (length x)) r).1

-- ---- one call of the surface

zero_back : (r : Reply) → passed r ≡ true → eqb (reply_number r) 0 ≡ true
zero_back Done p = refl
zero_back Silent p = refl
zero_back (Heard v e) p = refl
zero_back (Numbered f h) p = refl
zero_back (Refused k) p = absurd (false≢true p)
zero_back (Misread k l) p = absurd (false≢true p)

-- a feed's answers are its take's
fed_answers : (side number : ℕ) (ws : List Written)
    → numbers_in (get_or (fed_of side number ws) 0 nothing) ≡ numbers_in (get_or ws 1 nothing)
fed_answers side number [] = refl
fed_answers side number (w ∷ ws) = refl

split_own : (P : Call → Type 0) (t : Bool) (c : Call) (cs : List Call) → All P (cond t (c ∷ cs) cs)
    → All P cs × (t ≡ true → P c)
split_own P true c cs k = (k.1, λ _. k.0)
split_own P false c cs k = (k, λ e. absurd (false≢true e))

-- where this buffer of a take is column k of the desk's calls, and of a feed of which P holds it is its take's
module _ (P : Call → Type 0) (which : Call → ℕ) (k : ℕ) (asked : (a : Ask) → which (ask a) ≡ k) (n s : ℕ)
    (takes : (side : ℕ) → eqb side s ≡ true → (st : State) (x : List Float) (m : List ℕ) (o a : ℕ)
    → passed (take_reply n side (record_at side st) st.store x m o a) ≡ true
    → let d = dictated side (record_at side st) st.store x (lent_to_each (record_at side st) x m) in
    numbers_in (get_or (from 0 d.out ∷ from 0 (answers_of d.told) ∷ []) (which (take x m o a)) nothing)
    ≡ column k n s st (map (on side) (piece x o 22 ∷ map (resume_for x m o) d.told)))
    (feeds : (b : Block) (m : List ℕ) (c e a : ℕ) → P (feed b m c e a) → (side number : ℕ) (ws : List Written)
    → numbers_in (get_or (fed_of side number ws) (which (feed b m c e a)) nothing)
    ≡ numbers_in (get_or ws (which (take (samples_of b) m ROOM a)) nothing)) where
  module _ (side : ℕ) (mine : eqb side s ≡ true) (st : State) where
    abbrev ns : List ℕ
    ns = st.numbers side

    abbrev rec : Record
    rec = record_at side st

    taken : (x : List Float) (m : List ℕ) (o a : ℕ)
        → numbers_in (get_or (whole.take n side (record_at side st) st.store x m o a).written
        (which (take x m o a)) nothing)
        ≡ column k n s st (map (on side) (made_of n side (record_at side st) st.store (take x m o a)))
    unfolding in_buffer whole.take
    taken x m o a = go (passed reply) refl
      where
        reply : Reply
        reply = take_reply n side rec st.store x m o a

        d : Dictated
        d = dictated side rec st.store x (lent_to_each rec x m)

        go : (t : Bool) → passed reply ≡ t
            → numbers_in
            (get_or (cond t (placed side st.store (taken_on rec (get (share_of side) st.store) x m))
            (refusal (record { reply = reply; rec = rec }) st.store)).written (which (take x m o a)) nothing)
            ≡ column k n s st (map (on side) (cond t (piece x o 22 ∷ map (resume_for x m o) d.told) []))
        go true p = takes side mine st x m o a p
        go false p = refl

    told_is : (c : Call) → P c
        → AllHands (done desks n s st (map (on side) (made_of n side (record_at side st) st.store c)))
        → numbers_in (get_or (surface n side (st.numbers side) st.store c).written (which c) nothing)
        ≡ column k n s st (map (on side) (made_of n side (record_at side st) st.store c))
    unfolding done in_buffer hosted hosted_frame hosted_take hosted_feed feeding.feed
    told_is (ask a) q h = rw (asked a) (sym (one_out n s side k mine a st))
    told_is (frame x m o) q h = go (passed reply) refl h
      where
        reply : Reply
        reply = frame_reply n side rec (length st.store) x m o

        second : Ask
        second = second_half (logs_of (first_in (frame_begins n side rec st.store x).written)) m o

        go : (t : Bool) → passed reply ≡ t
            → AllHands (done desks n s st (map (on side) (cond t (first_half x 22 ∷ second ∷ []) [])))
            → numbers_in (get_or (telling (whole.frame n side rec st.store x m o)).written
            (which (frame x m o)) nothing)
            ≡ column k n s st (map (on side) (cond t (first_half x 22 ∷ second ∷ []) []))
        go true p h = absurd (rw (mine, zero_back _ (two_halves n side rec st.store x m o p).0) at h).0
        go false p h =
            ap (λ (g : Effect Answer). numbers_in (get_or (telling g).written (which (frame x m o)) nothing))
            (refused_is n side rec st.store x m o p)
            ∙ rw p
    told_is (take x m o a) q h = taken x m o a
    told_is (feed b m c e a) q h =
        let rows = feed_rows (gate n side rec (length st.store) PIECE) rec.waiting (block_size b) c e a in
        let asks = made_of n side rec st.store (take (samples_of b) m ROOM a) in
        let t = whole.take n side rec st.store (samples_of b) m ROOM a in
        let col : List Ask → List Float = λ xs. column k n s st (map (on side) xs) in
        by-gates.along (λ (o : Effect Answer). numbers_in (get_or o.written (which (feed b m c e a)) nothing))
        (λ r. refusal (record { reply = Refused r; rec = rec }) st.store) (fed_by (side_of side) rec.frame t)
        (λ _. []) (col asks) rows (λ _. refl)
        (λ _. feeds b m c e a q (side_of side) rec.frame t.written ∙ taken (samples_of b) m ROOM a)
        ∙ sym (by-gates.along col (λ _. []) asks (λ _. []) (col asks) rows (λ _. refl) (λ _. refl))

  received_is : (calls : List (On Call)) (st : State) → All P (own s calls)
      → AllHands (done desks n s st (expand surface made_of n st calls))
      → in_buffer surface which n s st calls ≡ column k n s st (expand surface made_of n st calls)
  unfolding in_buffer expand own
  received_is [] st q h = refl
  received_is (c ∷ calls) st q h =
      let split = hands_split (done desks n s st made) (done desks n s (ended desks n st made) rest)
      (rw (done_more n s made rest st) at h) in
      let to = one_call n st c.side c.call in
      let holds = split_own P (eqb c.side s) c.call (own s calls) q in
      let ih = received_is calls (after surface n st c) holds.0
      (subst (λ (t : State). AllHands (done desks n s t rest)) (sym to) split.1) in
      ap₂ (λ (u v : List Float). u ++ v) (go (eqb c.side s) refl holds.1 split.0)
      (ih ∙ ap (λ (t : State). column k n s t rest) to)
      ∙ sym (column_more k n s made rest st)
    where
      made : List (On Ask)
      made = map (on c.side) (made_of n c.side (record_at c.side st) st.store c.call)

      rest : List (On Ask)
      rest = expand surface made_of n (after surface n st c) calls

      go : (t : Bool) → eqb c.side s ≡ t → (t ≡ true → P c.call) → AllHands (done desks n s st made)
          → cond t
          (numbers_in (get_or (surface n c.side (st.numbers c.side) st.store c.call).written
          (which c.call) nothing)) [] ≡ column k n s st made
      go true t q h = told_is c.side t st c.call (q refl) h
      go false t q h =
          sym (none_out n s c.side k t (made_of n c.side (record_at c.side st) st.store c.call) st)

-- a side that makes no whole calls receives what its calls of the desk write
module _ (k n s : ℕ) where
  own_asks : (calls : List (On Call)) (st : State) (mine : List Ask) → own s calls ≡ map ask mine
      → in_buffer surface (λ _. k) n s st calls ≡ column k n s st (expand surface made_of n st calls)
  unfolding in_buffer expand own hosted
  own_asks [] st mine e = refl
  own_asks (c ∷ calls) st mine e =
      let to = one_call n st c.side c.call in
      let here = go (eqb c.side s) refl mine e in
      ap₂ (λ (u v : List Float). u ++ v) here.1
      (own_asks calls (after surface n st c) here.0.0 here.0.1 ∙ ap (λ (t : State). column k n s t rest) to)
      ∙ sym (column_more k n s made rest st)
    where
      made : List (On Ask)
      made = map (on c.side) (made_of n c.side (record_at c.side st) st.store c.call)

      rest : List (On Ask)
      rest = expand surface made_of n (after surface n st c) calls

      go : (t : Bool) → eqb c.side s ≡ t → (mine : List Ask)
          → cond t (c.call ∷ own s calls) (own s calls) ≡ map ask mine
          → ((more : List Ask) × (own s calls ≡ map ask more))
          × (cond t
          (numbers_in (get_or (surface n c.side (st.numbers c.side) st.store c.call).written k nothing)) []
          ≡ column k n s st made)
      go true t [] e = let none : suc (length (own s calls)) ≡ 0 = ap length e in absurd (omega arith)
      go true t (a ∷ more) e =
          let same : c.call ≡ ask a = ap (λ (xs : List Call). get_or xs 0 c.call) e in (
            (more, ap (drop 1) e),
            subst
                (λ (r : Call).
                numbers_in (get_or (surface n c.side (st.numbers c.side) st.store r).written k nothing)
                ≡ column k n s st (map (on c.side) (made_of n c.side (record_at c.side st) st.store r)))
                (sym same) (sym (one_out n s c.side k t a st)),
          )
      go false t mine e = (
        (mine, e),
        sym (none_out n s c.side k t (made_of n c.side (record_at c.side st) st.store c.call) st),
      )

pub sums_are : (n s : ℕ) (calls : List (On Call)) (st : State) (mine : List Ask) → own s calls ≡ map ask mine
    → in_buffer surface (λ _. 1) n s st calls ≡ column 1 n s st (expand surface made_of n st calls)
sums_are n s = own_asks 1 n s

pub outputs_are : (n s : ℕ) (calls : List (On Call)) (st : State) → All NoFeed (own s calls)
    → AllHands (done desks n s st (expand surface made_of n st calls))
    → in_buffer surface (λ _. 0) n s st calls ≡ column 0 n s st (expand surface made_of n st calls)
outputs_are n s =
    received_is NoFeed (λ _. 0) 0 (λ a. refl) n s (λ side mine st x m o a p. take_outputs n s side mine st x m o a p)
    (λ b m c e a no number ws. absurd no)

any_call : (cs : List Call) → All (λ _. Unit) cs
any_call [] = tt
any_call (c ∷ cs) = (tt, any_call cs)

pub answers_are : (n s : ℕ) (calls : List (On Call)) (st : State)
    → AllHands (done desks n s st (expand surface made_of n st calls))
    → in_buffer surface answers_at n s st calls ≡ column 2 n s st (expand surface made_of n st calls)
answers_are n s calls st =
    received_is (λ _. Unit) answers_at 2 (λ a. refl) n s
    (λ side mine st x m o a p. take_answers n s side mine st x m o a p)
    (λ b m c e a _ side number ws. fed_answers side number ws) calls st (any_call (own s calls))
