-- Cutting, with others in between.
--     lone-run     in any run of the desk's calls, what a side's calls that are done come to on a desk of one bench
--     resumed      the resumes of a piece, to its end, are the dictation of its rest
--     rows         a row of pieces
--     between      what specs/Between.antt claims
-- Assumes nothing.
use Rattle.std.specs.Prelude.{◌+◌, ◌-◌, ◌*◌, ◌/◌, ◌≤◌, ◌<◌, ◌&&◌, ◌∷◌, ◌++◌, ◌≡◌}
use Rattle.rules.proofs.Common.{ℕ, Bool, true, false, cond, List, []}
use Rattle.rules.proofs.Common.{map, refl, sym, ap, ap₂}
use Rattle.rules.proofs.Common.{◌∙◌, eqb, leb, length, get_or, drop, length-drop, Float}
use native.Mathlib.Omega.{arith}
use mathlib.Core.List.{append_assoc}
use borrow.Author.Tests.{eqb-true, eqb-false, not-false}
use lib.ListN.{length-map}
use lib.Seq.{drop-drop, drop-append-add}
use Rattle.rules.specs.Place.{get, put}
use Rattle.frame.specs.Written.{Written, from, nothing, numbers_in, first_in}
use Rattle.rules.proofs.Places.{length_get, get_whole, put_whole}
use Rattle.rules.proofs.Tests.{both}
use Rattle.desk.specs.Answer.{Answer}
use Rattle.frame.specs.Effect.{Effect}
use Rattle.frame.specs.Reply.{Reply, Done, passed}
use Rattle.frame.specs.Share.{SHARE}
use Rattle.pieces.specs.Pieces.{waiting_in, waits}
use Rattle.pieces.proofs.Shares.{waiting_length, waits_length}
use Rattle.desk.specs.declared.Record.{Record}
use Rattle.desk.specs.Gate.{PIECE, share_of, gate, is_due, in_range, in_pieces, under_way}
use Rattle.desk.specs.Desk.{Ask, piece, resume, desk}
use Rattle.desk.specs.Surface.{heard_of, besides, hosted}
use Rattle.desk.proofs.Apart.{placed, its_own, own_share, other_share, same_length}
use Rattle.desk.proofs.Ranged.{open_range}
use Rattle.desk.proofs.Kept.{refused_keeps}
use Rattle.desk.proofs.Turned.{none}
use Rattle.dictation.specs.Dictation.{Lent, Told, Dictated, dictate, dictated_on}
use Rattle.dictation.proofs.Joins.{first, second, share_after, rec_after, dictate_more, dictate_none, after_length}
use Rattle.dictation.proofs.Joins.{share_size, washed, then, again, rejoin}
use Rattle.dictation.proofs.Taken.{onward, ends, pauses, piece_passed}
use Rattle.dictation.proofs.Follows.{place, following, follows}
use Rattle.dictation.proofs.Cuts.{short, long}
use Rattle.whole.specs.Whole.{answers_of}
use Rattle.whole.proofs.Dictations.{answers_both}
use Rattle.isolation.specs.Run.{On, State, record_at, given, gets, after, ended, done, desks, expand}
use Rattle.isolation.proofs.Runs.{record_after, store_after}
use Rattle.surface.specs.Surface.{ask, surface, made_of}
use Rattle.surface.specs.Between.{as_given, resumes, InARow, last_piece, more_pieces, in_buffer, sums_told, Between}
use Rattle.surface.proofs.Expanded.{expands}
use Rattle.surface.proofs.Numbers.{zero_is_done}
use Rattle.surface.proofs.Outputs.{column, wrote, first_written, piece_none, piece_unheard, resume_heard}
use Rattle.surface.proofs.Outputs.{row_hands, outputs_are, answers_are, sums_are}
use Rattle.surface.proofs.Refusing.{refused_leaves}

-- ---- calls on a desk of one bench, all of them done

record Left : Type 0 where
  rec : Record
  share : List Float

left : Record → List Float → List Ask → Left
left b xs [] = record { rec = b; share = xs }
left b xs (a ∷ more) = let o = desk 1 0 b xs a in left o.answer.rec o.kept more

AllDone : Record → List Float → List Ask → Type 0
AllDone b xs [] = Unit
AllDone b xs (a ∷ more) = let o = desk 1 0 b xs a in
    (passed o.answer.reply ≡ true) × AllDone o.answer.rec o.kept more

-- what they write to buffer k
written : ℕ → Record → List Float → List Ask → List Float
written k b xs [] = []
written k b xs (a ∷ more) = let o = desk 1 0 b xs a in wrote k a o ++ written k o.answer.rec o.kept more

-- a row of calls and then another
record Splits (first rest : List Ask) (b : Record) (xs : List Float) : Type 0 where
  before : AllDone b xs first
  behind : let l = left b xs first in AllDone l.rec l.share rest
  leads : let l = left b xs first in left b xs (first ++ rest) ≡ left l.rec l.share rest
  writes : (k : ℕ) → let l = left b xs first in
      written k b xs (first ++ rest) ≡ written k b xs first ++ written k l.rec l.share rest

split : (first rest : List Ask) (b : Record) (xs : List Float) → AllDone b xs (first ++ rest) → Splits first rest b xs
unfolding left AllDone written
split [] rest b xs all = record { before = tt; behind = all; leads = refl; writes = λ k. refl }
split (a ∷ first) rest b xs all =
    let o = desk 1 0 b xs a in
    let l = left o.answer.rec o.kept first in
    let s = split first rest o.answer.rec o.kept all.1 in
    record {
      before = (all.0, s.before);
      behind = s.behind;
      leads = s.leads;
      writes =
          λ k. ap (λ (x : List Float). wrote k a o ++ x) (s.writes k)
          ∙ sym (append_assoc (wrote k a o) (written k o.answer.rec o.kept first)
          (written k l.rec l.share rest));
    }

-- ---- any run, for one side

-- a run that ends so, and whose numbers these are, is a row of calls on a desk of one bench
record Comes (s : ℕ) (b : Record) (xs : List Float) (asks : List Ask) (last : State)
    (numbers : ℕ → List Float) : Type 0 where
  all : AllDone b xs asks
  rec : record_at s last ≡ (left b xs asks).rec
  share : get (share_of s) last.store ≡ (left b xs asks).share
  writes : (k : ℕ) → numbers k ≡ written k b xs asks

module _ (n s : ℕ) (h : s < n) where
  lone_run : (cs : List (On Ask)) (st : State) (b : Record) (xs : List Float) → length st.store ≡ n * SHARE
      → record_at s st ≡ b → get (share_of s) st.store ≡ xs
      → Comes s b xs (done desks n s st cs) (ended desks n st cs) (λ k. column k n s st cs)
  unfolding done in_buffer ended hosted left AllDone written
  lone_run [] st b xs l e f = record { all = tt; rec = e; share = f; writes = λ k. refl }
  lone_run (c ∷ cs) st b xs l e f =
      go (eqb c.side s) refl (eqb (gets desks n st c).number 0) refl
      (λ b' xs' e' f'. lone_run cs (after desks n st c) b' xs' sized e' f')
    where
      next : State
      next = after desks n st c

      was : Effect Answer
      was = desk n c.side (record_at c.side st) st.store c.call

      sized : length next.store ≡ n * SHARE
      sized = rw (store_after n st c) (same_length n c.side (record_at c.side st) st.store c.call l ∙ l)

      o : Effect Answer
      o = desk 1 0 b xs c.call

      here : c.side ≡ s → was ≡ placed s st.store o
      here same = rw (same, its_own n s (record_at s st) st.store c.call l h, e, f)

      back : c.side ≡ s → get (share_of s) next.store ≡ o.kept
      back same = rw (store_after n st c, same, own_share n s (record_at s st) st.store c.call l h, e, f)

      -- it passed where 0 is returned
      is_done : passed was.answer.reply ≡ eqb (gets desks n st c).number 0
      is_done = (zero_is_done n c.side (st.numbers c.side) st.store (ask c.call)).0

      told : (k : ℕ) → numbers_in (get_or (given desks n st c).written k nothing) ≡ wrote k c.call was
      told k = refl

      noted : (t : Bool) → eqb c.side s ≡ t → record_at s next ≡ cond t was.answer.rec (record_at s st)
      noted t q = record_after n s st c ∙ ap (λ (u : Bool). cond u was.answer.rec (record_at s st)) q

      go : (t : Bool) → eqb c.side s ≡ t → (u : Bool) → eqb (gets desks n st c).number 0 ≡ u
          → ((b' : Record) (xs' : List Float) → record_at s next ≡ b' → get (share_of s) next.store ≡ xs'
          → Comes s b' xs' (done desks n s next cs) (ended desks n next cs) (λ k. column k n s next cs))
          → Comes s b xs (cond (t && u) (c.call ∷ done desks n s next cs) (done desks n s next cs))
          (ended desks n next cs)
          (λ k. cond t (numbers_in (get_or (given desks n st c).written k nothing)) [] ++ column k n s next cs)
      go true t true p ih =
          let k = here (eqb-true c.side s t) in
          let r = ih o.answer.rec o.kept (noted true t ∙ ap (λ (g : Effect Answer). g.answer.rec) k)
          (back (eqb-true c.side s t)) in
          record {
            all = (ap (λ (g : Effect Answer). passed g.answer.reply) (sym k) ∙ is_done ∙ p, r.all);
            rec = r.rec;
            share = r.share;
            writes = λ i. ap₂ (λ (x y : List Float). x ++ y) (told i ∙ ap (wrote i c.call) k) (r.writes i);
          }
      go true t false p ih =
          let k = refused_keeps n c.side (record_at c.side st) st.store c.call (is_done ∙ p) in
          let same : record_at c.side st ≡ b = ap (λ (i : ℕ). record_at i st) (eqb-true c.side s t) ∙ e in
          let r = ih b xs (noted true t ∙ k.0 ∙ same) (ap (get (share_of s)) (store_after n st c ∙ k.1) ∙ f) in
          let none = unwritten (is_done ∙ p) in
          record {
            all = r.all;
            rec = r.rec;
            share = r.share;
            writes =
                λ i. ap (λ (ws : List Written). numbers_in (get_or ws i nothing) ++ column i n s next cs) none
                ∙ r.writes i;
          }
        where
          unwritten : passed was.answer.reply ≡ false → (given desks n st c).written ≡ []
          unwritten q = (refused_leaves n c.side (st.numbers c.side) st.store (ask c.call) q).2
      go false t u p ih =
          ih b xs (noted false t ∙ e)
          (ap (get (share_of s)) (store_after n st c)
          ∙ other_share n c.side (record_at c.side st) st.store c.call l s (eqb-false c.side s t) ∙ f)

-- ---- the resumes of a piece

module _ (store : List Float) (size : length store ≡ 1 * SHARE) (samples : List Float) (some : 1 ≤ length samples)
    (room : ℕ) where
  -- a row of calls is this dictation, with its share in a store; the sums of its first frame stand in what was given
  -- before, with what is told besides
  record Dictates (o : Effect Answer) (us : List Written) (gs : List (List Float × List ℕ)) (rest : List Float)
      (d : Dictated) : Type 0 where
    rec : (left o.answer.rec o.kept (resumes samples room gs)).rec ≡ d.rec
    share : (left o.answer.rec o.kept (resumes samples room gs)).share ≡ put (share_of 0) store d.kept
    out : written 0 o.answer.rec o.kept (resumes samples room gs) ≡ d.out
    sums : numbers_in (get_or (o.written ++ us) 1 nothing)
        ++ written 1 o.answer.rec o.kept (resumes samples room gs) ≡ sums_told d.told
    heard : written 2 o.answer.rec o.kept (resumes samples room gs) ≡ answers_of d.told
    count : length gs ≡ length rest / 480

  resumed : (gs : List (List Float × List ℕ)) (o : Effect Answer) (us : List Written) (rec : Record) (reply : Reply)
      (share rest : List Float) (progress k : ℕ) (ys : List Float)
      → o ≡ onward 0 store rec reply share rest (length samples) progress (from k ys)
      → length share ≡ SHARE → drop progress samples ≡ drop 480 rest → 1 ≤ progress
      → AllDone o.answer.rec o.kept (resumes samples room gs)
      → (left o.answer.rec o.kept (resumes samples room gs)).rec.piece ≡ 0
      → Dictates o us gs rest (dictate rec share rest (map as_given gs))
  unfolding left AllDone written
  resumed [] o us rec reply share rest progress k ys e full same begun all z =
      let w = from k ys in
      let little = short 1 0 store samples some o rec reply share rest progress w e z in
      let q = e ∙ ends 0 store rec reply share rest (length samples) progress w little in
      let none = dictate_none rec share rest in
      record {
        rec = ap (λ (g : Effect Answer). g.answer.rec) q ∙ sym (ap (λ (x : Dictated). x.rec) none);
        share =
            ap (λ (g : Effect Answer). g.kept) q ∙ sym (ap (λ (x : Dictated). put (share_of 0) store x.kept) none);
        out = sym (ap (λ (x : Dictated). x.out) none);
        sums =
            ap (λ (g : Effect Answer). numbers_in (get_or (g.written ++ us) 1 nothing) ++ []) q
            ∙ sym (ap (λ (x : Dictated). sums_told x.told) none);
        heard = sym (ap (λ (x : Dictated). answers_of x.told) none);
        count = omega arith;
      }
  resumed (g ∷ more) o us rec reply share rest progress k ys e full same begun all z =
      let w = from k ys in
      let l = as_given g in
      let enough = long 1 0 store samples some o rec reply share rest progress w e g.0 g.1 room all.0 in
      let q = e ∙ pauses 0 store rec reply share rest (length samples) progress w enough in
      let a = resume samples g.0 g.1 room 22 in
      let there = desk 1 0 o.answer.rec o.kept a in
      let here : there ≡ following 1 0 (omega arith) store size samples rec share rest l progress room full same =
      ap (λ (x : Effect Answer). desk 1 0 x.answer.rec x.kept a) q in
      let f = follows 1 0 (omega arith) store size samples rec share rest l progress room full same
      (ap (λ (x : Effect Answer). passed x.answer.reply) (sym here) ∙ all.0) in
      let y = second rec share rest l in
      let rec' = rec_after rec share rest l in
      let share' = share_after rec share rest l in
      let nx = here ∙ f.1 in
      let samples_out : wrote 0 a there ≡ first_in y.written =
      ap (wrote 0 a) nx
      ∙ first_written 0 store rec' y.answer share' (drop 480 rest) (length samples) (progress + 480) (place progress)
      (first_in y.written) (besides a y.answer) in
      let answered : wrote 2 a there ≡ heard_of y.answer =
      resume_heard 1 0 o.answer.rec o.kept samples room g.0 g.1 all.0
      ∙ ap (λ (x : Effect Answer). heard_of x.answer.reply) nx in
      let ih =
      resumed more there (besides a there.answer.reply) rec' y.answer share' (drop 480 rest) (progress + 480)
      (place progress) (first_in y.written) nx
      (after_length rec share rest l full) (sym (drop-drop 480 progress samples) ∙ ap (drop 480) same) (omega arith)
      all.1 z in
      let d = dictate_more rec share rest l (map as_given more) in
      record {
        rec = ih.rec ∙ sym (ap (λ (x : Dictated). x.rec) d);
        share = ih.share ∙ sym (ap (λ (x : Dictated). put (share_of 0) store x.kept) d);
        out = ap₂ (λ (x y : List Float). x ++ y) samples_out ih.out ∙ sym (ap (λ (x : Dictated). x.out) d);
        sums =
            ap₂ (λ (x y : List Float). x ++ y)
            (ap (λ (x : Effect Answer). numbers_in (get_or (x.written ++ us) 1 nothing)) q) ih.sums
            ∙ sym (ap (λ (x : Dictated). sums_told x.told) d);
        heard =
            ap₂ (λ (x y : List Float). x ++ y) answered ih.heard
            ∙ sym (ap (λ (x : Dictated). answers_of x.told) d);
        count = omega (arith, ih.count, length-drop 480 rest, enough);
      }

-- ---- a row of pieces

-- where a piece is due, none is unfinished
at_rest : (n side : ℕ) (rec : Record) (len : ℕ) → gate n side rec len PIECE ≡ 0 → rec.piece ≡ 0
unfolding is_due in_pieces under_way
at_rest n side rec len e = go (eqb rec.piece 0) refl
  where
    go : (t : Bool) → eqb rec.piece 0 ≡ t → rec.piece ≡ 0
    go true f = eqb-true rec.piece 0 f
    go false f =
        let c = none n side rec len PIECE e in
        let due = eqb-true rec.due 1 (not-false _ c.1.1.1.1.0) in
        let way =
        rw f at (open_range rec (eqb-false rec.due 0 c.1.1.1.0) (not-false (in_range rec) c.1.1.0)).2 in
        let third = both (eqb rec.due 3) _ (both (leb rec.piece 4096) _ way).1 in
        absurd (omega (arith, due, eqb-true rec.due 3 third.0))

record Is (b : Record) (xs : List Float) (asks : List Ask) (d : Dictated) : Type 0 where
  rec : (left b xs asks).rec ≡ d.rec
  share : (left b xs asks).share ≡ d.kept
  out : written 0 b xs asks ≡ d.out
  sums : written 1 b xs asks ≡ sums_told d.told
  heard : written 2 b xs asks ≡ answers_of d.told

-- one piece, resumed to its end
module _ (x : List Float) (room : ℕ) (gs : List (List Float × List ℕ)) (b : Record) (xs : List Float)
    (full : length xs ≡ SHARE) where
  one_piece : AllDone b xs (piece x room 22 ∷ resumes x room gs)
      → (left b xs (piece x room 22 ∷ resumes x room gs)).rec.piece ≡ 0
      → let all = waiting_in b.waiting xs ++ x in
      Is b xs (piece x room 22 ∷ resumes x room gs) (dictate b xs all (map as_given gs))
      × (length gs ≡ length all / 480)
  unfolding left AllDone written
  one_piece all z =
      let o = desk 1 0 b xs (piece x room 22) in
      let t = piece_passed 1 0 b xs x room 22 all.0 in
      let its : get (share_of 0) xs ≡ xs = get_whole xs SHARE full in
      let k = t.1 in
      let share = get (share_of 0) xs in
      let ws = waiting_in b.waiting share in
      let waited = waiting_length share k.size b.waiting k.waits in
      let sum : b.waiting + (480 - b.waiting) ≡ 480 = omega (arith, k.waits) in
      let same : drop (480 - b.waiting) x ≡ drop 480 (ws ++ x) =
      sym (rw (waited, sum) at (drop-append-add ws x (480 - b.waiting))) in
      let r =
      resumed xs (omega (arith, full)) x k.some room gs o [] b Done (waits share []) (ws ++ x)
      (480 - b.waiting) 0 []
      t.2 (waits_length share k.size []) same (omega (arith, k.waits)) all.1 z in
      let clean =
      washed b share [] (ws ++ x) (map as_given gs) k.size
      ∙ ap (λ (t : List Float). dictated_on b t x (map as_given gs)) its in
      let behind : ℕ → List Float = λ i. written i o.answer.rec o.kept (resumes x room gs) in (
        record {
          rec = r.rec ∙ ap (λ (d : Dictated). d.rec) clean;
          share = r.share ∙ put_whole xs SHARE full _ ∙ ap (λ (d : Dictated). d.kept) clean;
          out =
              ap (λ (u : List Float). u ++ behind 0) (piece_none 1 0 b xs x room all.0) ∙ r.out
              ∙ ap (λ (d : Dictated). d.out) clean;
          sums = r.sums ∙ ap (λ (d : Dictated). sums_told d.told) clean;
          heard =
              ap (λ (u : List Float). u ++ behind 2) (piece_unheard 1 0 b xs x room all.0) ∙ r.heard
              ∙ ap (λ (d : Dictated). answers_of d.told) clean;
        },
        r.count ∙ ap (λ (t : List Float). length (waiting_in b.waiting t ++ x) / 480) its,
      )

-- a row begins with a piece
begins : {asks : List Ask} {ys : List Float} {ms : List Lent} → InARow asks ys ms → (b : Record) (xs : List Float)
    → AllDone b xs asks → b.piece ≡ 0
unfolding AllDone
begins (last_piece x o gs) b xs all = at_rest 1 0 b (length xs) (piece_passed 1 0 b xs x o 22 all.0).0
begins (more_pieces x o gs r) b xs all = at_rest 1 0 b (length xs) (piece_passed 1 0 b xs x o 22 all.0).0

-- what is told of frames, and of others behind them
sums_both : (fs gs : List Told) → sums_told (fs ++ gs) ≡ sums_told fs ++ sums_told gs
sums_both [] gs = refl
sums_both (f ∷ fs) gs =
    ap (λ (x : List Float). f.0 ++ x) (sums_both fs gs) ∙ sym (append_assoc f.0 (sums_told fs) (sums_told gs))

rows : {asks : List Ask} {ys : List Float} {ms : List Lent} → InARow asks ys ms → (b : Record) (xs : List Float)
    → length xs ≡ SHARE → AllDone b xs asks
    → (left b xs asks).rec.piece ≡ 0 → Is b xs asks (dictated_on b xs ys ms)
rows (last_piece x room gs) b xs full all z = (one_piece x room gs b xs full all z).0
rows (more_pieces x room gs {asks} {ys} {ms} r) b xs full all z =
    let s = split (piece x room 22 ∷ resumes x room gs) asks b xs all in
    let l = left b xs (piece x room 22 ∷ resumes x room gs) in
    let ls = map as_given gs in
    let p = one_piece x room gs b xs full s.before (begins r l.rec l.share s.behind) in
    let k = p.0 in
    let these = waiting_in b.waiting xs ++ x in
    let many = length-map gs as_given in
    let d = dictate b xs these ls in
    let more = again d ys ms in
    let ih =
    rows r l.rec l.share (ap length k.share ∙ share_size b xs these ls full) s.behind
    (ap (λ (q : Left). q.rec.piece) (sym s.leads) ∙ z) in
    let on : dictated_on l.rec l.share ys ms ≡ more = rw (k.rec, k.share) in
    let joined : then d more ≡ dictated_on b xs (x ++ ys) (ls ++ ms) =
    sym (rejoin b xs these ys ls ms full (omega (arith, many, p.1)) (omega (arith, many, p.1)))
    ∙ ap (λ (t : List Float). dictate b xs t (ls ++ ms)) (append_assoc (waiting_in b.waiting xs) x ys) in
    record {
      rec =
          ap (λ (q : Left). q.rec) s.leads ∙ ih.rec ∙ ap (λ (e : Dictated). e.rec) on
          ∙ ap (λ (e : Dictated). e.rec) joined;
      share =
          ap (λ (q : Left). q.share) s.leads ∙ ih.share ∙ ap (λ (e : Dictated). e.kept) on
          ∙ ap (λ (e : Dictated). e.kept) joined;
      out =
          s.writes 0 ∙ ap₂ (λ (u v : List Float). u ++ v) k.out (ih.out ∙ ap (λ (e : Dictated). e.out) on)
          ∙ ap (λ (e : Dictated). e.out) joined;
      sums =
          s.writes 1 ∙ ap₂ (λ (u v : List Float). u ++ v) k.sums
          (ih.sums ∙ ap (λ (e : Dictated). sums_told e.told) on)
          ∙ sym (sums_both d.told more.told) ∙ ap (λ (e : Dictated). sums_told e.told) joined;
      heard =
          s.writes 2 ∙ ap₂ (λ (u v : List Float). u ++ v) k.heard
          (ih.heard ∙ ap (λ (e : Dictated). answers_of e.told) on)
          ∙ sym (answers_both d.told more.told) ∙ ap (λ (e : Dictated). answers_of e.told) joined;
    }

pub between : (n : ℕ) → Between n
between n s h st l calls samples lent r z =
    let asks = expand surface made_of n st calls in
    let b = record_at s st in
    let share = get (share_of s) st.store in
    let x = expands n st calls in
    let c = lone_run n s h asks st b share l refl refl in
    let rest : (left b share (done desks n s st asks)).rec.piece ≡ 0 =
    ap (λ (t : Record). t.piece) (sym c.rec) ∙ ap (λ (t : State). (record_at s t).piece) (sym x) ∙ z in
    let d = rows r b share (length_get (share_of s) st.store (omega arith)) c.all rest in (
      ap (record_at s) x ∙ c.rec ∙ d.rec,
      ap (λ (t : State). get (share_of s) t.store) x ∙ c.share ∙ d.share,
      λ unfed. outputs_are n s calls st unfed (row_hands r) ∙ c.writes 0 ∙ d.out,
      answers_are n s calls st (row_hands r) ∙ c.writes 2 ∙ d.heard,
      c.writes 1 ∙ d.sums,
      λ mine e. sums_are n s calls st mine e ∙ c.writes 1 ∙ d.sums,
    )
