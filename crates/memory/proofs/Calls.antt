-- What one call makes of what a bench keeps, over a desk of one bench.
--     one_kept .. four-kept, first-kept    the calls of a frame and a first half, on a frame's part of a share
--     part-kept    all that is kept stands in that part
--     by-gate      a call is refused by the gate, or it is let through
--     either       a call opens the bench, or it makes of what is kept what the calls of a frame do that it is made of
--     opens        an opening that is done does the one
--     remembers    every other call, and an opening that is refused, the other
-- Assumes nothing.
use Rattle.std.specs.Prelude.{◌+◌, ◌-◌, ◌*◌, ◌≤◌, ◌∷◌, ◌++◌, ◌≡◌}
use Rattle.rules.proofs.Common.{ℕ, Bool, true, false, cond, false≢true, List, []}
use Rattle.rules.proofs.Common.{refl, sym, ap, ap₂, subst, ◌∙◌}
use Rattle.rules.proofs.Common.{eqb, ltb, length, take, drop, replicate, length-take, pos, Float, binary32, of_int}
use native.Mathlib.Nat.{zero-add}
use native.Mathlib.Omega.{arith}
use mathlib.Core.Logic.{◌⊎◌, inl, inr, ⊎_elim}
use borrow.Author.Tests.{ltb-false}
use Rattle.rules.specs.F32.{at, f32}
use Rattle.rules.specs.Place.{Place, get, put}
use Rattle.frame.specs.Written.{Written, from, nothing, first_in}
use Rattle.rules.proofs.Places.{length_put, get_get, get_put, get_put_apart}
use Rattle.rules.proofs.Lists.{length_tab}
use Rattle.bands.proofs.Results.{length_corr}
use Rattle.model.specs.Model.{read_of}
use Rattle.model.specs.declared.Model.{Model}
use Rattle.model.specs.Reading.{Reading, Good, Refused as Unread}
use Rattle.samples.specs.Samples.{good}
use Rattle.desk.specs.Answer.{Answer}
use Rattle.frame.specs.Effect.{Effect, refusal}
use Rattle.frame.specs.Reply.{passed, is_heard, one_more, Reply, Done, Silent, Heard, Refused}
use Rattle.lag.specs.Lag.{own_lag}
use Rattle.frame.specs.Share.{SHARE, PART, input_mem, kept_x, kept_ex, kept_lag, lastg, cepstral_mem, vad_state}
use Rattle.frame.specs.Share.{noise_state}
use Rattle.frame.specs.Share.{denoise_state}
use Rattle.frame.specs.Heard.{scaled, energies, spoken}
use Rattle.frame.specs.Frame.{done1, put_kept, done4}
use Rattle.frame.specs.declared.Way.{Way}
use Rattle.frame.proofs.Keeps.{Keeps, end, call1_keeps, call2_keeps, call3_keeps, call4_keeps}
use Rattle.frame.proofs.Beside.{Beside, AllApart, done1_beside, done2_beside, done3_beside, done4_beside}
use Rattle.frame.proofs.Cases.{call1_by, call2_by, call3_by, call4_by}
use Rattle.halves.specs.Ways.{lag_by, remembered, forward_by, inverse_by}
use Rattle.halves.specs.Halves.{looked_back}
use Rattle.halves.specs.Halves as halves
use Rattle.halves.proofs.Sister.{call2_own_by, call2_own_keeps}
use Rattle.halves.proofs.Cases.{done_first, whole_after_1, first_half_by, second_half_by}
use Rattle.halves.proofs.Kept.{done_first_beside, first_half_keeps, second_half_keeps}
use Rattle.halves.proofs.EitherWay.{whole_remembered}
use Rattle.pieces.specs.Pieces.{frame_part, waiting_in, waits, frame_at, in_part, at_end, paused, further}
use Rattle.pieces.specs.Pieces as pieces
use Rattle.pieces.proofs.Cases.{piece_by, resume_by}
use Rattle.pieces.proofs.Goods.{good_append, good_take, good_drop}
use Rattle.pieces.proofs.Halved.{first_passes, second_passes}
use Rattle.pieces.proofs.Kept.{further_reply, piece_kept, resume_kept}
use Rattle.pieces.proofs.Shares.{part_length, waits_length, frame_waits, frame_length, frame_back}
use Rattle.desk.specs.declared.Record.{Record}
use Rattle.desk.specs.Gate.{gate}
use Rattle.desk.specs.Desk.{Ask, opening, call1, call2, call2_own, call3, call4, first_half, second_half, piece, resume}
use Rattle.desk.specs.Desk.{call_of, advanced, numbered, carried, reply_to, answered, opened, on_share, desk}
use Rattle.desk.proofs.Answered.{refused}
use Rattle.desk.proofs.Apart.{given_of, one_bench}
use Rattle.desk.proofs.Zeros.{get_replicate}
use Rattle.desk.proofs.Leaves.{carried_leaves}
use Rattle.memory.specs.Hear.{Recalled, blank, next_place, hear}
use Rattle.memory.specs.Calls.{FrameCall, two, first_calls, rest_calls, calls_done}
use Rattle.memory.specs.Brought.{recalled_in, Noted, unnoted, noting, heard_frame, brought}
use Rattle.memory.proofs.Kept.{Kept, kept_of, noted_in, kept_in, keeping, kept}
use Rattle.memory.proofs.Heard.{heard_frame_lem}

-- ---- what is left alone

same_recalled : (index : ℕ) (xs ys : List Float)
    → ((q : Place) → 3194 ≤ q.at → q.at + q.size ≤ 3776 → get q ys ≡ get q xs)
    → recalled_in index ys ≡ recalled_in index xs
same_recalled index xs ys same =
    cc (
      same lastg (omega arith) (omega arith),
      same cepstral_mem (omega arith) (omega arith),
      same vad_state (omega arith) (omega arith),
      same noise_state (omega arith) (omega arith),
      same denoise_state (omega arith) (omega arith),
    )

same_noted : (xs ys : List Float) → ((q : Place) → 2208 ≤ q.at → q.at + q.size ≤ 3192 → get q ys ≡ get q xs)
    → noted_in ys ≡ noted_in xs
same_noted xs ys same =
    cc (
      same kept_x (omega arith) (omega arith),
      same kept_ex (omega arith) (omega arith),
      same kept_lag (omega arith) (omega arith),
    )

alike : {r r' : Recalled} {k k' : Noted} {f h : ℕ} → r ≡ r' → k ≡ k' → kept_of r k f h ≡ kept_of r' k' f h
alike {f = f} {h = h} p q = ap₂ (λ r k. kept_of r k f h) p q

-- call 2 notes what it brought
kept_noted : (share spectrum : List Float) (lag : ℕ) → length share ≡ PART
    → noted_in (put_kept share spectrum lag) ≡ noting spectrum lag
unfolding put_kept energies scaled
kept_noted share spectrum lag whole =
    let x = scaled spectrum in
    let ex = energies spectrum in
    let with-x = put kept_x share x in
    let with-ex = put kept_ex with-x ex in
    let lx : length x ≡ 961 = length_tab 961 _ in
    let lex : length ex ≡ 22 = length_corr x x in
    let wx : length with-x ≡ PART = length_put kept_x share x (omega arith) lx ∙ whole in
    let wex : length with-ex ≡ PART = length_put kept_ex with-x ex (omega arith) lex ∙ wx in
    let before : (q : Place) → q.at + q.size ≤ 3191 → get q (put_kept share spectrum lag) ≡ get q with-ex
    = λ q h. get_put_apart kept_lag q with-ex (of_int binary32 (pos lag) ∷ []) (omega arith) refl (inr h) in
    let first = before kept_x (omega arith) ∙ get_put_apart kept_ex kept_x with-x ex (omega arith) lex
    (inr (omega arith))
    ∙ get_put kept_x share x (omega arith) lx in
    let second = before kept_ex (omega arith) ∙ get_put kept_ex with-x ex (omega arith) lex in
    let third = ap (λ (xs : List Float). at xs 0)
    (get_put kept_lag with-ex (of_int binary32 (pos lag) ∷ []) (omega arith) refl) in
    cc (first, second, third)

-- ---- the calls of a frame on its part of a share, whatever the record's numbers

module _ (b : Record) (part : List Float) (whole : length part ≡ PART) where
  one_kept : (x : List Float) → length x ≡ 480 → kept_in b (done1 part x).kept ≡ kept_in b part
  one_kept x l =
      alike
      (same_recalled b.hearing.index part
      _ (λ q h k. (done1_beside q part x (inl (omega arith), (inl (omega arith), tt)) whole l).same))
      (same_noted part _ (λ q h k. (done1_beside q part x (inl (omega arith), (inr (omega arith), tt)) whole l).same))

  two_kept : (x : List Float) (lag : ℕ) → kept_in b (put_kept part x lag) ≡ keeping (kept_in b part) (two x lag)
  two_kept x lag =
      alike
      (same_recalled b.hearing.index part
      _ (λ q h k.
      (done2_beside q part x lag (inl (omega arith), (inl (omega arith), (inl (omega arith), tt))) whole).same))
      (kept_noted part x lag whole)

  four_kept : (x : List Float) → kept_in b (done4 part x).kept ≡ kept_in b part
  four_kept x =
      alike
      (same_recalled b.hearing.index part _ (λ q h k. (done4_beside q part x (inl (omega arith), tt) whole).same))
      (same_noted part _ (λ q h k. (done4_beside q part x (inl (omega arith), tt) whole).same))

  first_kept : (way : Way) (x : List Float) → length x ≡ 480
      → kept_in b (done_first part way x).kept ≡ kept (kept_in b part) (first_calls way part x)
  unfolding kept
  first_kept way x l =
      let a = done1 part x in
      alike
      (same_recalled b.hearing.index part _
      (λ q h k. (done_first_beside q part way x (
        inl (omega arith),
        (inl (omega arith), (inl (omega arith), (inl (omega arith), (inl (omega arith), (inr (omega arith), tt))))),
      ) whole l).same))
      (kept_noted (remembered way a.kept) (forward_by way (first_in a.written)) (lag_by way a.kept)
      (whole_remembered a.kept way (whole_after_1 part x whole l)))

  module _ (p l : List Float) (m : List ℕ) (k : Model) (good : read_of m ≡ Good k) (inside : b.hearing.index ≤ 7) where
    abbrev said : List Float
    said = (spoken part b.hearing.index p l m k).share

    said_beside : (q : Place) → AllApart (lastg ∷ cepstral_mem ∷ vad_state ∷ noise_state ∷ denoise_state ∷ []) q
        → Beside q part said
    said_beside q apart = done3_beside q part b.hearing.index p l m k apart good whole inside

    said_whole : length said ≡ PART
    said_whole =
        (said_beside end (
          inl (omega arith),
          (inl (omega arith), (inl (omega arith), (inl (omega arith), (inl (omega arith), tt)))),
        )).size

    three_kept : (frame heard : ℕ)
        → kept_of (recalled_in (next_place b.hearing.index) said) (noted_in said) frame heard
        ≡ kept_of (hear (recalled_in b.hearing.index part) (heard_frame (noted_in part) p l m))
        (noted_in part) frame heard
    three_kept frame heard =
        alike (heard_frame_lem part b.hearing.index p l m k good whole inside)
        (same_noted part said (λ q h j. (said_beside q
        (inr (omega arith), (inr (omega arith), (inr (omega arith), (inr (omega arith), (inr (omega arith), tt)))))
        ).same))

-- ---- all of it stands in a frame's part of a share

module _ (share : List Float) (whole : length share ≡ SHARE) where
  read : (q : Place) → q.at + q.size ≤ PART → get q (get frame_part share) ≡ get q share
  read q h =
      get_get frame_part q share (omega arith) h
      ∙ ap (λ (n : ℕ). get (record { at = n; size = q.size }) share) (zero-add q.at)

  part_kept : (b : Record) → kept_in b (get frame_part share) ≡ kept_in b share
  part_kept b =
      alike (same_recalled b.hearing.index share _ (λ q h k. read q (omega arith)))
      (same_noted share _ (λ q h k. read q (omega arith)))

-- ---- one call on a share

-- what is kept is what the calls of a frame make of it; and they bring a frame where the reply is heard
pub record Remembers (b : Record) (share : List Float) (ask : Ask) (o : Effect Answer) : Type 0 where
  pub keeps : kept_in o.answer.rec o.kept ≡ kept (kept_in b share) (calls_done b share ask o.answer.reply)
  pub counts : (k : Noted)
      → length (brought k (calls_done b share ask o.answer.reply)) ≡ cond (is_heard o.answer.reply) 1 0

-- an opening that is done
pub record Opens (ask : Ask) (o : Effect Answer) : Type 0 where
  pub opens : call_of ask ≡ 0
  pub passes : passed o.answer.reply ≡ true
  pub forgets : kept_in o.answer.rec o.kept ≡ kept_of blank unnoted 0 0
  pub unheard : is_heard o.answer.reply ≡ false

wiped : (n : ℕ) → SHARE ≤ n
    → kept_of (recalled_in 0 (replicate n (f32 0))) (noted_in (replicate n (f32 0))) 0 0 ≡ kept_of blank unnoted 0 0
wiped n h =
    let at : (p : Place) → p.at + p.size ≤ SHARE → get p (replicate n (f32 0)) ≡ replicate p.size (f32 0) =
    λ p k. get_replicate p n (f32 0) (omega arith) in
    cc (
      at lastg (omega arith),
      at cepstral_mem (omega arith),
      at vad_state (omega arith),
      at noise_state (omega arith),
      at denoise_state (omega arith),
      at kept_x (omega arith),
      at kept_ex (omega arith),
      at kept_lag (omega arith),
    )

-- what holds of a whole share where it holds of the part that a call leaves
module _ (b : Record) (share : List Float) (whole : length share ≡ SHARE) where
  abbrev part : List Float
  part = get frame_part share

  abbrev calls : Ask → Reply → List FrameCall
  calls ask reply = calls_done b share ask reply

  record Leaves (ask : Ask) (reply : Reply) (after : List Float) : Type 0 where
    keeps : kept_in (answered b ask reply).rec after ≡ kept (kept_in b part) (calls ask (reply_to b ask reply))
    counts : (k : Noted) → length (brought k (calls ask (reply_to b ask reply)))
        ≡ cond (is_heard (reply_to b ask reply)) 1 0

  lift : (ask : Ask) (o : Effect Reply) → length o.kept ≡ SHARE → Leaves ask o.answer (get frame_part o.kept)
      → Remembers b share ask (given_of b ask o)
  lift ask o left r =
      record {
        keeps =
            sym (part_kept o.kept left (answered b ask o.answer).rec)
            ∙ r.keeps
            ∙ ap (λ (k : Kept). kept k (calls ask (reply_to b ask o.answer))) (part_kept share whole b);
        counts = r.counts;
      }

  -- a call of a frame
  abbrev LeavesOf : Ask → Effect Reply → Type 0
  LeavesOf ask f = Leaves ask f.answer f.kept

  in_part_lem : (ask : Ask) (f : Effect Reply) → Keeps part f → LeavesOf ask f
      → Remembers b share ask (given_of b ask (in_part share f))
  in_part_lem ask f k r =
      let l : length f.kept ≡ PART = k.size ∙ part_length share whole in
      lift ask (in_part share f) (frame_length share whole f.kept l)
      (subst (Leaves ask f.answer) (sym (frame_back share whole f.kept l)) r)

  -- a refusal leaves all alone
  unmoved : (ask : Ask) (n : ℕ) → Leaves ask (Refused n) part
  unfolding kept brought
  unmoved ask n = record { keeps = rw (refused b ask n) refl; counts = λ _. rw (refused b ask n) refl }

  second_half_leaves : (l : List Float) (m : List ℕ) (o : ℕ)
      → LeavesOf (second_half l m o) (halves.second_half part b.hearing l m o)
  unfolding kept brought
  second_half_leaves l m o =
      let way = b.hearing.way in
      second_half_by part (LeavesOf (second_half l m o)) (unmoved (second_half l m o)) b.hearing l m o
      (λ _ _ _. record { keeps = refl; counts = λ _. refl })
      (λ whole. record {
        keeps = four_kept (numbered (advanced b Silent)) part whole (inverse_by way (get kept_x part));
        counts = λ _. refl;
      })
      (λ e k good whole inside.
      let p = forward_by way (looked_back part) in
      let t = spoken part b.hearing.index p l m k in
      record {
        keeps =
            four_kept (numbered (advanced b (Heard t.voice e))) t.share
            (said_whole b part whole p l m k good inside) (inverse_by way t.spectrum)
            ∙ three_kept b part whole p l m k good inside (one_more b.frame) (one_more b.heard);
        counts = λ _. refl;
      })

  -- ---- pieces: the rest of one waits, or begins a frame

  -- it brings no frame
  rest_brings : (way : Way) (q rest : List Float) (k : Noted) → brought k (rest_calls way q rest) ≡ []
  unfolding brought
  rest_brings way q rest k = go (ltb (length rest) 480)
    where
      go : (t : Bool) → brought k (cond t [] (first_calls way q (take 480 rest))) ≡ []
      go true = refl
      go false = refl

  rest_keeps : (r : Record) (reply : Reply) (mid : List Float) (way : Way) (rest : List Float) (w : Written)
      → length mid ≡ SHARE → good rest ≡ true
      → let q = get frame_part mid in
      kept_in r (get frame_part (further reply mid way rest w).kept) ≡ kept (kept_in r q) (rest_calls way q rest)
  unfolding further kept
  rest_keeps r reply mid way rest w l g = go (ltb (length rest) 480) refl
    where
      go : (t : Bool) → ltb (length rest) 480 ≡ t
          → let q = get frame_part mid in
          kept_in r (get frame_part (cond t (at_end reply mid rest w) (paused reply mid way rest w)).kept)
          ≡ kept (kept_in r q) (cond t [] (first_calls way q (take 480 rest)))
      go true e = ap (kept_in r) (frame_waits mid l rest)
      go false e =
          let q = get frame_part mid in
          let x = take 480 rest in
          let more = ltb-false (length rest) 480 e in
          let f = first_passes q way x (part_length mid l) (simp length-take (omega arith)) (good_take 480 rest g) in
          ap (kept_in r) (frame_back mid l (halves.first_half q way x 22).kept f.part)
          ∙ first_half_by q (λ f. passed f.answer ≡ true
          → kept_in r f.kept ≡ kept (kept_in r q) (first_calls way q x)) (λ n e. absurd (false≢true e)) way x 22
          (λ sized l _. first_kept r q sized way x l) f.passes

  -- a piece moves no index, nor a number
  carried_keeps : (r : Record) (rest size progress : ℕ) (q : List Float)
      → kept_in (carried r rest size progress) q ≡ kept_in r q
  carried_keeps r rest size progress q =
      carried_leaves (λ (x : Record). kept_in x q) r (λ _ _ _ _. refl) rest size progress

  piece_leaves : (x : List Float) (o s : ℕ) → let f = pieces.piece share b.hearing.way b.waiting x o s in
      Leaves (piece x o s) f.answer (get frame_part f.kept)
  unfolding kept brought
  piece_leaves x o s =
      piece_by share (λ f. Leaves (piece x o s) f.answer (get frame_part f.kept)) (unmoved (piece x o s))
      b.hearing.way b.waiting x o s
      (λ k.
      let way = b.hearing.way in
      let mid = waits share [] in
      let rest = waiting_in b.waiting share ++ x in
      subst (λ r. Leaves (piece x o s) r (get frame_part (further Done mid way rest nothing).kept))
      (sym (further_reply Done mid way rest nothing))
      (record {
        keeps =
            carried_keeps b _ _ _ _
            ∙ rest_keeps b Done mid way rest nothing (waits_length share whole [])
            (good_append _ x k.waited k.fine)
            ∙ ap (λ (q : List Float). kept (kept_in b q) (rest_calls way q rest)) (frame_waits share whole []);
        counts = λ n. ap length (rest_brings way part rest n);
      }))

  resume_leaves : (x l : List Float) (m : List ℕ) (o s : ℕ)
      → let f = pieces.resume share b.hearing b.piece b.progress x l m o s in
      Leaves (resume x l m o s) f.answer (get frame_part f.kept)
  unfolding kept brought
  resume_leaves x l m o s =
      resume_by share (λ f. Leaves (resume x l m o s) f.answer (get frame_part f.kept))
      (unmoved (resume x l m o s))
      b.hearing b.piece b.progress x l m o s
      (λ _ _ _. record { keeps = refl; counts = λ _. refl })
      (λ k.
      let way = b.hearing.way in
      let h = halves.second_half part b.hearing l m 480 in
      let p = second_passes part b.hearing l m (part_length share whole) k.taken k.inside k.right in
      let c = second_half_leaves l m 480 in
      let mid = put frame_part share h.kept in
      let rest = drop b.progress x in
      let w = from (480 * (frame_at b.progress - 1)) (first_in h.written) in
      let next = numbered (advanced b h.answer) in
      subst (λ r. Leaves (resume x l m o s) r (get frame_part (further h.answer mid way rest w).kept))
      (sym (further_reply h.answer mid way rest w))
      (record {
        keeps =
            rw p.passes
            (carried_keeps next _ _ _ _
            ∙ rest_keeps next h.answer mid way rest w (frame_length share whole h.kept p.part)
            (good_drop b.progress x k.fine)
            ∙ ap (λ (q : List Float). kept (kept_in next q) (rest_calls way q rest))
            (frame_back share whole h.kept p.part)
            ∙ ap (λ (t : Kept). kept t (rest_calls way h.kept rest)) (rw p.passes at c.keeps));
        counts = λ n. rw (p.passes, rest_brings way h.kept rest n) (rw p.passes at (c.counts n));
      }))

  -- ---- any call

  on_share_lem : (ask : Ask) → Opens ask (given_of b ask (on_share b share ask))
      ⊎ Remembers b share ask (given_of b ask (on_share b share ask))
  unfolding kept brought
  on_share_lem (opening w m) = go (read_of m) refl
    where
      go : (r : Reading) → read_of m ≡ r
          → let o = given_of b (opening w m) (opened share r) in
          Opens (opening w m) o ⊎ Remembers b share (opening w m) o
      go (Good k) e =
          inl (rw e (record { opens = refl; passes = refl; forgets = wiped SHARE (omega arith); unheard = refl }))
      go (Unread n l) e = inr (record { keeps = refl; counts = λ _. refl })
  on_share_lem (call1 x w) =
      inr (in_part_lem (call1 x w) _ (call1_keeps part x w)
      (call1_by part (LeavesOf (call1 x w)) (unmoved (call1 x w)) x w
      (λ whole l. record { keeps = one_kept b part whole x l; counts = λ _. refl })))
  on_share_lem (call2 x l w s) =
      inr (in_part_lem (call2 x l w s) _ (call2_keeps part x l w s)
      (call2_by part (LeavesOf (call2 x l w s)) (unmoved (call2 x l w s)) x l w s
      (λ whole. record { keeps = two_kept b part whole x l; counts = λ _. refl })))
  on_share_lem (call2_own x w s) =
      inr (in_part_lem (call2_own x w s) _ (call2_own_keeps part x w s)
      (call2_own_by part (LeavesOf (call2_own x w s)) (unmoved (call2_own x w s)) x w s
      (λ whole. record { keeps = two_kept b part whole x (own_lag (get input_mem part)); counts = λ _. refl })))
  on_share_lem (call3 x l m o) =
      inr (in_part_lem (call3 x l m o) _ (call3_keeps part b.hearing x l m o)
      (call3_by part (LeavesOf (call3 x l m o)) (unmoved (call3 x l m o)) b.hearing x l m o
      (λ _ _ _. record { keeps = refl; counts = λ _. refl })
      (record { keeps = refl; counts = λ _. refl })
      (λ e k good whole inside.
      record {
        keeps = three_kept b part whole x l m k good inside b.frame (one_more b.heard);
        counts = λ _. refl;
      })))
  on_share_lem (call4 x o) =
      inr (in_part_lem (call4 x o) _ (call4_keeps part x o)
      (call4_by part (LeavesOf (call4 x o)) (unmoved (call4 x o)) x o
      (λ whole. record { keeps = four_kept (numbered b) part whole x; counts = λ _. refl })))
  on_share_lem (first_half x s) =
      inr (in_part_lem (first_half x s) _ (first_half_keeps part b.hearing.way x s)
      (first_half_by part (LeavesOf (first_half x s)) (unmoved (first_half x s)) b.hearing.way x s
      (λ whole l. record { keeps = first_kept b part whole b.hearing.way x l; counts = λ _. refl })))
  on_share_lem (second_half l m o) =
      inr (in_part_lem (second_half l m o) _ (second_half_keeps part b.hearing l m o) (second_half_leaves l m o))
  on_share_lem (piece x o s) =
      inr (lift (piece x o s) _ ((piece_kept share b.hearing.way b.waiting x o s).size whole)
      (piece_leaves x o s))
  on_share_lem (resume x l m o s) =
      inr (lift (resume x l m o s) _ ((resume_kept share b.hearing b.piece b.progress x l m o s).size whole)
      (resume_leaves x l m o s))

-- ---- one call on a desk of one bench

module _ (b : Record) (share : List Float) (whole : length share ≡ SHARE) (ask : Ask) where
  number : ℕ
  number = gate 1 0 b SHARE (call_of ask)

  -- a call is refused by the gate, or it is let through
  by_gate : (P : Effect Answer → Type 0) → P (given_of b ask (refusal (Refused number) share))
      → P (given_of b ask (on_share b share ask)) → P (desk 1 0 b share ask)
  unfolding number
  by_gate P turned let_in = rw (one_bench b share ask whole) (go (eqb number 0))
    where
      go : (t : Bool) → P (given_of b ask (cond t (on_share b share ask) (refusal (Refused number) share)))
      go true = let_in
      go false = turned

  pub either : Opens ask (desk 1 0 b share ask) ⊎ Remembers b share ask (desk 1 0 b share ask)
  either =
      by_gate (λ o. Opens ask o ⊎ Remembers b share ask o)
      (inr (lift b share whole ask (refusal (Refused number) share) whole (unmoved b share whole ask number)))
      (on_share_lem b share whole ask)

  pub remembers : (call_of ask ≡ 0 → passed (desk 1 0 b share ask).answer.reply ≡ false)
      → Remembers b share ask (desk 1 0 b share ask)
  remembers shut = ⊎_elim (λ o. absurd (false≢true (sym (shut o.opens) ∙ o.passes))) (λ r. r) either

pub opens : (b : Record) (share : List Float) → length share ≡ SHARE → (w : Way) (m : List ℕ)
    → let o = desk 1 0 b share (opening w m) in passed o.answer.reply ≡ true → Opens (opening w m) o
opens b share whole w m =
    by_gate b share whole (opening w m) (λ o. passed o.answer.reply ≡ true → Opens (opening w m) o)
    (λ e. absurd (false≢true e)) (go (read_of m) refl)
  where
    go : (r : Reading) → read_of m ≡ r → passed (opened share r).answer ≡ true
        → Opens (opening w m) (given_of b (opening w m) (opened share r))
    go (Good k) e p = rw e (record { opens = refl; passes = refl; forgets = wiped SHARE (omega arith); unheard = refl })
    go (Unread n l) e p = absurd (false≢true p)
