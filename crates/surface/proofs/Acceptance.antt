-- When a call is accepted: what specs/Acceptance.antt claims.
--     gate-opens    the gate's table, as one condition
--     desk-asks     a call of the desk
--     frame-asks, take-asks    a frame and a take
-- Assumes nothing.
use Rattle.std.specs.Prelude.{◌*◌, ◌≤◌, ◌&&◌, ◌||◌, ◌∷◌, ◌++◌, ◌≡◌}
use Rattle.rules.proofs.Common.{ℕ, Bool, true, false, cond, not, List, []}
use Rattle.rules.proofs.Common.{refl, sym, ap, ◌∙◌}
use Rattle.rules.proofs.Common.{eqb, leb, ltb, length, Float}
use native.Mathlib.Omega.{arith}
use borrow.Author.Tests.{eq-eqb, eqb-true, le-ltb, ltb-true, leb-true}
use Rattle.rules.specs.Place.{get}
use Rattle.rules.proofs.Places.{length_get}
use Rattle.rules.proofs.Tests.{both}
use Rattle.samples.specs.Samples.{good}
use Rattle.model.specs.Model.{read_of}
use Rattle.model.specs.Reading.{Reading, Good, Refused as Unread}
use Rattle.features.specs.Silence.{energy, is_silent}
use Rattle.frame.specs.declared.Hearing.{Hearing}
use Rattle.frame.specs.Reply.{Reply, Done, Refused, passed, ◌refusedIf◌, first_refusal}
use Rattle.frame.specs.declared.Way.{Way}
use Rattle.frame.specs.Effect.{Effect, refusal, unless}
use Rattle.frame.specs.Heard.{Spoken, spoken}
use Rattle.frame.specs.Share.{PART, SHARE, input_mem, kept_ex}
use Rattle.lag.specs.Lag.{own_lag}
use Rattle.halves.proofs.Sister.{by_five}
use Rattle.frame.specs.Frame.{done1, done2, silent, heard, done3, counted, checked, modelled, done4}
use Rattle.frame.specs.Frame as frames
use Rattle.halves.specs.Halves as halves
use Rattle.frame.specs.Written.{Written, nothing}
use Rattle.halves.specs.Halves.{looked_back}
use Rattle.halves.specs.Ways.{forward_by}
use Rattle.halves.proofs.EitherWay.{length_forward}
use Rattle.pieces.proofs.Halved.{first_passes, second_passes}
use Rattle.pieces.proofs.Kept.{further_reply}
use Rattle.pieces.proofs.Shares.{part_length}
use Rattle.pieces.specs.Pieces.{frame_part, waiting_in, waits, completes, piece_fits, resume_fits, begun, resumed}
use Rattle.pieces.specs.Pieces as pieces
use Rattle.desk.specs.declared.Record.{Record}
use Rattle.desk.specs.Gate.{PIECE, RESUME, in_range, is_due, gate, share_of}
use Rattle.desk.specs.Desk.{Ask, opening, call1, call2, call2_own, call3, call4, first_half, second_half, piece, resume}
use Rattle.desk.specs.Desk.{call_of, opened, admitted, on_share, desk}
use Rattle.desk.specs.Answer.{Answer}
use Rattle.desk.specs.Laws.{placed}
use Rattle.desk.proofs.Answered.{done_alike}
use Rattle.desk.proofs.Ranged.{bounded}
use Rattle.whole.specs.Whole.{frame_reply, take_reply, taken_on}
use Rattle.whole.specs.Whole as whole
use Rattle.whole.proofs.Halves.{two_halves, refused_is}
use Rattle.surface.specs.Surface.{frame}
use Rattle.surface.specs.Acceptance.{in_order, may_ask, reads, suits, asks, take_asks, wants}

-- ---- truth values

pub apart : (a b x : Bool) → ((a && b) && x) ≡ (a && (b && x))
apart true b x = refl
apart false b x = refl

pub under : (g x y : Bool) → (g ≡ true → x ≡ y) → (g && x) ≡ (g && y)
under true x y e = e refl
under false x y e = refl

-- ---- the gate

pub gate_opens : (n side : ℕ) (rec : Record) (len call : ℕ)
    → eqb (gate n side rec len call) 0 ≡ (in_order n side rec len && (eqb call 0 || may_ask rec call))
unfolding gate
gate_opens n side rec len call =
    go (ltb side n) (eqb len (n * SHARE)) (in_range rec) (eqb call 0) (eqb rec.due 0) (is_due rec call)
  where
    go : (a b c k z d : Bool)
        → eqb (cond (not a) 1 (cond (not b) 2 (cond (not c) 2 (cond (not k && z) 3 (cond (not k && not d) 4 0))))) 0
        ≡ ((a && (b && c)) && (k || (not z && d)))
    go false b c k z d = refl
    go true false c k z d = refl
    go true true false k z d = refl
    go true true true true z d = refl
    go true true true false true d = refl
    go true true true false false true = refl
    go true true true false false false = refl

-- a call of the desk passes exactly when the gate lets it in and it passes on the share
pub desk_passes : (n side : ℕ) (rec : Record) (store : List Float) (a : Ask)
    → passed (desk n side rec store a).answer.reply
    ≡ (eqb (gate n side rec (length store) (call_of a)) 0 && passed (on_share rec (get (share_of side) store) a).answer)
unfolding desk
desk_passes n side rec store a = done_alike rec a (admitted rec share a number).answer ∙ go (eqb number 0)
  where
    share : List Float
    share = get (share_of side) store

    number : ℕ
    number = gate n side rec (length store) (call_of a)

    go : (t : Bool) → passed (cond t (on_share rec share a) (refusal (Refused number) share)).answer
        ≡ (t && passed (on_share rec share a).answer)
    go true = refl
    go false = refl

-- ---- calls of a frame, on their part of the share

-- the part is whole, so its own length is never wrong
module _ (part : List Float) (whole : length part ≡ PART) where
  one : (x : List Float) (w : ℕ)
      → passed (frames.call1 part x w).answer ≡ (eqb (length x) 480 && (eqb w 960 && good x))
  unfolding frames.call1
  one x w = rw (eq-eqb (length part) PART whole) (go (eqb (length x) 480) (eqb w 960) (good x))
    where
      go : (a b g : Bool) → passed
          (unless (5 refusedIf (not true || (not a || (not b || false))) ∷ 9 refusedIf not g ∷ []) part
          (done1 part x)).answer ≡ (a && (b && g))
      go false b g = refl
      go true false g = refl
      go true true false = refl
      go true true true = refl

  two : (x : List Float) (l w s : ℕ)
      → passed (frames.call2 part x l w s).answer
      ≡ (eqb (length x) 961 && (eqb w 960 && (eqb s 22 && not (ltb 768 l))))
  unfolding frames.call2
  two x l w s = rw (eq-eqb (length part) PART whole) (go (eqb (length x) 961) (eqb w 960) (eqb s 22) (ltb 768 l))
    where
      go : (a b d f : Bool)
          → passed (unless (5 refusedIf (not true || (not a || (not b || (not d || false)))) ∷ 6 refusedIf f ∷ []) part
          (done2 part x l)).answer
          ≡ (a && (b && (d && not f)))
      go false b d f = refl
      go true false d f = refl
      go true true false f = refl
      go true true true true = refl
      go true true true false = refl

  two_own : (x : List Float) (w s : ℕ)
      → passed (halves.call2_own part x w s).answer ≡ (eqb (length x) 961 && (eqb w 960 && eqb s 22))
  two_own x w s =
      ap (λ (f : Effect Reply). passed f.answer) (by_five part x w s)
      ∙ rw (eq-eqb (length part) PART whole) (go (eqb (length x) 961) (eqb w 960) (eqb s 22))
    where
      go : (a b d : Bool)
          → passed (unless (5 refusedIf (not true || (not a || (not b || (not d || false)))) ∷ []) part
          (done2 part x (own_lag (get input_mem part)))).answer ≡ (a && (b && d))
      go false b d = refl
      go true false d = refl
      go true true false = refl
      go true true true = refl

  four : (x : List Float) (o : ℕ) → passed (frames.call4 part x o).answer ≡ (eqb (length x) 960 && eqb o 480)
  unfolding frames.call4
  four x o = rw (eq-eqb (length part) PART whole) (go (eqb (length x) 960) (eqb o 480))
    where
      go : (a b : Bool) → passed
          (unless (5 refusedIf (not true || (not a || (not b || false))) ∷ []) part (done4 part x)).answer ≡ (a && b)
      go false b = refl
      go true false = refl
      go true true = refl

  -- a model that is checked decides alone: a frame is silent or heard
  module _ (hearing : Hearing) (small : hearing.index ≤ 7) (model : List ℕ) where
    by_model : (x logs : List Float) (r : Reading)
        → passed (modelled (counted hearing) r part (done3 part hearing.index x logs model)).answer
        ≡ passed (checked (counted hearing) r)
    unfolding checked done3
    by_model x logs (Unread n l) = refl
    by_model x logs (Good m) =
        go (counted hearing m) (is_silent (energy (get kept_ex part))) (energy (get kept_ex part))
        (spoken part hearing.index x logs model m)
      where
        go : (t q : Bool) (e : Float) (s : Spoken)
            → passed (cond t (cond q (silent part) (heard e s)) (refusal (Refused 8) part)).answer
            ≡ passed (cond t Done (Refused 8))
        go true true e s = refl
        go true false e s = refl
        go false q e s = refl

    three : (x logs : List Float) (o : ℕ)
        → passed (frames.call3 part hearing x logs model o).answer
        ≡ (eqb (length x) 961 && (eqb (length logs) 22
        && (eqb o 961 && passed (checked (counted hearing) (read_of model)))))
    unfolding frames.call3
    three x logs o =
        rw (eq-eqb (length part) PART whole, le-ltb 7 hearing.index small)
        (go (eqb (length x) 961) (eqb (length logs) 22) (eqb o 961)
        (modelled (counted hearing) (read_of model) part (done3 part hearing.index x logs model))
        (by_model x logs (read_of model)))
      where
        go : (a b d : Bool) (f : Effect Reply) → passed f.answer ≡ passed (checked (counted hearing) (read_of model))
            → passed (unless (5 refusedIf (not true || (not a || (not b || (not d || false)))) ∷ 5 refusedIf false ∷ [])
            part f).answer
            ≡ (a && (b && (d && passed (checked (counted hearing) (read_of model)))))
        go false b d f e = refl
        go true false d f e = refl
        go true true false f e = refl
        go true true true f e = e

  -- ---- the halves

  first : (way : Way) (x : List Float) (s : ℕ)
      → passed (halves.first_half part way x s).answer ≡ (eqb (length x) 480 && (eqb s 22 && good x))
  unfolding halves.first_half
  first way x s = go (eqb (length x) 480) refl (eqb s 22) refl (good x) refl
    where
      go : (a : Bool) → eqb (length x) 480 ≡ a → (b : Bool) → eqb s 22 ≡ b → (g : Bool) → good x ≡ g
          → passed (halves.first_half part way x s).answer ≡ (a && (b && g))
      go false e b f g h = rw (eq-eqb (length part) PART whole, e)
      go true e false f g h = rw (eq-eqb (length part) PART whole, e, f)
      go true e true f true h =
          rw (eqb-true s 22 f) (first_passes part way x whole (eqb-true (length x) 480 e) h).passes
      go true e true f false h =
          let no : passed (frames.call1 part x 960).answer ≡ false = one x 960 ∙ rw (e, h) in
          rw (eq-eqb (length part) PART whole, e, f, no) no

  second : (hearing : Hearing) → hearing.index ≤ 7 → (logs : List Float) (model : List ℕ) (o : ℕ)
      → passed (halves.second_half part hearing logs model o).answer
      ≡ (eqb (length logs) 22 && (eqb o 480 && passed (checked (counted hearing) (read_of model))))
  unfolding halves.second_half
  second hearing small logs model o = go (eqb (length logs) 22) refl (eqb o 480) refl
    where
      -- the answer is call 3's
      alike : (f : Effect Reply) (kept : List Float) (written : List Written) (t : Bool)
          → passed (cond t (record { answer = f.answer; kept = kept; written = written }) f).answer
          ≡ passed f.answer
      alike f kept written true = refl
      alike f kept written false = refl

      go : (a : Bool) → eqb (length logs) 22 ≡ a → (b : Bool) → eqb o 480 ≡ b
          → passed (halves.second_half part hearing logs model o).answer
          ≡ (a && (b && passed (checked (counted hearing) (read_of model))))
      go false e b f = rw (eq-eqb (length part) PART whole, e)
      go true e false f = rw (eq-eqb (length part) PART whole, e, f)
      go true e true f =
          let third = frames.call3 part hearing (forward_by hearing.way (looked_back part)) logs model 961 in
          rw (eq-eqb (length part) PART whole, e, f, le-ltb 7 hearing.index small)
          (alike third _ _ (passed third.answer)
          ∙ three hearing small model (forward_by hearing.way (looked_back part)) logs 961
          ∙ rw (eq-eqb _ 961 (length_forward hearing.way (looked_back part)), e))

-- ---- a piece and a resume, on a whole share

module _ (share : List Float) (whole : length share ≡ SHARE) where
  a_piece : (way : Way) (waiting : ℕ) (x : List Float) (o s : ℕ)
      → passed (pieces.piece share way waiting x o s).answer
      ≡ (piece_fits waiting (length x) o s && (good (waiting_in waiting share) && good x))
  unfolding pieces.piece
  a_piece way waiting x o s =
      rw (eq-eqb (length share) SHARE whole)
      (go (piece_fits waiting (length x) o s) (good (waiting_in waiting share)) (good x) (begun share way waiting x)
      (ap passed (further_reply Done (waits share []) way (waiting_in waiting share ++ x) nothing)))
    where
      go : (a b d : Bool) (f : Effect Reply) → passed f.answer ≡ true
          → passed (unless (5 refusedIf not true ∷ 5 refusedIf not a ∷ 9 refusedIf not b ∷ 9 refusedIf not d ∷ []) share
          f).answer ≡ (a && (b && d))
      go false b d f e = refl
      go true false d f e = refl
      go true true false f e = refl
      go true true true f e = e

  -- a resume that fits has 22 logarithms, and an index
  sizes : (index noted progress size logs o s : ℕ) → resume_fits index noted progress size logs o s ≡ true
      → (index ≤ 7) × (logs ≡ 22)
  unfolding resume_fits
  sizes index noted progress size logs o s e =
      let p = both (leb index 7) _ e in
      let q = both (leb 1 progress) _ p.1 in
      let r = both (leb progress noted) _ q.1 in
      let t = both (leb noted 4096) _ r.1 in
      let u = both (eqb size noted) _ t.1 in
      let v = both (eqb logs 22) _ u.1 in
      (leb-true index 7 p.0, eqb-true logs 22 v.0)

  a_resume : (hearing : Hearing) (noted progress : ℕ) (x logs : List Float) (model : List ℕ) (o s : ℕ)
      → passed (pieces.resume share hearing noted progress x logs model o s).answer
      ≡ (resume_fits hearing.index noted progress (length x) (length logs) o s
      && (passed (checked (counted hearing) (read_of model)) && good x))
  unfolding pieces.resume
  a_resume hearing noted progress x logs model o s =
      rw (eq-eqb (length share) SHARE whole)
      (go (resume_fits hearing.index noted progress (length x) (length logs) o s) refl
      (checked (counted hearing) (read_of model))
      (passed (checked (counted hearing) (read_of model))) refl (good x) refl)
    where
      ends : resume_fits hearing.index noted progress (length x) (length logs) o s ≡ true
          → passed (checked (counted hearing) (read_of model)) ≡ true
          → passed (resumed share hearing progress x logs model).answer ≡ true
      ends e p =
          let k = sizes hearing.index noted progress (length x) (length logs) o s e in
          ap passed (further_reply _ _ hearing.way _ _)
          ∙ (second_passes (get frame_part share) hearing logs model (part_length share whole) k.1 k.0 p).passes

      go : (a : Bool) → resume_fits hearing.index noted progress (length x) (length logs) o s ≡ a
          → (c : Reply) (q : Bool) → passed c ≡ q → (g : Bool)
          → (passed (checked (counted hearing) (read_of model)) ≡ q)
          → passed (unless (5 refusedIf not true ∷ 5 refusedIf not a ∷ c ∷ 9 refusedIf not g ∷ []) share
          (resumed share hearing progress x logs model)).answer ≡ (a && (q && g))
      go false e c q f g h = refl
      go true e c false f g h = rw (f, f, f)
      go true e c true f false h = rw f
      go true e c true f true h = rw f (ends e h)

-- ---- a call of the desk

module _ (n side : ℕ) (rec : Record) (store : List Float) where
  abbrev ok : Bool
  ok = in_order n side rec (length store)

  abbrev share : List Float
  share = get (share_of side) store

  whole_share : in_order n side rec (length store) ≡ true → length (get (share_of side) store) ≡ SHARE
  whole_share e =
      let p = both (ltb side n) _ e in
      let inside = ltb-true side n p.0 in
      let sized = eqb-true (length store) (n * SHARE) (both (eqb (length store) (n * SHARE)) (in_range rec) p.1).0 in
      length_get (share_of side) store (omega arith)

  whole_part_lem : in_order n side rec (length store) ≡ true
      → length (get frame_part (get (share_of side) store)) ≡ PART
  whole_part_lem e = part_length share (whole_share e)

  index : in_order n side rec (length store) ≡ true → rec.hearing.index ≤ 7
  index e = (bounded rec (both (eqb (length store) (n * SHARE)) (in_range rec) (both (ltb side n) _ e).1).1).index

  by : (a : Ask) (m y : Bool)
      → eqb (gate n side rec (length store) (call_of a)) 0 ≡ (in_order n side rec (length store) && m)
      → (in_order n side rec (length store) ≡ true → passed (on_share rec (get (share_of side) store) a).answer ≡ y)
      → passed (desk n side rec store a).answer.reply ≡ (in_order n side rec (length store) && (m && y))
  by a m y g h =
      desk_passes n side rec store a
      ∙ ap (λ (t : Bool). t && passed (on_share rec share a).answer) g
      ∙ apart ok m (passed (on_share rec share a).answer)
      ∙ under ok _ _ (λ e. ap (λ (t : Bool). m && t) (h e))

  opens : (r : Reading) → passed (opened share r).answer ≡ reads r
  opens (Good m) = refl
  opens (Unread k l) = refl

  pub desk_asks : (a : Ask)
      → passed (desk n side rec store a).answer.reply
      ≡ (in_order n side rec (length store) && asks rec (get (share_of side) store) a)
  desk_asks (opening w m) =
      by (opening w m) true (reads (read_of m)) (gate_opens n side rec (length store) 0) (λ e. opens (read_of m))
  desk_asks (call1 x w) =
      by (call1 x w) (may_ask rec 1) _ (gate_opens n side rec (length store) 1)
      (λ e. one (get frame_part share) (whole_part_lem e) x w)
  desk_asks (call2 x l w s) =
      by (call2 x l w s) (may_ask rec 2) _ (gate_opens n side rec (length store) 2)
      (λ e. two (get frame_part share) (whole_part_lem e) x l w s)
  desk_asks (call2_own x w s) =
      by (call2_own x w s) (may_ask rec 2) _ (gate_opens n side rec (length store) 2)
      (λ e. two_own (get frame_part share) (whole_part_lem e) x w s)
  desk_asks (call3 x l m o) =
      by (call3 x l m o) (may_ask rec 3) _ (gate_opens n side rec (length store) 3)
      (λ e. three (get frame_part share) (whole_part_lem e) rec.hearing (index e) m x l o)
  desk_asks (call4 x o) =
      by (call4 x o) (may_ask rec 4) _ (gate_opens n side rec (length store) 4)
      (λ e. four (get frame_part share) (whole_part_lem e) x o)
  desk_asks (first_half x s) =
      by (first_half x s) (may_ask rec 1) _ (gate_opens n side rec (length store) 1)
      (λ e. first (get frame_part share) (whole_part_lem e) rec.hearing.way x s)
  desk_asks (second_half l m o) =
      by (second_half l m o) (may_ask rec 3) _ (gate_opens n side rec (length store) 3)
      (λ e. second (get frame_part share) (whole_part_lem e) rec.hearing (index e) l m o)
  desk_asks (piece x o s) =
      by (piece x o s) (may_ask rec PIECE) _ (gate_opens n side rec (length store) PIECE)
      (λ e. a_piece share (whole_share e) rec.hearing.way rec.waiting x o s)
  desk_asks (resume x l m o s) =
      by (resume x l m o s) (may_ask rec RESUME) _ (gate_opens n side rec (length store) RESUME)
      (λ e. a_resume share (whole_share e) rec.hearing rec.piece rec.progress x l m o s)

-- ---- whole calls

frame_rows_lem : (number : ℕ) (t a b : Bool) (c : Reply) (q g : Bool) → passed c ≡ q
    → passed
    (first_refusal (number refusedIf not t ∷ 5 refusedIf (not a || (not b || false)) ∷ c ∷ 9 refusedIf not g ∷ []))
    ≡ (t && (a && (b && (q && g))))
frame_rows_lem number false a b c q g e = refl
frame_rows_lem number true false b c q g e = refl
frame_rows_lem number true true false c q g e = refl
frame_rows_lem number true true true c false g e = rw (e, e)
frame_rows_lem number true true true c true false e = rw e
frame_rows_lem number true true true c true true e = rw e

take_rows_lem : (number : ℕ) (t a b : Bool) (c : Reply) (q g : Bool) → passed c ≡ q
    → passed
    (first_refusal (number refusedIf not t ∷ 5 refusedIf not a ∷ 5 refusedIf not b ∷ c ∷ 9 refusedIf not g ∷ []))
    ≡ (t && (a && (b && (q && g))))
take_rows_lem number false a b c q g e = refl
take_rows_lem number true false b c q g e = refl
take_rows_lem number true true false c q g e = refl
take_rows_lem number true true true c false g e = rw (e, e)
take_rows_lem number true true true c true false e = rw e
take_rows_lem number true true true c true true e = rw e

module _ (n side : ℕ) (rec : Record) (store : List Float) where
  -- the gate in front of the other conditions
  gated : (call : ℕ) (m y : Bool)
      → eqb (gate n side rec (length store) call) 0 ≡ (in_order n side rec (length store) && m)
      → (eqb (gate n side rec (length store) call) 0 && y) ≡ (in_order n side rec (length store) && (m && y))
  gated call m y g = ap (λ (t : Bool). t && y) g ∙ apart (in_order n side rec (length store)) m y

  pub frame_asks : (x : List Float) (m : List ℕ) (o : ℕ)
      → passed (whole.frame n side rec store x m o).answer.reply
      ≡ (in_order n side rec (length store) && wants rec (get (share_of side) store) (frame x m o))
  unfolding frame_reply
  frame_asks x m o =
      go (passed (frame_reply n side rec (length store) x m o)) refl
      ∙ frame_rows_lem (gate n side rec (length store) 1) (eqb (gate n side rec (length store) 1) 0)
      (eqb (length x) 480)
      (eqb o 480)
      (checked (counted rec.hearing) (read_of m)) (suits rec m) (good x) refl
      ∙ gated 1 (may_ask rec 1) _ (gate_opens n side rec (length store) 1)
    where
      go : (t : Bool) → passed (frame_reply n side rec (length store) x m o) ≡ t
          → passed (whole.frame n side rec store x m o).answer.reply
          ≡ passed (frame_reply n side rec (length store) x m o)
      go true p =
          let h = two_halves n side rec store x m o p in
          ap (λ (e : Effect Answer). passed e.answer.reply) h.2 ∙ h.1 ∙ sym p
      go false p = ap (λ (e : Effect Answer). passed e.answer.reply) (refused_is n side rec store x m o p)

  pub take_asks_lem : (x : List Float) (m : List ℕ) (o a : ℕ)
      → passed (whole.take n side rec store x m o a).answer.reply
      ≡ (in_order n side rec (length store) && take_asks rec (get (share_of side) store) x m o a)
  unfolding whole.take take_reply
  take_asks_lem x m o a =
      go (passed (take_reply n side rec store x m o a)) refl
      ∙ take_rows_lem (gate n side rec (length store) PIECE) (eqb (gate n side rec (length store) PIECE) 0)
      (piece_fits rec.waiting (length x) o 22)
      (leb (3 * completes rec.waiting (length x)) a) (checked (counted rec.hearing) (read_of m)) (suits rec m)
      (good (waiting_in rec.waiting (get (share_of side) store) ++ x)) refl
      ∙ gated PIECE (may_ask rec PIECE) _ (gate_opens n side rec (length store) PIECE)
    where
      go : (t : Bool) → passed (take_reply n side rec store x m o a) ≡ t
          → passed (cond t (placed side store (taken_on rec (get (share_of side) store) x m))
          (refusal (record { reply = take_reply n side rec store x m o a; rec = rec }) store)).answer.reply
          ≡ passed (take_reply n side rec store x m o a)
      go true p = sym p
      go false p = refl
