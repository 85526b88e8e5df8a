-- What is known of a piece and of a resume that a desk did not refuse, and what comes of them: the rest of the piece
-- goes `onward`.
--     let-in             a call that is not refused got through the gate; let_through, what it then gives
--     piece-passed       a piece, with its samples behind those that wait
--     resume-passed      a resume, with what is left of its samples
--     ends, pauses       onward, the rest is too short for a frame, or begins one; first-onward, what is written first
-- Assumes nothing.
use Rattle.std.specs.Prelude.{◌+◌, ◌-◌, ◌*◌, ◌≤◌, ◌<◌, ◌∷◌, ◌++◌, ◌≡◌}
use Rattle.rules.proofs.Common.{ℕ, Bool, true, false, cond, false≢true, List, []}
use Rattle.rules.proofs.Common.{refl, sym, ap, ◌∙◌, ltb, length, get_or, take, drop, length-drop}
use Rattle.rules.proofs.Common.{length-append, Float}
use borrow.Author.Tests.{lt-ltb, le-ltb}
use Rattle.rules.specs.Place.{get, put}
use Rattle.frame.specs.Written.{Written, all, from, nothing, first_in}
use Rattle.desk.specs.Answer.{Answer}
use Rattle.frame.specs.Effect.{Effect}
use Rattle.frame.specs.Reply.{Reply, Done, passed}
use Rattle.halves.specs.Halves.{first_half, second_half}
use Rattle.pieces.specs.Pieces.{frame_part, waiting_in, waits, frame_at, further}
use Rattle.pieces.specs.Pieces as pieces
use Rattle.pieces.proofs.Accepted.{Piece, piece_taken, Resume, resume_taken}
use Rattle.pieces.proofs.Cases.{piece_by, resume_by}
use Rattle.pieces.proofs.Halved.{Halved, second_passes}
use Rattle.pieces.proofs.Kept.{further_reply}
use Rattle.pieces.proofs.Shares.{part_length, waiting_length}
use Rattle.desk.specs.declared.Record.{Record}
use Rattle.desk.specs.Gate.{share_of, gate}
use Rattle.desk.specs.Desk.{Ask, piece, resume, call_of, holding, advanced, numbered, carried, answered, on_share, desk}
use Rattle.desk.proofs.Answered as past

-- ---- the gate

-- what a side of a store is given, by what comes of its share
abbrev pub on : ℕ → List Float → Record → Ask → Effect Reply → Effect Answer
on side store rec ask f =
    record { answer = answered rec ask f.answer; kept = put (share_of side) store f.kept; written = f.written }

module _ (n side : ℕ) (rec : Record) (store : List Float) (ask : Ask) where
  pub let_through : gate n side rec (length store) (call_of ask) ≡ 0
      → desk n side rec store ask ≡ on side store rec ask (on_share rec (get (share_of side) store) ask)
  let_through e = past.let_in rec ask n side store e

  pub let_in : passed (desk n side rec store ask).answer.reply ≡ true
      → (gate n side rec (length store) (call_of ask) ≡ 0)
      × (desk n side rec store ask ≡ on side store rec ask (on_share rec (get (share_of side) store) ask))
  let_in p = let e = past.was_let_in rec ask n side store p in (e, let_through e)

-- ---- onward with the rest of a piece

abbrev pub onward : ℕ → List Float → Record → Reply → List Float → List Float → ℕ → ℕ → Written → Effect Answer
onward side store rec reply share rest size progress w =
    let f = further reply share rec.hearing.way rest w in
    record {
      answer = record { reply = reply; rec = carried rec (length rest) size progress };
      kept = put (share_of side) store f.kept;
      written = f.written;
    }

module _ (side : ℕ) (store : List Float) (rec : Record) (reply : Reply) (share rest : List Float) (size progress : ℕ)
    (w : Written) where
  pub ends : length rest < 480
      → onward side store rec reply share rest size progress w
      ≡ record {
        answer = record { reply = reply; rec = holding 1 rec (length rest) 0 0 };
        kept = put (share_of side) store (waits share rest);
        written = w ∷ nothing ∷ [];
      }
  unfolding further carried
  ends h = rw (lt-ltb (length rest) 480 h)

  pub pauses : 480 ≤ length rest
      → let f = first_half (get frame_part share) rec.hearing.way (take 480 rest) 22 in
      onward side store rec reply share rest size progress w
      ≡ record {
        answer = record { reply = reply; rec = holding 3 rec 0 size progress };
        kept = put (share_of side) store (put frame_part share f.kept);
        written = w ∷ all (first_in f.written) ∷ [];
      }
  unfolding further carried
  pauses h = rw (le-ltb (length rest) 480 h)

  -- either way the output is written first
  pub first_onward : get_or (onward side store rec reply share rest size progress w).written 0 nothing ≡ w
  unfolding further
  first_onward = go (ltb (length rest) 480)
    where
      go : (t : Bool)
          → get_or (cond t (pieces.at_end reply share rest w)
          (pieces.paused reply share rec.hearing.way rest w)).written 0 nothing ≡ w
      go true = refl
      go false = refl

-- ---- a piece

module _ (n side : ℕ) (rec : Record) (store samples : List Float) (out sums : ℕ) where
  abbrev its : List Float
  its = get (share_of side) store

  abbrev facts : Type 0
  facts = Piece its rec.waiting samples out sums

  abbrev pub begins : Effect Answer
  begins =
      onward side store rec Done (waits its []) (waiting_in rec.waiting its ++ samples) (length samples)
      (480 - rec.waiting) nothing

  begun_onward : facts → on side store rec (piece samples out sums)
      (pieces.piece its rec.hearing.way rec.waiting samples out sums) ≡ begins
  begun_onward k =
      let rest = waiting_in rec.waiting its ++ samples in
      let long : length rest ≡ rec.waiting + length samples =
      length-append (waiting_in rec.waiting its) samples
      ∙ ap (λ (m : ℕ). m + length samples) (waiting_length its k.size rec.waiting k.waits) in
      rw (
        piece_taken its rec.hearing.way rec.waiting samples out sums k,
        further_reply Done (waits its []) rec.hearing.way rest nothing,
        long,
      )

  pub piece_passed : passed (desk n side rec store (piece samples out sums)).answer.reply ≡ true
      → (gate n side rec (length store) 5 ≡ 0) × facts × (desk n side rec store (piece samples out sums) ≡ begins)
  piece_passed p =
      let t = let_in n side rec store (piece samples out sums) p in
      let q : passed (pieces.piece its rec.hearing.way rec.waiting samples out sums).answer ≡ true =
      sym (ap (λ (o : Effect Answer). passed o.answer.reply) t.1) ∙ p in
      let k = piece_by its (λ o. passed o.answer ≡ true → facts) (λ m e. absurd (false≢true e)) rec.hearing.way
      rec.waiting samples out sums (λ k _. k) q in
      (t.0, k, t.1 ∙ begun_onward k)

-- ---- a resume

module _ (n side : ℕ) (rec : Record) (store samples logs : List Float) (model : List ℕ) (out sums : ℕ) where
  abbrev mine : List Float
  mine = get (share_of side) store

  abbrev known : Type 0
  known = Resume mine rec.hearing rec.piece rec.progress samples logs model out sums

  abbrev half : Effect Reply
  half = second_half (get frame_part mine) rec.hearing logs model 480

  -- the second half is refused nothing
  pub half_passes : known → Halved 480 half
  half_passes k =
      second_passes (get frame_part mine) rec.hearing logs model
      (part_length mine k.size) k.taken k.inside k.right

  abbrev pub goes : Effect Answer
  goes =
      onward side store (numbered (advanced rec half.answer)) half.answer (put frame_part mine half.kept)
      (drop rec.progress samples)
      (length samples) (rec.progress + 480) (from (480 * (frame_at rec.progress - 1)) (first_in half.written))

  pub resumed_onward : known
      → on side store rec (resume samples logs model out sums)
      (pieces.resume mine rec.hearing rec.piece rec.progress samples logs model out sums)
      ≡ goes
  resumed_onward k =
      let rest = drop rec.progress samples in
      rw (
        resume_taken mine rec.hearing rec.piece rec.progress samples logs model out sums k,
        further_reply half.answer (put frame_part mine half.kept) rec.hearing.way rest
            (from (480 * (frame_at rec.progress - 1)) (first_in half.written)),
        (half_passes k).passes,
        length-drop rec.progress samples,
      )

  pub resume_passed : passed (desk n side rec store (resume samples logs model out sums)).answer.reply ≡ true
      → (gate n side rec (length store) 6 ≡ 0) × known
      × (desk n side rec store (resume samples logs model out sums) ≡ goes)
  resume_passed p =
      let t = let_in n side rec store (resume samples logs model out sums) p in
      let o = pieces.resume mine rec.hearing rec.piece rec.progress samples logs model out sums in
      let q : passed o.answer ≡ true = sym (ap (λ (g : Effect Answer). passed g.answer.reply) t.1) ∙ p in
      let k =
      resume_by mine (λ o. passed o.answer ≡ true → known) (λ m e. absurd (false≢true e))
      rec.hearing rec.piece rec.progress samples logs model out sums
      (λ m l _ e. absurd (false≢true e)) (λ k _. k) q in
      (t.0, k, t.1 ∙ resumed_onward k)
