-- From what the parts of the code leave to the definitions.
--     entered, finished, finished_length          a frame's halves, over its part of a share
--     rest_waits, rest_begins                     what becomes of the rest of a piece
--     piece_refused, piece_ends, piece_pauses     the ways that a piece ends
--     resume_refused, resume_goes                 the ways that a resume ends
-- Assumes nothing.
use Rattle.std.specs.Prelude.{◌+◌, ◌-◌, ◌*◌, ◌≤◌, ◌<◌, ◌∷◌, ◌++◌, ◌≡◌}
use Rattle.rules.proofs.Common.{ℕ, Bool, true, false, cond, List, [], refl}
use Rattle.rules.proofs.Common.{sym, ap, ap₂, ◌∙◌, ltb, length}
use Rattle.rules.proofs.Common.{get_or, take, drop, length-drop, length-append, Float}
use native.Mathlib.Nat.{add-sub_cancel_left}
use native.Mathlib.Omega.{arith}
use borrow.Author.Tests.{lt-ltb, le-ltb}
use Rattle.rules.specs.Place.{Place, get, put}
use Rattle.frame.specs.Written.{Written, from, nothing, over, onto, first_in}
use Rattle.rules.proofs.Places.{length_get}
use Rattle.frame.proofs.Buffers.{over_none, lent_over}
use Rattle.samples.specs.Samples.{good}
use Rattle.model.specs.Model.{read_of}
use Rattle.frame.specs.declared.Hearing.{Hearing}
use Rattle.frame.specs.Reply.{Reply, Done, passed}
use Rattle.frame.specs.declared.Way.{Way}
use Rattle.frame.specs.Share.{SHARE}
use Rattle.frame.specs.Effect.{Effect, refusal, Worked}
use Rattle.frame.specs.Frame.{counted, checked}
use Rattle.halves.specs.Halves.{first_half, second_half}
use Rattle.pieces.specs.Pieces.{frame_part, waiting_place, waiting_in, padded_to, waits, frame_at, at_end, paused}
use Rattle.pieces.specs.Pieces.{further, begun, piece, resumed, resume}
use Rattle.pieces.specs.Private.{piece_reply, resume_reply}
use Rattle.pieces.proofs.Accepted.{Piece, piece_accepted}
use Rattle.pieces.proofs.Halved.{Halved, first_passes, second_length, second_passes}
use Rattle.pieces.proofs.Padding.{padded_full, padded_less}
use Rattle.pieces.proofs.Shares.{part_length, waiting_length, waits_waits, frame_length}

-- ---- a frame's halves

-- what a half that is refused nothing wrote
written : {n : ℕ} {f : Effect Reply} {reply : Reply} {part held new : List Float} → Halved n f
    → Worked f reply part (held ∷ []) (new ∷ []) → new ≡ first_in f.written
written {held = held} h w =
    ap (λ (l : List (List Float)). get_or l 0 []) (w.writes ∙ ap (λ (l : List Written). onto l (held ∷ [])) h.writes)

-- 480 places of a buffer as the code lends them
abbrev pub lent_from : ℕ → Place
lent_from start = record { at = start; size = start + 480 - start }

module _ (share : List Float) (l : length share ≡ SHARE) where
  pub entered : (way : Way) (samples sums : List Float) {reply : Reply} {part new : List Float} → length samples ≡ 480
      → good samples ≡ true → length sums ≡ 22
      → Worked (first_half (get frame_part share) way samples (length sums)) reply part (sums ∷ []) (new ∷ [])
      → (put frame_part share part ≡ put frame_part share (first_half (get frame_part share) way samples 22).kept)
      × (new ≡ first_in (first_half (get frame_part share) way samples 22).written) × (passed reply ≡ true)
  entered way samples sums k g n w =
      let v = rw n at w in
      let h = first_passes (get frame_part share) way samples (part_length share l) k g in
      (ap (put frame_part share) v.keeps, written h v, ap passed v.answers ∙ h.passes)

  pub finished_length : (hearing : Hearing) (logs : List Float) (model : List ℕ) {share' : List Float}
      → share' ≡ put frame_part share (second_half (get frame_part share) hearing logs model 480).kept
      → length share' ≡ SHARE
  finished_length hearing logs model e =
      ap length e ∙ frame_length share l
      _ (second_length (get frame_part share) hearing logs model 480 (part_length share l))

  pub finished : (hearing : Hearing) (logs : List Float) (model : List ℕ) (out : List Float) (start : ℕ) {reply : Reply}
      {part new : List Float}
      → hearing.index ≤ 7 → length logs ≡ 22 → start + 480 ≤ length out
      → passed (checked (counted hearing) (read_of model)) ≡ true
      → Worked (second_half (get frame_part share) hearing logs model (length (get (lent_from start) out))) reply part
      (get (lent_from start) out ∷ []) (new ∷ [])
      → let s = second_half (get frame_part share) hearing logs model 480 in
      (reply ≡ s.answer) × ((put frame_part share part ≡ put frame_part share s.kept)
      × ((put (lent_from start) out new ≡ over (from start (first_in s.written)) out) × (passed reply ≡ true)))
  finished hearing logs model out start i k room right w =
      let n : length (get (lent_from start) out) ≡ 480 =
      length_get (lent_from start) out (omega arith) ∙ add-sub_cancel_left start 480 in
      let v = rw n at w in
      let h = second_passes (get frame_part share) hearing logs model (part_length share l) k i right in (
        v.answers,
        (
          ap (put frame_part share) v.keeps,
          (
            lent_over start 480 out _ _ (written h v) h.fills,
            ap passed v.answers ∙ h.passes,
          ),
        ),
      )

-- ---- what becomes of the rest of a piece

module _ (share : List Float) (way : Way) (rest out sums : List Float) {share' : List Float} where
  further_ends : length rest < 480 → share' ≡ waits share rest
      → Worked (further Done share way rest nothing) Done share' (out ∷ sums ∷ []) (out ∷ sums ∷ [])
  unfolding further
  further_ends h s =
      rw (lt-ltb (length rest) 480 h)
      (record {
        answers = refl;
        keeps = s;
        writes = ap₂ (λ (a b : List Float). a ∷ b ∷ []) (sym (over_none 0 out)) (sym (over_none 0 sums));
      })

  further_pauses : {sums' : List Float} → let f = first_half (get frame_part share) way (take 480 rest) 22 in
      480 ≤ length rest → share' ≡ put frame_part share f.kept → sums' ≡ first_in f.written
      → Worked (further Done share way rest nothing) Done share' (out ∷ sums ∷ []) (out ∷ sums' ∷ [])
  unfolding further
  further_pauses h s t =
      rw (le-ltb (length rest) 480 h)
      (record { answers = refl; keeps = s; writes = ap₂ (λ (a b : List Float). a ∷ b ∷ []) (sym (over_none 0 out)) t })

-- the samples from a place on, as the code finds them
module _ (share : List Float) (way : Way) (samples : List Float) (at : ℕ) (sums : List Float)
    {share' : List Float} where
  pub rest_waits : length samples - at < 480 → share' ≡ waits share (drop at samples)
      → Worked (further Done share way (drop at samples) nothing) Done share' ([] ∷ sums ∷ []) ([] ∷ sums ∷ [])
  rest_waits h s = further_ends share way (drop at samples) [] sums (rw (length-drop at samples) h) s

  pub rest_begins : {sums' : List Float} → let f =
      first_half (get frame_part share) way (take (at + 480 - at) (drop at samples)) 22 in
      480 ≤ length samples - at → share' ≡ put frame_part share f.kept → sums' ≡ first_in f.written
      → Worked (further Done share way (drop at samples) nothing) Done share' ([] ∷ sums ∷ []) ([] ∷ sums' ∷ [])
  rest_begins h s t =
      further_pauses share way (drop at samples) [] sums (rw (length-drop at samples) h)
      (rw (add-sub_cancel_left at 480) at s) (rw (add-sub_cancel_left at 480) at t)

-- whatever the reply and the output are: they are not looked at
carried : (reply : Reply) (share : List Float) (way : Way) (rest : List Float) (w : Written) (out : List Float)
    {share' out' sums sums' : List Float} → out' ≡ over w out
    → Worked (further Done share way rest nothing) Done share' ([] ∷ sums ∷ []) ([] ∷ sums' ∷ [])
    → Worked (further reply share way rest w) reply share' (out ∷ sums ∷ []) (out' ∷ sums' ∷ [])
unfolding further
carried reply share way rest w out {share'} {out'} {sums} {sums'} o = go (ltb (length rest) 480)
  where
    go : (t : Bool) → Worked (cond t (at_end Done share rest nothing) (paused Done share way rest nothing)) Done share'
        ([] ∷ sums ∷ []) ([] ∷ sums' ∷ [])
        → Worked (cond t (at_end reply share rest w) (paused reply share way rest w)) reply share' (out ∷ sums ∷ [])
        (out' ∷ sums' ∷ [])
    go true v =
        record {
          answers = refl;
          keeps = v.keeps;
          writes = ap₂ (λ (a b : List Float). a ∷ b ∷ []) o (ap (λ (l : List (List Float)). get_or l 1 []) v.writes);
        }
    go false v =
        record {
          answers = refl;
          keeps = v.keeps;
          writes = ap₂ (λ (a b : List Float). a ∷ b ∷ []) o (ap (λ (l : List (List Float)). get_or l 1 []) v.writes);
        }

-- ---- a piece

module _ (share : List Float) (way : Way) (waiting : ℕ) (samples out sums : List Float) (r : Reply)
    (e : r ≡ piece_reply share waiting samples (length out) (length sums)) where
  piece_is : piece share way waiting samples (length out) (length sums)
      ≡ cond (passed r) (begun share way waiting samples) (refusal r share)
  unfolding piece piece_reply
  piece_is = rw e

  pub piece_refused : passed r ≡ false
      → Worked (piece share way waiting samples (length out) (length sums)) r share (out ∷ sums ∷ []) (out ∷ sums ∷ [])
  piece_refused p = rw (piece_is, p) (record { answers = refl; keeps = refl; writes = refl })

  module _ (z : passed r ≡ true) (first : List Float)
      (f : first ≡ padded_to 480 (waiting_in waiting share ++ samples)) where
    abbrev all : List Float
    all = waiting_in waiting share ++ samples

    took : Piece share waiting samples (length out) (length sums)
    took = piece_accepted share waiting samples (length out) (length sums) (rw (← e) z)

    begins : piece share way waiting samples (length out) (length sums) ≡ further Done (waits share []) way all nothing
    begins = rw (piece_is, z)

    size : length all ≡ waiting + length samples
    size =
        length-append (waiting_in waiting share) samples
        ∙ ap (λ (k : ℕ). k + length samples) (waiting_length share took.size waiting took.waits)

    pub piece_ends : {share' : List Float} → waiting + length samples < 480
        → share' ≡ put (waiting_place 479) share (take 479 first)
        → Worked (piece share way waiting samples (length out) (length sums)) Done share' (out ∷ sums ∷ [])
        (out ∷ sums ∷ [])
    piece_ends h s =
        rw begins (further_ends (waits share []) way all out sums (omega (arith, size))
        (s ∙ rw (f, padded_less 479 480 all (omega arith), waits_waits share took.size [] all)))

    pub piece_pauses : {mid share' sums' : List Float} → 480 ≤ waiting + length samples → mid ≡ waits share []
        → share' ≡ put frame_part mid (first_half (get frame_part mid) way first 22).kept
        → sums' ≡ first_in (first_half (get frame_part mid) way first 22).written
        → Worked (piece share way waiting samples (length out) (length sums)) Done share' (out ∷ sums ∷ [])
        (out ∷ sums' ∷ [])
    piece_pauses h m s t =
        let whole : first ≡ take 480 all = f ∙ padded_full 480 all (omega (arith, size)) in
        rw begins (further_pauses (waits share []) way all out sums (omega (arith, size)) (s ∙ rw (m, whole))
        (t ∙ rw (m, whole)))

-- ---- a resume

module _ (share : List Float) (hearing : Hearing) (noted progress : ℕ) (samples logs : List Float) (model : List ℕ)
    (out sums : List Float) (r : Reply)
    (e : r ≡ resume_reply share hearing noted progress samples logs model (length out) (length sums)) where
  abbrev whole : Effect Reply
  whole = resume share hearing noted progress samples logs model (length out) (length sums)

  abbrev half : Effect Reply
  half = second_half (get frame_part share) hearing logs model 480

  resume_is : whole ≡ cond (passed r) (resumed share hearing progress samples logs model) (refusal r share)
  unfolding resume resume_reply
  resume_is = rw e

  pub resume_refused : passed r ≡ false
      → Worked (resume share hearing noted progress samples logs model (length out) (length sums)) r share
      (out ∷ sums ∷ []) (out ∷ sums ∷ [])
  resume_refused p = rw (resume_is, p) (record { answers = refl; keeps = refl; writes = refl })

  pub resume_goes : passed r ≡ true → {told : Reply} {mid share' out' sums' : List Float}
      → (told ≡ half.answer) × ((mid ≡ put frame_part share half.kept)
      × (out' ≡ over (from (480 * (frame_at progress - 1)) (first_in half.written)) out))
      → Worked (further Done mid hearing.way (drop progress samples) nothing) Done share' ([] ∷ sums ∷ [])
      ([] ∷ sums' ∷ [])
      → Worked (resume share hearing noted progress samples logs model (length out) (length sums)) told share'
      (out ∷ sums ∷ []) (out' ∷ sums' ∷ [])
  resume_goes z {told} {mid} left w =
      let o = from (480 * (frame_at progress - 1)) (first_in half.written) in
      let goes : whole ≡ further told mid hearing.way (drop progress samples) o =
      resume_is ∙ rw (z, left.0, left.1.0) in
      rw goes (carried told mid hearing.way (drop progress samples) o out left.1.1 w)
