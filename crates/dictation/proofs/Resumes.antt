-- Laws of a record and of one piece: its numbers, where it is accepted, and that an accepted piece comes to its end.
-- Assumes nothing.
use Rattle.std.specs.Prelude.{◌+◌, ◌-◌, ◌*◌, ◌/◌, ◌≤◌, ◌<◌, ◌∷◌, ◌++◌, ◌≡◌}
use Rattle.rules.proofs.Common.{ℕ, Bool, true, false, List, [], refl, sym}
use Rattle.rules.proofs.Common.{ap, ◌∙◌, eqb, leb, length}
use Rattle.rules.proofs.Common.{drop, length-drop, length-append, Float}
use native.Mathlib.Omega.{arith}
use borrow.Author.Tests.{eqb-true, eqb-false, leb-true, eq-eqb, ne_eqb, le-leb, lt-ltb, not-false}
use lib.Seq.{drop-drop, drop-append-add}
use Rattle.rules.specs.Place.{get, put}
use Rattle.frame.specs.Written.{Written, from, nothing, over, first_in}
use Rattle.rules.proofs.Places.{length_get, length_put}
use Rattle.frame.proofs.Buffers.{over_none}
use Rattle.rules.proofs.Tests.{both}
use Rattle.samples.specs.Samples.{good}
use Rattle.desk.specs.Answer.{Answer}
use Rattle.frame.specs.Effect.{Effect}
use Rattle.frame.specs.Reply.{Reply, Done, passed}
use Rattle.frame.specs.Share.{SHARE}
use Rattle.pieces.specs.Pieces.{waiting_in, waits, waited_of, completes}
use Rattle.pieces.proofs.Accepted.{Piece, piece_taken}
use Rattle.pieces.proofs.Kept.{further_reply}
use Rattle.pieces.proofs.Shares.{waiting_length, waits_length}
use Rattle.desk.specs.declared.Record.{Record}
use Rattle.desk.specs.Gate.{share_of, idle, all_zero, in_counts, under_way, in_pieces, in_range, is_due, gate}
use Rattle.desk.specs.Desk.{piece, resume, holding, desk}
use Rattle.dictation.specs.Dictation.{Lent, Dictated}
use Rattle.dictation.specs.Cutting.{output_of, sums_in, Led, ended, paused}
use Rattle.dictation.specs.Resuming.{FrameKnown, Accepts, Fitting, ComesToItsEnd}
use Rattle.desk.proofs.Ranged.{bounded, next_index_lem, open_range}
use Rattle.desk.proofs.Turned.{none, through}
use Rattle.dictation.proofs.Joins.{first, second, share_after, rec_after, after_length}
use Rattle.dictation.proofs.Taken.{let_through, onward, ends, pauses, piece_passed}
use Rattle.dictation.proofs.Follows.{place, share_here, next, here_length, back, Known, fits_in, halved, admits}

-- ---- the numbers of a record

-- a closed record has no piece
shut : (rec : Record) → all_zero rec ≡ true → rec.piece ≡ 0
unfolding all_zero idle
shut rec e =
    let vad = both (eqb rec.hearing.index 0) _ e in
    let noise = both (eqb rec.hearing.vad 0) _ vad.1 in
    let denoise = both (eqb rec.hearing.noise 0) _ noise.1 in
    let frames = both (eqb rec.hearing.denoise 0) _ denoise.1 in
    let heards = both (eqb rec.frame 0) _ frames.1 in
    let pieces = both (eqb rec.heard 0) _ heards.1 in
    let none = both (idle rec) _ pieces.1 in
    eqb-true rec.piece 0 (both (eqb rec.waiting 0) (eqb rec.piece 0) none.0).1

unfinished : (rec : Record) → in_range rec ≡ true → (rec.piece ≡ 0 → ⊥)
    → (1 ≤ rec.progress) × (rec.progress ≤ rec.piece)
unfolding in_range in_pieces under_way
unfinished rec e ne = go (eqb rec.due 0) refl
  where
    go : (t : Bool) → eqb rec.due 0 ≡ t → (1 ≤ rec.progress) × (rec.progress ≤ rec.piece)
    go true z = absurd (ne (shut rec (rw z at e)))
    go false z =
        let way = rw (ne_eqb rec.piece 0 ne) at (open_range rec (eqb-false rec.due 0 z) e).2 in
        let due = both (leb rec.piece 4096) _ way in
        let idle = both (eqb rec.due 3) _ due.1 in
        let begun = both (eqb rec.waiting 0) _ idle.1 in
        let within = both (leb 1 rec.progress) (leb rec.progress rec.piece) begun.1 in
        (leb-true 1 rec.progress within.0, leb-true rec.progress rec.piece within.1)

pub frame_known : FrameKnown
frame_known rec e ne =
    let u = unfinished rec e ne in
    (omega arith, omega arith, omega arith, omega arith, λ i v h q. (omega arith, omega arith))

-- ---- records under way pass

-- a resume of a piece under way gets through the gate
resume_due : (n side : ℕ) (rec : Record) (len size progress : ℕ) → side < n → len ≡ n * SHARE → rec.hearing.index ≤ 7
    → in_counts rec ≡ true
    → size ≤ 4096 → 1 ≤ progress → progress ≤ size → gate n side (holding 3 rec 0 size progress) len 6 ≡ 0
unfolding gate in_range in_counts in_pieces under_way is_due
resume_due n side rec len size progress h l i c few begun within =
    rw (
      lt-ltb side n h,
      eq-eqb len (n * SHARE) l,
      le-leb rec.hearing.index 7 i,
      c,
      ne_eqb size 0 (λ z. omega arith),
      le-leb size 4096 few,
      le-leb 1 progress begun,
      le-leb progress size within,
    )

-- ---- an accepted piece comes to its end

-- a frame further, as many waited
same_wait : (progress : ℕ) → waited_of (progress + 480) ≡ waited_of progress
same_wait progress = omega arith

-- the counts are the opening's, whatever frames make of the record
fitting_on : (rec after : Record) (lent : List Lent)
    → after.hearing.vad ≡ rec.hearing.vad → after.hearing.noise ≡ rec.hearing.noise
    → after.hearing.denoise ≡ rec.hearing.denoise
    → Fitting rec lent → Fitting after lent
fitting_on rec after [] a b c f = tt
fitting_on rec after (l ∷ more) a b c f = (f.0, rw (a, b, c) f.1, fitting_on rec after more a b c f.2)

counts_on : (rec : Record) (share xs : List Float) (l : Lent) → in_counts rec ≡ true
    → in_counts (rec_after rec share xs l) ≡ true
unfolding in_counts
counts_on rec share xs l c = c

module _ (n side : ℕ) (h : side < n) (store : List Float) (size : length store ≡ n * SHARE) (samples : List Float)
    (few : length samples ≤ 4096) (fine : good samples ≡ true) where
  comes : (lent : List Lent) (rec : Record) (reply : Reply) (share rest : List Float) (progress : ℕ) (w : Written)
      (held : List Float)
      → passed reply ≡ true → length share ≡ SHARE → rec.hearing.index ≤ 7 → in_counts rec ≡ true
      → drop progress samples ≡ drop 480 rest → 1 ≤ progress → progress + length rest ≡ length samples + 480
      → 480 * completes (waited_of progress) (length samples) ≤ length (over w held)
      → length lent ≡ length rest / 480 → Fitting rec lent
      → (d : Dictated) × Led n side samples
      (onward side store rec reply share rest (length samples) progress w) held lent d
  comes [] rec reply share rest progress w held p k i c same begun sum room m f =
      let q = ends side store rec reply share rest (length samples) progress w (omega arith) in
      (_, ended p (ap (λ (x : Effect Answer). x.answer.rec.piece) q))
  comes (l ∷ more) rec reply share rest progress w held p k i c same begun sum room m f =
      let out = over w held in
      let q = pauses side store rec reply share rest (length samples) progress w (omega arith) in
      let within : progress ≤ length samples = omega arith in
      let here = share_here n side h store size samples rec share rest l progress (length out) k same in
      let full = here_length n side h store size samples rec share rest l progress (length out) k same in
      let known : Known n side h store size samples rec share rest l progress (length out) k same =
      record {
        size = ap length (back n side h store size samples rec share rest l progress (length out) k same) ∙ full;
        inside = i;
        begun = begun;
        within = within;
        few = few;
        same = refl;
        taken = f.0 (first_in (first rec share rest l).written);
        room = room;
        places = refl;
        right = ap passed f.1;
        fine = fine;
      } in
      let long = length_put (share_of side) store here (omega arith) full ∙ size in
      let nx =
      admits n side h store size samples rec share rest l progress (length out) k same
      (resume_due n side rec (length (put (share_of side) store here))
      (length samples) progress h long i c few begun within) known in
      let y = halved n side h store size samples rec share rest l progress (length out) k same known in
      let s = second rec share rest l in
      let wide = fits_in n side h store size samples rec share rest l progress (length out) k same known in
      let stays : length (over (from (place progress) (first_in s.written)) out) ≡ length out =
      length_put (record { at = place progress; size = length (first_in s.written) }) out (first_in s.written)
      (omega (arith, y.fills)) refl in
      let ih =
      comes more (rec_after rec share rest l) s.answer (share_after rec share rest l) (drop 480 rest) (progress + 480)
      (from (place progress) (first_in s.written)) out
      y.passes (after_length rec share rest l k) (next_index_lem rec.hearing.index s.answer i)
      (counts_on rec share rest l c)
      (sym (drop-drop 480 progress samples) ∙ ap (drop 480) same)
      (omega arith) (omega (arith, length-drop 480 rest)) (rw (stays, same_wait progress) room)
      (omega (arith, length-drop 480 rest))
      (fitting_on rec (rec_after rec share rest l) more refl refl refl f.2) in
      let call : Effect Answer
      → Effect Answer = λ x. desk n side x.answer.rec x.kept
      (resume samples (l.logs (sums_in x)) l.model (length (output_of x held)) 22) in
      let o = onward side store rec reply share rest (length samples) progress w in
      let led : Led n side samples (next n side h store size samples rec share rest l progress (length out) k same)
      (output_of o held) more ih.0 =
      rw (ap (λ (x : Effect Answer). output_of x held) q) ih.1 in
      (_, paused p (sym (ap call q ∙ nx)) led)

pub comes_to_its_end : ComesToItsEnd
comes_to_its_end n side rec store samples held lent p m f =
    let t = piece_passed n side rec store samples (length held) 22 p in
    let k = t.1 in
    let side-and-store = through n side rec (length store) 5 t.0 in
    let clear = none n side rec (length store) 5 t.0 in
    let range =
    open_range rec (eqb-false rec.due 0 clear.1.1.1.0) (not-false (in_range rec) clear.1.1.0) in
    let share = get (share_of side) store in
    let ws = waiting_in rec.waiting share in
    let waited = waiting_length share k.size rec.waiting k.waits in
    let long : length (ws ++ samples) ≡ rec.waiting + length samples =
    length-append ws samples ∙ ap (λ (j : ℕ). j + length samples) waited in
    let sum : rec.waiting + (480 - rec.waiting) ≡ 480 = omega (arith, k.waits) in
    let same : drop (480 - rec.waiting) samples ≡ drop 480 (ws ++ samples) =
    sym (rw (waited, sum) at (drop-append-add ws samples (480 - rec.waiting))) in
    let room : 480 * completes (waited_of (480 - rec.waiting)) (length samples) ≤ length (over nothing held) =
    rw (over_none 0 held) (omega (arith, k.room, k.waits)) in
    rw t.2
    (comes n side side-and-store.0 store side-and-store.1 samples k.few k.fine
    lent rec Done (waits share []) (ws ++ samples) (480 - rec.waiting) nothing held refl
    (waits_length share k.size []) range.0 range.1 same (omega (arith, k.waits))
    (omega (arith, k.waits)) room (omega arith) f)

-- ---- what is accepted

let_piece : (n side : ℕ) (rec : Record) (len : ℕ) → side < n → len ≡ n * SHARE → in_range rec ≡ true → rec.due ≡ 1
    → gate n side rec len 5 ≡ 0
unfolding gate is_due
let_piece n side rec len h l r d = rw (lt-ltb side n h, eq-eqb len (n * SHARE) l, r, d)

pub accepts : Accepts
accepts n side rec store samples held h l r d some few room waited fine =
    let share = get (share_of side) store in
    let k : Piece share rec.waiting samples (length held) 22 =
    record {
      size = length_get (share_of side) store (omega arith);
      waits = (bounded rec r).waiting;
      some = some;
      few = few;
      room = room;
      places = refl;
      waited = waited;
      fine = fine;
    } in
    rw (
      let_through n side rec store (piece samples (length held) 22) (let_piece n side rec (length store) h l r d),
      piece_taken share rec.hearing.way rec.waiting samples (length held) 22 k,
      further_reply Done (waits share []) rec.hearing.way (waiting_in rec.waiting share ++ samples) nothing,
    )
