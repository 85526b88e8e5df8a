-- The law of cutting. A piece that is resumed to its end is the dictation of its samples, by induction over its frames;
-- a row of pieces is the dictation of all samples, by the law that a dictation can be broken off and gone on with.
-- Assumes nothing.
use Rattle.std.specs.Prelude.{◌+◌, ◌-◌, ◌*◌, ◌/◌, ◌≤◌, ◌<◌, ◌∷◌, ◌++◌, ◌≡◌}
use Rattle.rules.proofs.Common.{ℕ, Bool, true, false, cond, List, []}
use Rattle.rules.proofs.Common.{refl, sym, ap, ap₂, subst, ◌∙◌, ltb}
use Rattle.rules.proofs.Common.{length, take, drop, length-drop, length-append, Float}
use native.Mathlib.Omega.{arith}
use mathlib.Core.List.{append_assoc}
use borrow.Author.Tests.{ltb-true, ltb-false}
use lib.Seq.{take_at, drop-drop, drop-append-add}
use Rattle.rules.specs.Place.{get, put}
use Rattle.rules.proofs.Places.{length_put}
use Rattle.frame.specs.Written.{Written, from, nothing, numbers_in, over, first_in}
use Rattle.frame.proofs.Buffers.{over_none, over_next}
use Rattle.desk.specs.Answer.{Answer}
use Rattle.frame.specs.Effect.{Effect}
use Rattle.frame.specs.Reply.{Reply, Done, passed}
use Rattle.frame.specs.Share.{SHARE}
use Rattle.pieces.specs.Pieces.{waiting_in, waits, completes}
use Rattle.pieces.proofs.Accepted.{Piece}
use Rattle.pieces.proofs.Shares.{waiting_length, waits_length}
use Rattle.desk.specs.declared.Record.{Record}
use Rattle.desk.specs.Gate.{share_of, gate}
use Rattle.desk.specs.Desk.{resume, holding, carried, desk}
use Rattle.dictation.specs.Dictation.{Lent, Told, Dictated, dictate, dictated}
use Rattle.dictation.specs.Cutting.{handed_in, output_of, sums_in, Led, ended, paused, Cut, last, more, Cutting}
use Rattle.dictation.specs.Resuming.{FillsFront}
use Rattle.desk.proofs.Turned.{through}
use Rattle.dictation.proofs.Joins.{second, share_after, rec_after, told_there, framed, dictate_more, dictate_none}
use Rattle.dictation.proofs.Joins.{after_length, share_size, washed, then, again, rejoin}
use Rattle.dictation.proofs.Taken.{onward, first_onward, ends, pauses, begins, piece_passed, resume_passed}
use Rattle.dictation.proofs.Follows.{place, own_back, own_own, following, fits_in, halved, follows}

-- what is resumed to its end was not refused
pub passes : {n side : ℕ} {samples : List Float} {o : Effect Answer} {held : List Float} {lent : List Lent}
    {d : Dictated} → Led n side samples o held lent d
    → passed o.answer.reply ≡ true
passes (ended p z) = p
passes (paused p e led) = p

-- a dictation of a share, on a side of a store, its output written from place k on
abbrev from_place : ℕ → ℕ → List Float → Dictated → List Float → Dictated
from_place k side store d held =
    record {
      rec = d.rec;
      kept = put (share_of side) store d.kept;
      told = d.told;
      out = over (from k d.out) held;
    }

-- what is written behind a frame, and the frame
in_front : (told : Told) (k side : ℕ) (store ys held held' : List Float) (d : Dictated) → length ys ≡ 480
    → k ≤ length held → held ≡ held'
    → framed told [] (from_place (k + 480) side store d (over (from k ys) held))
    ≡ from_place k side store (framed told ys d) held'
in_front told k side store ys held held' d full room e = rw (over_next k 480 ys d.out held full room, e)

three : {a a' : List Float} {b b' : Reply} {c c' : Record} → a ≡ a' → b ≡ b' → c ≡ c'
    → ◌≡◌ {A = Told} (a, b, c) (a', b', c')
three p q r = rw (p, q, r)

-- behind a pause the record has moved on alike
moved : (rec : Record) (rest size progress : ℕ) → holding 1 (carried rec rest size progress) 0 0 0 ≡ holding 1 rec 0 0 0
unfolding carried
moved rec rest size progress = go (ltb rest 480)
  where
    go : (t : Bool) → holding 1 (cond t (holding 1 rec rest 0 0) (holding 3 rec 0 size progress)) 0 0 0
        ≡ holding 1 rec 0 0 0
    go true = refl
    go false = refl

-- a dictation of a share, on a side of a store
abbrev placed : ℕ → List Float → Dictated → Dictated
placed side store d = record { rec = d.rec; kept = put (share_of side) store d.kept; told = d.told; out = d.out }

-- the same resumes with an output of so many places, by what each of them hands out
pub data Row (n side : ℕ) (samples : List Float) (room : ℕ) : Effect Answer → List Lent → Dictated → Type 0 where
  row_end : {o : Effect Answer} → passed o.answer.reply ≡ true
      → Row n side samples room o [] (record { rec = o.answer.rec; kept = o.kept; told = []; out = [] })
  row_more : {o next : Effect Answer} {l : Lent} {more : List Lent} {d : Dictated} → passed o.answer.reply ≡ true
      → next ≡ desk n side o.answer.rec o.kept (resume samples (l.logs (sums_in o)) l.model room 22)
      → Row n side samples room next more d
      → Row n side samples room o (l ∷ more) (record {
        rec = d.rec;
        kept = d.kept;
        told = (sums_in o, next.answer.reply, holding 1 next.answer.rec 0 0 0) ∷ d.told;
        out = first_in next.written ++ d.out;
      })

pub row_passes : {n side : ℕ} {samples : List Float} {room : ℕ} {o : Effect Answer} {lent : List Lent} {d : Dictated}
    → Row n side samples room o lent d
    → passed o.answer.reply ≡ true
row_passes (row_end p) = p
row_passes (row_more p e rest) = p

-- ---- the rest of a piece, resumed to its end, is the dictation of the rest

-- a call on the rest of a piece, by what follows it: with none unfinished the rest is too short for a frame, and what
-- is resumed has begun one
module _ (n side : ℕ) (store samples : List Float) (some : 1 ≤ length samples) where
  module _ (o : Effect Answer) (rec : Record) (reply : Reply) (share rest : List Float) (progress : ℕ) (w : Written)
      (e : o ≡ onward side store rec reply share rest (length samples) progress w) where
    pub short : o.answer.rec.piece ≡ 0 → length rest < 480
    short z = go (ltb (length rest) 480) refl
      where
        go : (t : Bool) → ltb (length rest) 480 ≡ t → length rest < 480
        go true f = ltb-true (length rest) 480 f
        go false f =
            let q = e ∙ pauses side store rec reply share rest (length samples) progress w
            (ltb-false (length rest) 480 f) in
            let z' : length samples ≡ 0 = rw q at z in
            absurd (omega arith)

    pub long : (logs : List Float) (model : List ℕ) (room : ℕ)
        → passed (desk n side o.answer.rec o.kept (resume samples logs model room 22)).answer.reply ≡ true
        → 480 ≤ length rest
    long logs model room p = go (ltb (length rest) 480) refl
      where
        go : (t : Bool) → ltb (length rest) 480 ≡ t → 480 ≤ length rest
        go false f = ltb-false (length rest) 480 f
        go true f =
            let there = put (share_of side) store (waits share rest) in
            let q =
            e ∙ ends side store rec reply share rest (length samples) progress w (ltb-true (length rest) 480 f) in
            let t =
            resume_passed n side (holding 1 rec (length rest) 0 0) there samples logs model room 22 (rw q at p) in
            absurd (omega (arith, t.1.begun))

module _ (n side : ℕ) (h : side < n) (store : List Float) (size : length store ≡ n * SHARE) (samples : List Float)
    (some : 1 ≤ length samples) where
  whole : {o : Effect Answer} {held : List Float} {lent : List Lent} {d : Dictated} → Led n side samples o held lent d
      → (rec : Record) (reply : Reply) (share rest : List Float) (progress : ℕ) (w : Written)
      → o ≡ onward side store rec reply share rest (length samples) progress w
      → length share ≡ SHARE → drop progress samples ≡ drop 480 rest → 1 ≤ progress
      → (length lent ≡ length rest / 480) × (length (dictate rec share rest lent).out ≡ 480 * length lent)
      × (d ≡ from_place (place progress) side store (dictate rec share rest lent) (over w held))
      × ((room : ℕ) → length (over w held) ≡ room
      → Row n side samples room o lent (placed side store (dictate rec share rest lent)))
  whole (ended {o = o} {held = held} p z) rec reply share rest progress w e k same begun =
      let little = short n side store samples some o rec reply share rest progress w e z in
      let q = e ∙ ends side store rec reply share rest (length samples) progress w little in
      let none = dictate_none rec share rest in (
        omega arith,
        ap (λ (x : Dictated). length x.out) none,
        rw (q, none, over_none (place progress) (over w held)),
        λ room r. rw (q, none) (row_end (rw q at p)),
      )
  whole (paused {o = o} {next = after} {held = held} {l = l} {more = ms} {d = d} p en led) rec reply share rest progress
      w e k same begun =
      let enough =
      long n side store samples some o rec reply share rest progress w e (l.logs (sums_in o)) l.model
      (length (output_of o held)) (rw en at (passes led)) in
      let q = e ∙ pauses side store rec reply share rest (length samples) progress w enough in
      let out = over w held in
      let written : output_of o held ≡ out = ap (λ (x : Effect Answer). output_of x held) q in
      let en' : after ≡ following n side h store size samples rec share rest l progress (length out) k same =
      rw q at en in
      let g =
      follows n side h store size samples rec share rest l progress (length out) k same (rw en' at (passes led)) in
      let nx = en' ∙ g.1 in
      let fit = fits_in n side h store size samples rec share rest l progress (length out) k same g.0 in
      let full = (halved n side h store size samples rec share rest l progress (length out) k same g.0).fills in
      let y = second rec share rest l in
      let rec' = rec_after rec share rest l in
      let share' = share_after rec share rest l in
      let ih =
      whole led rec' y.answer share' (drop 480 rest) (progress + 480)
      (from (place progress) (first_in y.written)) nx (after_length rec share rest l k)
      (sym (drop-drop 480 progress samples) ∙ ap (drop 480) same) (omega arith) in
      let d' = dictate rec' share' (drop 480 rest) ms in
      let said : after.answer.reply ≡ y.answer = ap (λ (x : Effect Answer). x.answer.reply) nx in
      let noted : holding 1 after.answer.rec 0 0 0 ≡ rec' =
      ap (λ (x : Effect Answer). holding 1 x.answer.rec 0 0 0) nx
      ∙ moved rec' (length (drop 480 rest)) (length samples) (progress + 480) in
      let further : place (progress + 480) ≡ place progress + 480 = omega arith in
      let more = dictate_more rec share rest l ms in
      let filled : length (first_in y.written ++ d'.out) ≡ 480 * length (l ∷ ms) =
      length-append (first_in y.written) d'.out ∙ omega (arith, full, ih.1) in
      let behind =
      ih.2 ∙ ap (λ (j : ℕ). from_place j side store d'
      (over (from (place progress) (first_in y.written)) (output_of o held))) further in (
        omega (arith, ih.0, length-drop 480 rest, enough),
        ap (λ (x : Dictated). length x.out) more ∙ filled,
        ap₂ (λ (t : Told) (x : Dictated). framed t [] x) (three (ap sums_in q) said noted) behind
            ∙ in_front (told_there rec share rest l) (place progress) side store (first_in y.written)
            (output_of o held) out d' full (omega (arith, ap length written)) written
            ∙ ap (λ (x : Dictated). from_place (place progress) side store x out) (sym more),
        λ room r.
            let ys = first_in y.written in
            let gave : first_in after.written ≡ ys =
            ap (λ (x : Effect Answer). first_in x.written) nx
            ∙ ap numbers_in (first_onward side store rec' y.answer share' (drop 480 rest) (length samples)
            (progress + 480) (from (place progress) ys)) in
            let wide : length (over (from (place progress) ys) (output_of o held)) ≡ room =
            length_put (record { at = place progress; size = length ys }) (output_of o held) ys
            (omega (arith, fit, full, ap length written)) refl ∙ ap length written ∙ r in
            let asked =
            en ∙ ap (λ (m : ℕ). desk n side o.answer.rec o.kept
            (resume samples (l.logs (sums_in o)) l.model m 22)) (ap length written ∙ r) in
            subst (Row n side samples room o (l ∷ ms))
            (ap₂
            (λ (t : Told) (x : List Float). record {
              rec = d'.rec;
              kept = put (share_of side) store d'.kept;
              told = t ∷ d'.told;
              out = x ++ d'.out;
            })
            (three (ap sums_in q) said noted) gave
            ∙ ap (placed side store) (sym more))
            (row_more p asked (ih.3 room wide)),
      )

-- ---- a piece, from its beginning

module _ (n side : ℕ) (rec : Record) (store samples held : List Float) (lent : List Lent) (d : Dictated)
    (led : Led n side samples (handed_in n side rec store samples held) held lent d) where
  abbrev share : List Float
  share = get (share_of side) store

  abbrev all : List Float
  all = waiting_in rec.waiting share ++ samples

  abbrev took : (gate n side rec (length store) 5 ≡ 0) × Piece share rec.waiting samples (length held) 22
      × (handed_in n side rec store samples held ≡ begins n side rec store samples (length held) 22)
  took = piece_passed n side rec store samples (length held) 22 (passes led)

  right : side < n
  right = (through n side rec (length store) 5 took.0).0

  fits : length store ≡ n * SHARE
  fits = (through n side rec (length store) 5 took.0).1

  all_length : length all ≡ rec.waiting + length samples
  all_length =
      let k = took.1 in
      length-append (waiting_in rec.waiting share) samples
      ∙ ap (λ (m : ℕ). m + length samples) (waiting_length share k.size rec.waiting k.waits)

  whole_piece : let e = dictated side rec store samples lent in
      (length lent ≡ completes rec.waiting (length samples)) × (length e.out ≡ 480 * length lent)
      × (d ≡ record { rec = e.rec; kept = e.kept; told = e.told; out = over (from 0 e.out) held })
      × Row n side samples (length held) (handed_in n side rec store samples held) lent
      (dictated side rec store samples lent)
  whole_piece =
      let k = took.1 in
      let sum : rec.waiting + (480 - rec.waiting) ≡ 480 = omega (arith, k.waits) in
      let same : drop (480 - rec.waiting) samples ≡ drop 480 all =
      sym (rw (waiting_length share k.size rec.waiting k.waits, sum) at
      (drop-append-add (waiting_in rec.waiting share) samples (480 - rec.waiting))) in
      let t =
      whole n side right store fits samples k.some led rec Done (waits share []) all (480 - rec.waiting) nothing
      took.2 (waits_length share k.size []) same
      (omega (arith, k.waits)) in
      let front : place (480 - rec.waiting) ≡ 0 = omega (arith, k.waits) in
      let clean = washed rec share [] all lent k.size in (
        t.0 ∙ ap (λ (m : ℕ). m / 480) all_length,
        rw clean at t.1,
        t.2 ∙ rw (front, clean, over_none 0 held),
        rw clean at (t.3 (length held) (ap length (over_none 0 held))),
      )

pub fills_front : FillsFront
fills_front n side rec store samples held lent d led = let t = whole_piece n side rec store samples held lent d led in
    (t.0, t.1, t.2)

pub in_a_row : (n side : ℕ) (rec : Record) (store samples held : List Float) (lent : List Lent) (d : Dictated)
    → Led n side samples (handed_in n side rec store samples held) held lent d
    → Row n side samples (length held) (handed_in n side rec store samples held) lent
    (dictated side rec store samples lent)
in_a_row n side rec store samples held lent d led = (whole_piece n side rec store samples held lent d led).3

-- ---- a row of pieces

-- of the output that a piece leaves, what its frames filled
pub filled : (m : ℕ) (ys held : List Float) → length ys ≡ m → take m (over (from 0 ys) held) ≡ ys
unfolding put
filled m ys held e = take_at ys (drop (length ys) held) m e

-- and what comes of a piece, with that
abbrev fillings : List Lent → Dictated → Dictated
fillings ls d = record { rec = d.rec; kept = d.kept; told = d.told; out = take (480 * length ls) d.out }

fillings_whole : (n side : ℕ) (rec : Record) (store xs held : List Float) (ls : List Lent) (d : Dictated)
    → Led n side xs (handed_in n side rec store xs held) held ls d → fillings ls d ≡ dictated side rec store xs ls
fillings_whole n side rec store xs held ls d led =
    let t = whole_piece n side rec store xs held ls d led in
    rw (t.2, filled (480 * length ls) (dictated side rec store xs ls).out held t.1)

cut : {n side : ℕ} {rec : Record} {store samples : List Float} {lent : List Lent} {d : Dictated}
    → Cut n side rec store samples lent d
    → d ≡ dictated side rec store samples lent
cut (last {rec = rec} {store = store} {xs = xs} {held = held} {ls = ls} {d = d} led) =
    fillings_whole _ _ rec store xs held ls d led
cut {n = n} {side = side}
    (more {rec = rec} {store = store} {xs = xs} {ys = ys} {held = held} {ls = ls} {ms = ms} {d = d} {e = e} led r) =
    let t = whole_piece n side rec store xs held ls d led in
    let k = (took n side rec store xs held ls d led).1 in
    let h = right n side rec store xs held ls d led in
    let size = fits n side rec store xs held ls d led in
    let xs' = all n side rec store xs held ls d led in
    let long = all_length n side rec store xs held ls d led in
    let its = get (share_of side) store in
    let o = dictate rec its xs' ls in
    let whole = share_size rec its xs' ls k.size in
    let rest : e ≡ placed side store (again o ys ms) =
    rw (t.2, own_back n side h store size o.kept whole, own_own n side h store size o.kept whole) at (cut r) in
    let joined = rejoin rec its xs' ys ls ms k.size (omega (arith, t.0)) (omega (arith, t.0)) in
    let all_of : placed side store (then o (again o ys ms)) ≡ dictated side rec store (xs ++ ys) (ls ++ ms) =
    rw (← append_assoc (waiting_in rec.waiting its) xs ys) (ap (placed side store) (sym joined)) in
    ap (λ (x : Dictated). then x e) (fillings_whole n side rec store xs held ls d led)
    ∙ ap (then (placed side store o)) rest ∙ all_of

pub cutting : Cutting
cutting n side rec store samples lent d d' r r' = (cut r, cut r ∙ sym (cut r'))
