-- A feed, as the code calls it.
--     handed, unhanded            what comes of a take is handed out, or is not
--     sized, part_length, ready   the numbers of a feed that no row refuses
--     turned, shut, fed           a feed that the gate turns away, one that a row refuses, and one that is neither
-- Assumes nothing.
use Rattle.std.specs.Prelude.{◌-◌, ◌*◌, ◌≤◌, ◌<◌, ◌&&◌, ◌∷◌, ◌≡◌}
use Rattle.rules.proofs.Common.{ℕ, Bool, true, false, cond, not, true≢false, false≢true}
use Rattle.rules.proofs.Common.{List, [], refl, sym}
use Rattle.rules.proofs.Common.{ap, ap₂, ◌∙◌, leb, length, get_or, drop, length-take, Float, nan}
use native.Mathlib.Nat.{sub-zero}
use native.Mathlib.Omega.{arith}
use borrow.Author.Tests.{ne_eqb, leb-true}
use lib.ListN.{get_or-append, take as list-take}
use lib.Seq.{take_at}
use Rattle.rules.specs.F32.{at, part}
use Rattle.rules.specs.Place.{get, put}
use Rattle.rules.specs.Refusals.{◌when◌, refusing}
use Rattle.rules.specs.Tab.{tab}
use Rattle.frame.specs.Written.{from, over, at_front}
use Rattle.rules.proofs.Lists.{tab_same}
use Rattle.rules.proofs.Tests.{both}
use Rattle.frame.specs.Effect.{Effect, refusal, Worked, WorkedBoth}
use Rattle.frame.specs.Reply.{Refused}
use Rattle.frame.specs.Reply.{passed}
use Rattle.pieces.specs.Pieces.{completes, piece_fits}
use Rattle.desk.specs.Answer.{Answer}
use Rattle.desk.specs.declared.Record.{Record}
use Rattle.desk.specs.Gate.{PIECE, side_of, gate, share_of}
use Rattle.whole.specs.Whole.{lent_to_each, answers_of, take}
use Rattle.dictation.specs.Dictation.{dictated_on}
use Rattle.whole.proofs.Accepted.{fits_sizes}
use Rattle.whole.proofs.Dictations.{take_fills}
use Rattle.whole.proofs.Ranged.{take_by}
use Rattle.pcm.specs.Pcm.{unpacked, UnpackFits, packed}
use Rattle.sheet.specs.Sheet.{records_of}
use Rattle.feed.specs.Feed.{Block, ROOM, block_size, samples_of, frame_entry, frame_entries, fed_by, feed}
use Rattle.feed.specs.Private.{fitting, Ready}
use Rattle.feed.proofs.Blocks.{block_fits}

-- ---- a take

-- what stands at the front of a buffer to which these were written
module _ (k frame : ℕ) (xs held : List Float) {held' : List Float} (o : held' ≡ over (from 0 xs) held) where
  front_bytes : length xs ≡ 480 * k → packed (part 0 (480 * k) held') ≡ packed xs
  unfolding put
  front_bytes l = ap packed (rw (sub-zero (480 * k), o) (take_at xs (drop (length xs) held) (480 * k) l))

  front_entries : length xs ≡ 3 * k → tab k (λ j. frame_entry frame j (at held' (3 * j))) ≡ frame_entries frame xs
  unfolding put
  front_entries l =
      tab_same k _ _ (λ j h. ap (frame_entry frame j)
      (ap (λ (x : List Float). at x (3 * j)) o ∙ get_or-append xs (drop (length xs) held) nan (3 * j) (omega arith)))
      ∙ ap (λ (c : ℕ). tab c (λ j. frame_entry frame j (at xs (3 * j)))) (omega arith)

module _ (n side : ℕ) (rec : Record) (store samples : List Float) (model : List ℕ) {a : Answer}
    {s out out' told told' : List Float} {b : Bool} where
  module _ (w : Worked (take n side rec store samples model (length out) (length told)) a s (out ∷ told ∷ [])
      (out' ∷ told' ∷ [])) (e : b ≡ passed a.reply) where
    pub handed : b ≡ true → {own : ℕ} → own ≡ side_of side → (k : ℕ) → k ≡ completes rec.waiting (length samples)
        → {cleaned cleaned' records records' : List ℕ}
        → (cleaned' ≡ at_front (packed (part 0 (480 * k) out')) cleaned)
        × (records' ≡ at_front (records_of own (tab k (λ j. frame_entry rec.frame j (at told' (3 * j))))) records)
        → WorkedBoth (fed_by (side_of side) rec.frame (take n side rec store samples model (length out) (length told)))
        a s (told ∷ []) (told' ∷ [])
        (cleaned ∷ records ∷ []) (cleaned' ∷ records' ∷ [])
    handed p same k count {cleaned} {cleaned'} {records} {records'} h =
        take_by n side samples model rec store (length out) (length told)
        (λ o. Worked o a s (out ∷ told ∷ []) (out' ∷ told' ∷ [])
        → WorkedBoth (fed_by (side_of side) rec.frame o) a s (told ∷ []) (told' ∷ []) (cleaned ∷ records ∷ [])
        (cleaned' ∷ records' ∷ []))
        (λ q v.
        let d = dictated_on rec (get (share_of side) store) samples (lent_to_each rec samples model) in
        let f = take_fills n side rec store samples model (length out) (length told) q in
        let o : out' ≡ over (from 0 d.out) out = ap (λ (xs : List (List Float)). get_or xs 0 []) v.writes in
        let l : told' ≡ over (from 0 (answers_of d.told)) told =
        ap (λ (xs : List (List Float)). get_or xs 1 []) v.writes in
        let cleans = h.0 ∙ ap (λ (x : List ℕ). at_front x cleaned)
        (front_bytes k rec.frame d.out out o (f.0 ∙ ap (λ (m : ℕ). 480 * m) (sym count))) in
        let notes =
        h.1 ∙ ap (λ (x : ℕ). at_front (records_of x (tab k (λ j. frame_entry rec.frame j (at told' (3 * j))))) records)
        same
        ∙ ap (λ (x : List ℕ). at_front (records_of (side_of side) x) records)
        (front_entries k rec.frame (answers_of d.told) told l (f.1 ∙ ap (λ (m : ℕ). 3 * m) (sym count))) in
        record {
          floats = record { answers = v.answers; keeps = v.keeps; writes = ap (λ (x : List Float). x ∷ []) l };
          notes = ap₂ (λ (x y : List ℕ). x ∷ y ∷ []) cleans notes;
        })
        (λ q v. absurd (true≢false (sym p ∙ e ∙ ap (λ (x : Answer). passed x.reply) v.answers ∙ q)))
        w

    pub unhanded : b ≡ false → {cleaned records : List ℕ}
        → WorkedBoth (fed_by (side_of side) rec.frame (take n side rec store samples model (length out) (length told)))
        a s (told ∷ []) (told' ∷ []) (cleaned ∷ records ∷ []) (cleaned ∷ records ∷ [])
    unhanded p {cleaned} {records} =
        take_by n side samples model rec store (length out) (length told)
        (λ o. Worked o a s (out ∷ told ∷ []) (out' ∷ told' ∷ [])
        → WorkedBoth (fed_by (side_of side) rec.frame o) a s (told ∷ []) (told' ∷ []) (cleaned ∷ records ∷ [])
        (cleaned ∷ records ∷ []))
        (λ _ v. absurd (false≢true (sym p ∙ e ∙ ap (λ (x : Answer). passed x.reply) v.answers)))
        (λ q v. record {
          floats = record { answers = v.answers; keeps = v.keeps; writes = ap (drop 1) v.writes };
          notes = refl;
        })
        w

-- ---- the numbers

pub sized : (waiting size cleaned records answers : ℕ) → fitting waiting size cleaned records answers ≡ true
    → (waiting ≤ 479) × (1 ≤ size) × (size ≤ 4096) × (960 * completes waiting size ≤ cleaned)
    × (8 * completes waiting size ≤ records) × (3 * completes waiting size ≤ answers)
sized waiting size cleaned records answers e =
    let p = both (piece_fits waiting size ROOM 22) _ e in
    let q = both (leb (960 * completes waiting size) cleaned) _ p.1 in
    let r = both (leb (8 * completes waiting size) records) _ q.1 in
    let s = fits_sizes waiting size ROOM 22 p.0 in
    (s.0, s.1, s.2, leb-true _ cleaned q.0, leb-true _ records r.0, leb-true _ answers r.1)

-- a part of 4,096 places
pub part_length : (k : ℕ) (xs : List Float) → length xs ≡ 4096 → k ≤ 4096 → length (list-take (k - 0) xs) ≡ k
part_length k xs l h = simp length-take (omega arith)

pub ready : (waiting cleaned records answers : ℕ) {k size : ℕ} {r : Bool}
    → r ≡ fitting waiting k cleaned records answers → r ≡ true → size ≡ k
    → Ready waiting size cleaned records answers
ready waiting cleaned records answers {k} asked h same =
    let s = sized waiting k cleaned records answers (sym asked ∙ h) in
    rw same (record { few = omega (arith, s.0, s.2); room = s.3; places = s.4; told = s.5 })

-- ---- the rows

four : {A : Type 0} (p q r s t : Bool) (f : ℕ → A) (right : A) → (p && (q && (r && s))) ≡ t
    → refusing (5 when not p ∷ 5 when not q ∷ 5 when not r ∷ 5 when not s ∷ []) f right ≡ cond t right (f 5)
four true true true true t f right e = rw (← e)
four true true true false t f right e = rw (← e)
four true true false s t f right e = rw (← e)
four true false r s t f right e = rw (← e)
four false q r s t f right e = rw (← e)

module _ (n side : ℕ) (rec : Record) (store : List Float) (b : Block) (model cleaned records : List ℕ)
    (answers : List Float) where
  abbrev given : Effect Answer
  given = feed n side rec store b model (length cleaned) (length records) (length answers)

  -- a refusal leaves the three buffers
  abbrev Refuses : Effect Answer → ℕ → Type 0
  Refuses o r =
      WorkedBoth o (record { reply = Refused r; rec = rec }) store (answers ∷ []) (answers ∷ [])
      (cleaned ∷ records ∷ []) (cleaned ∷ records ∷ [])

  abbrev unfed : ℕ → Effect Answer
  unfed r = refusal (record { reply = Refused r; rec = rec }) store

  refuses : (r : ℕ) → Refuses (unfed r) r
  refuses r = record { floats = record { answers = refl; keeps = refl; writes = refl }; notes = refl }

  pub turned : {g : ℕ} → g ≡ gate n side rec (length store) PIECE → (g ≡ 0 → ⊥) → Refuses given g
  unfolding feed
  turned {g} e away = rw (← e, ne_eqb g 0 away) (refuses g)

  module _ (entered : gate n side rec (length store) PIECE ≡ 0) where
    behind : (t : Bool) → fitting rec.waiting (block_size b) (length cleaned) (length records) (length answers) ≡ t
        → given ≡ cond t (fed_by (side_of side) rec.frame
        (take n side rec store (samples_of b) model ROOM (length answers))) (unfed 5)
    unfolding feed
    behind t e =
        let frames = completes rec.waiting (block_size b) in
        rw entered
        (four (piece_fits rec.waiting (block_size b) ROOM 22) (leb (960 * frames) (length cleaned))
        (leb (8 * frames) (length records)) (leb (3 * frames) (length answers)) t
        unfed _ e)

    -- by what the code asked, where it has k for the samples of the block
    module _ {k : ℕ} {r : Bool} (e : k ≡ block_size b)
        (asked : r ≡ fitting rec.waiting k (length cleaned) (length records) (length answers)) where
      abbrev answer : {t : Bool} → fitting rec.waiting k (length cleaned) (length records) (length answers) ≡ t
          → fitting rec.waiting (block_size b) (length cleaned) (length records) (length answers) ≡ t
      answer h = ap (λ (m : ℕ). fitting rec.waiting m (length cleaned) (length records) (length answers)) (sym e) ∙ h

      pub shut : r ≡ false → Refuses given 5
      shut h = rw (behind false (answer (sym asked ∙ h))) (refuses 5)

      -- the block can be unpacked into as many places
      pub unpacks : r ≡ true → {size : ℕ} → size ≡ k
          → UnpackFits size (length b.bytes) b.format b.channels b.channel
      unpacks h same =
          let yes = sym asked ∙ h in
          let some : 0 < block_size b =
          omega (arith, e, (sized rec.waiting k (length cleaned) (length records) (length answers) yes).1) in
          rw (same ∙ e) (block_fits (length b.bytes) b.format b.channels b.channel some)

      -- where the code takes what it unpacked of the block
      pub fed : r ≡ true → {size : ℕ} → size ≡ k → {xs : List Float}
          → (UnpackFits size (length b.bytes) b.format b.channels b.channel
          → xs ≡ unpacked size b.bytes b.format b.channels b.channel)
          → {a : Answer} {s : List Float} {c d : List ℕ} {t : List Float}
          → WorkedBoth (fed_by (side_of side) rec.frame (take n side rec store xs model ROOM (length answers))) a s
          (answers ∷ []) (t ∷ []) (cleaned ∷ records ∷ []) (c ∷ d ∷ [])
          → WorkedBoth given a s (answers ∷ []) (t ∷ []) (cleaned ∷ records ∷ []) (c ∷ d ∷ [])
      fed h {size} same reads w = rw (behind true (answer (sym asked ∙ h))) (rw (reads (unpacks h same), same ∙ e) at w)
