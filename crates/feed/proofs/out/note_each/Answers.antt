-- `feed::out::note_each` meets its contract: entries, and their records. Assumes nothing.
use Rattle.std.specs.Prelude.{◌-◌, ◌*◌, ◌≤◌, ◌∷◌, ◌≡◌}
use Rattle.rules.proofs.Common.{ℕ, zero, suc, true, List, [], refl, ap, ◌∙◌, length, take}
use Rattle.rules.proofs.Common.{length-take, Float}
use native.Mathlib.Omega.{arith}
use borrow.Author.Tests.{le-ltb}
use Rattle.rules.specs.F32.{at}
use Rattle.rules.specs.Tab.{tab}
use Rattle.frame.specs.Written.{at_front}
use Rattle.sheet.specs.Sheet.{kind, records_of}
use Rattle.sheet.specs.Written.{known_kinds}
use Rattle.sheet.proofs.Reported.{kinds_both}
use Rattle.feed.specs.Feed.{frame_entry}
use Rattle.feed.proofs.Ranged.{entry_small}
use Rattle.feed.proofs.out.note_each.Goals as goal

-- entries as they are made are silent or heard
one_kind : (frame j : ℕ) (heard : Float) → kind (frame_entry frame j heard) ≤ 1
one_kind frame j heard = omega (arith, entry_small frame j heard)

all_kinds : (frame : ℕ) (f : ℕ → Float) (k : ℕ) → known_kinds (tab k (λ j. frame_entry frame j (f j))) ≡ true
unfolding tab known_kinds
all_kinds frame f zero = refl
all_kinds frame f (suc k) =
    kinds_both (tab k (λ j. frame_entry frame j (f j))) (frame_entry frame k (f k) ∷ []) (all_kinds frame f k)
    (rw (le-ltb 1 (kind (frame_entry frame k (f k))) (one_kind frame k (f k))))

-- a part of nine places
part_length : (k : ℕ) (xs : List ℕ) → length xs ≡ 9 → k ≤ 9 → length (take (k - 0) xs) ≡ k
part_length k xs l h = simp length-take (omega arith)

-- what is asked of entries that are so many
asked : {side frames : ℕ} (es records : List ℕ) → side ≤ 1 → frames ≤ 9 → 8 * frames ≤ length records
    → length es ≡ frames → known_kinds es ≡ true
    → (side ≤ 1) × (length es ≤ 9) × (8 * length es ≤ length records) × (known_kinds es ≡ true)
asked es records known few room e h = (known, rw e few, rw e room, h)

pub note_down-requires : goal.note_down-requires
note_down-requires c =
    let a = c.args in
    let many = part_length a.frames _ refl c.requires.1 in
    asked _ a.records.now c.requires.0 c.requires.1 c.requires.2 (c.note.auto.entries ∙ many)
    (ap known_kinds
    (c.note.ensures ∙ ap (λ (k : ℕ). tab k (λ j. frame_entry a.frame j (at a.answers.now (3 * j)))) many)
    ∙ all_kinds a.frame (λ j. at a.answers.now (3 * j)) a.frames)

pub returns : goal.returns
returns c =
    let a = c.args in
    let many = part_length a.frames _ refl c.requires.1 in
    c.note_down.ensures
    ∙ ap (λ (es : List ℕ). at_front (records_of a.side es) a.records.now)
    (c.note.ensures
    ∙ ap (λ (k : ℕ). tab k (λ j. frame_entry a.frame j (at a.answers.now (3 * j)))) many)
