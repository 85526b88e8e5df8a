-- Claims about a record and about one piece. Proofs: proofs/Cuts.antt, proofs/Resumes.antt.
use Rattle.std.specs.Prelude.{◌+◌, ◌*◌, ◌≤◌, ◌<◌, ◌∷◌, ◌≡◌}
use Rattle.rules.specs.Common.{ℕ, true, List, [], length, Float}
use Rattle.rules.specs.Place.{get}
use Rattle.frame.specs.Written.{from, over}
use Rattle.samples.specs.Samples.{good}
use Rattle.model.specs.Model.{read_of}
use Rattle.frame.specs.Reply.{Done, passed}
use Rattle.frame.specs.Frame.{counted, checked}
use Rattle.frame.specs.Share.{SHARE}
use Rattle.pieces.specs.Pieces.{waiting_in, completes, frame_at, waited_of}
use Rattle.desk.specs.declared.Record.{Record}
use Rattle.desk.specs.Gate.{share_of, in_range}
use Rattle.dictation.specs.Dictation.{Lent, Dictated, dictated}
use Rattle.dictation.specs.Cutting.{handed_in, Led}

-- A record in range with an unfinished piece says which frame is under way and how many samples waited, and
-- no other two numbers fit it.
abbrev pub FrameKnown : Type 0
FrameKnown =
    (rec : Record) → in_range rec ≡ true → (rec.piece ≡ 0 → ⊥)
    → let j = frame_at rec.progress in let w = waited_of rec.progress in
    (1 ≤ j) × (j ≤ completes w rec.piece) × (w ≤ 479) × (w + rec.progress ≡ 480 * j)
    × ((i v : ℕ) → v ≤ 479 → v + rec.progress ≡ 480 * i → (i ≡ j) × (v ≡ w))

-- If call 1 is due, a piece is accepted: 1 to 4,096 good samples, good samples waiting, and room for the
-- frames that they complete.
abbrev pub Accepts : Type 0
Accepts =
    (n side : ℕ) (rec : Record) (store samples held : List Float)
    → side < n → length store ≡ n * SHARE → in_range rec ≡ true → rec.due ≡ 1
    → 1 ≤ length samples → length samples ≤ 4096 → 480 * completes rec.waiting (length samples) ≤ length held
    → good (waiting_in rec.waiting (get (share_of side) store)) ≡ true → good samples ≡ true
    → (handed_in n side rec store samples held).answer.reply ≡ Done

-- A piece that is resumed to its end has as many frames as it completes. They fill its output from the front,
-- and the places after them stay.
abbrev pub FillsFront : Type 0
FillsFront =
    (n side : ℕ) (rec : Record) (store samples held : List Float) (lent : List Lent) (d : Dictated)
    → Led n side samples (handed_in n side rec store samples held) held lent d
    → let e = dictated side rec store samples lent in
    (length lent ≡ completes rec.waiting (length samples)) × (length e.out ≡ 480 * length lent)
    × (d ≡ record { rec = e.rec; kept = e.kept; told = e.told; out = over (from 0 e.out) held })

-- Each frame is lent 22 logarithms, and a model that reads and has the GRU sizes that the opening noted.
abbrev pub Fitting : Record → List Lent → Type 0
Fitting rec [] = Unit
Fitting rec (l ∷ more) =
    ((sums : List Float) → length (l.logs sums) ≡ 22) × (checked (counted rec.hearing) (read_of l.model) ≡ Done)
    × Fitting rec more

-- A piece that is accepted comes to its end: with the same samples and output, and what fits each frame, no
-- resume is refused. So it is a cut, by `last`, and what the law of cutting asks for can be met.
abbrev pub ComesToItsEnd : Type 0
ComesToItsEnd =
    (n side : ℕ) (rec : Record) (store samples held : List Float) (lent : List Lent)
    → passed (handed_in n side rec store samples held).answer.reply ≡ true
    → length lent ≡ completes rec.waiting (length samples) → Fitting rec lent
    → (d : Dictated) × Led n side samples (handed_in n side rec store samples held) held lent d
