-- Refusals 1 to 4: the tests that come before a call may look at a share. Stated for any number of benches.
use Rattle.std.specs.Prelude.{◌*◌, ◌%◌, ◌&&◌, ◌∷◌}
use Rattle.rules.specs.Common.{ℕ, Bool, true, cond, not, List, [], eqb, leb, ltb}
use Rattle.rules.specs.Refusals.{Row, ◌when◌, refusing}
use Rattle.rules.specs.Place.{Place}
use Rattle.frame.specs.Share.{SHARE}
use Rattle.frame.specs.declared.Way.{Way}
use Rattle.frame.specs.declared.Way.TheVariants.{Own, Nnnoiseless}
use Rattle.desk.specs.declared.Record.{Record}

abbrev pub BENCHES : ℕ
BENCHES = 16

-- The side of a bench: even benches are left (0), odd ones right (1).
abbrev pub side_of : ℕ → ℕ
side_of bench = bench % 2

-- The share of a bench, as a place of the store.
abbrev pub share_of : ℕ → Place
share_of side = record { at = side * SHARE; size = SHARE }

-- No samples wait, and no piece is unfinished.
unfoldable pub idle : Record → Bool
idle rec = eqb rec.waiting 0 && eqb rec.piece 0

-- The number of a way: 0 for our own lag and plain sums, 1 for nnnoiseless's finder and fast transforms.
abbrev pub way_number : Way → ℕ
way_number Own = 0
way_number Nnnoiseless = 1

-- Every number of the record but `due` is 0: the cepstral index, the GRU sizes, both frame counts, what a
-- piece leaves, and the way.
unfoldable pub all_zero : Record → Bool
all_zero rec =
    eqb rec.hearing.index 0
    && (eqb rec.hearing.vad 0
    && (eqb rec.hearing.noise 0 && (eqb rec.hearing.denoise 0 && (eqb rec.frame 0 && (eqb rec.heard 0
    && (idle rec && (eqb rec.progress 0 && eqb (way_number rec.hearing.way) 0)))))))

-- A GRU size is 1 to 127.
abbrev pub in_count : ℕ → Bool
in_count n = leb 1 n && leb n 127

unfoldable pub in_counts : Record → Bool
in_counts rec = in_count rec.hearing.vad && (in_count rec.hearing.noise && in_count rec.hearing.denoise)

-- No piece is unfinished; and if samples wait, there are at most 479 and call 1 is due (request 12).
unfoldable pub resting : Record → Bool
resting rec = eqb rec.progress 0 && cond (eqb rec.waiting 0) true (leb rec.waiting 479 && eqb rec.due 1)

-- A piece is unfinished: call 3 is due, nothing waits, and 1 or more of the piece's samples, at most all, are
-- in frames.
unfoldable pub under_way : Record → Bool
under_way rec =
    leb rec.piece 4096
    && (eqb rec.due 3 && (eqb rec.waiting 0 && (leb 1 rec.progress && leb rec.progress rec.piece)))

unfoldable pub in_pieces : Record → Bool
in_pieces rec = cond (eqb rec.piece 0) (resting rec) (under_way rec)

-- A record is in range if it is closed and all zeros, or open and within its limits.
unfoldable pub in_range : Record → Bool
in_range rec =
    cond (eqb rec.due 0) (all_zero rec)
    (leb rec.due 4 && (leb rec.hearing.index 7 && (in_counts rec && in_pieces rec)))

-- The numbers of calls: an opening is 0, the calls of a frame are 1 to 4, then come a piece and a resume.
abbrev pub PIECE : ℕ
PIECE = 5

abbrev pub RESUME : ℕ
RESUME = 6

-- Refusals 3 and 4 apply to every call but an opening.
abbrev pub not_opening : ℕ → Bool
not_opening call = not (eqb call 0)

-- When a call is due: a piece when call 1 is; a resume while a piece is unfinished; a call of a frame when
-- the record names it and nothing waits or is unfinished.
unfoldable pub is_due : Record → ℕ → Bool
is_due rec call =
    cond (eqb call PIECE) (eqb rec.due 1)
    (cond (eqb call RESUME) (not (eqb rec.piece 0)) (eqb rec.due call && idle rec))

-- The table of refusals for a call on this side, with this record and a store of this length.
abbrev pub refusals : ℕ → ℕ → Record → ℕ → ℕ → List Row
refusals benches side rec len call =
    1 when not (ltb side benches)
    ∷ 2 when not (eqb len (benches * SHARE))
    ∷ 2 when not (in_range rec)
    ∷ 3 when (not_opening call && eqb rec.due 0)
    ∷ 4 when (not_opening call && not (is_due rec call))
    ∷ []

-- The first refusal that applies, or 0.
unfoldable pub gate : ℕ → ℕ → Record → ℕ → ℕ → ℕ
gate benches side rec len call = refusing (refusals benches side rec len call) (λ n. n) 0
