-- For the parts of the code.
use Rattle.std.specs.Prelude.{◌+◌, ◌*◌, ◌≤◌, ◌&&◌}
use Rattle.rules.specs.Common.{ℕ, Bool, leb}
use Rattle.pieces.specs.Pieces.{completes, piece_fits}
use Rattle.feed.specs.Feed.{ROOM}

-- no row of 5 refuses a block of so many samples
abbrev pub fitting : ℕ → ℕ → ℕ → ℕ → ℕ → Bool
fitting waiting size cleaned records answers =
    let frames = completes waiting size in
    piece_fits waiting size ROOM 22
    && (leb (960 * frames) cleaned && (leb (8 * frames) records && leb (3 * frames) answers))

-- nothing refuses so many samples but the take: so many wait before them; the lengths of what is lent
pub record Ready (waiting size cleaned records answers : ℕ) : Type 0 where
  pub few : waiting + size ≤ 4575
  pub room : 960 * completes waiting size ≤ cleaned
  pub places : 8 * completes waiting size ≤ records
  pub told : 3 * completes waiting size ≤ answers
