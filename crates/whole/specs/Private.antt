-- For the contracts of private functions: what dictation on one share asks for, and one frame of it.
use Rattle.std.specs.Prelude.{◌+◌, ◌*◌, ◌≤◌, ◌++◌, ◌≡◌}
use Rattle.rules.specs.Common.{ℕ, true, List, length, take, drop, Float}
use Rattle.samples.specs.Samples.{good}
use Rattle.model.specs.Model.{read_of}
use Rattle.frame.specs.Effect.{Effect}
use Rattle.frame.specs.Frame.{counted, checked}
use Rattle.frame.specs.Reply.{passed}
use Rattle.frame.specs.Share.{SHARE}
use Rattle.pieces.specs.Pieces.{waiting_in}
use Rattle.desk.specs.Answer.{Answer}
use Rattle.desk.specs.declared.Record.{Record}
use Rattle.dictation.specs.Dictation.{frame_on}
use Rattle.whole.specs.Whole.{our_lent}

-- A record, a share and a model with which no frame is refused.
pub record Fit (rec : Record) (share : List Float) (model : List ℕ) : Type 0 where
  pub whole : length share ≡ SHARE
  pub index : rec.hearing.index ≤ 7
  pub right : passed (checked (counted rec.hearing) (read_of model)) ≡ true

-- Samples, `waiting` of which are in the share, with room for this many frames.
pub record Ready (waiting : ℕ) (share piece : List Float) (frames out answers : ℕ) : Type 0 where
  pub few : waiting ≤ 479
  pub short : length piece ≤ 4096
  pub enough : 480 * frames ≤ waiting + length piece
  pub room : 480 * frames ≤ out
  pub places : 3 * frames ≤ answers
  pub fine : good (waiting_in waiting share ++ piece) ≡ true

-- Frame j of these samples, counted from 0.
abbrev pub frame_of : ℕ → ℕ → Record → List Float → List Float → List ℕ → Effect Answer
frame_of j waiting rec share piece model =
    frame_on rec share (take 480 (drop (480 * j) (waiting_in waiting share ++ piece))) (our_lent model)
