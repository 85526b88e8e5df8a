-- The four calls of a frame, and which of them a call of the desk is made of: a half is made of two, a piece and a
-- resume are made of halves.
use Rattle.std.specs.Prelude.{◌∷◌, ◌++◌}
use Rattle.rules.specs.Common.{ℕ, Bool, cond, List, [], ltb, length, take, drop, Float}
use Rattle.rules.specs.Place.{get}
use Rattle.frame.specs.Written.{first_in}
use Rattle.lag.specs.Lag.{own_lag}
use Rattle.frame.specs.Share.{input_mem}
use Rattle.frame.specs.Reply.{passed, is_heard, Reply}
use Rattle.frame.specs.declared.Way.{Way}
use Rattle.frame.specs.Frame.{done1}
use Rattle.halves.specs.Ways.{lag_by, forward_by}
use Rattle.halves.specs.Halves.{looked_back}
use Rattle.halves.specs.Halves as halves
use Rattle.pieces.specs.Pieces.{frame_part, waiting_in}
use Rattle.desk.specs.declared.Record.{Record}
use Rattle.desk.specs.Desk.{Ask, opening, call1, call2, call2_own, call3, call4, first_half, second_half, piece, resume}

-- A call of a frame, with those of its arguments that a bench remembers something of.
pub data FrameCall : Type 0 where
  -- Call 1: it takes the samples.
  one : FrameCall
  -- Call 2: it takes the spectrum of the window, and the lag.
  two : (spectrum : List Float) (lag : ℕ) → FrameCall
  -- Call 3, heard or silent: it takes the second spectrum, the logarithms and the model.
  three : (heard : Bool) (spectrum logs : List Float) (model : List ℕ) → FrameCall
  -- Call 4: it gives the cleaned samples.
  four : FrameCall

-- The calls of a first half, in the bench's way. `part` is the part of the share that belongs to a frame.
abbrev pub first_calls : Way → List Float → List Float → List FrameCall
first_calls way part x = let a = done1 part x in
    one ∷ two (forward_by way (first_in a.written)) (lag_by way a.kept) ∷ []

-- The calls of a second half.
abbrev pub second_calls : Way → List Float → Bool → List Float → List ℕ → List FrameCall
second_calls way part heard logs m = three heard (forward_by way (looked_back part)) logs m ∷ four ∷ []

-- The calls that the rest of a piece makes: none if fewer than 480 samples are left, which then wait; otherwise the
-- first half of the next frame.
abbrev pub rest_calls : Way → List Float → List Float → List FrameCall
rest_calls way part rest = cond (ltb (length rest) 480) [] (first_calls way part (take 480 rest))

-- The calls that a call of the desk is made of, if it is done, and is heard or not.
abbrev pub calls_of : Record → List Float → Ask → Bool → List FrameCall
calls_of rec share (opening w m) heard = []
calls_of rec share (call1 x w) heard = one ∷ []
calls_of rec share (call2 x lag w s) heard = two x lag ∷ []
calls_of rec share (call2_own x w s) heard = two x (own_lag (get input_mem (get frame_part share))) ∷ []
calls_of rec share (call3 x logs m o) heard = three heard x logs m ∷ []
calls_of rec share (call4 x o) heard = four ∷ []
calls_of rec share (first_half x s) heard = first_calls rec.hearing.way (get frame_part share) x
calls_of rec share (second_half logs m o) heard = second_calls rec.hearing.way (get frame_part share) heard logs m
calls_of rec share (piece x o s) heard =
    rest_calls rec.hearing.way (get frame_part share) (waiting_in rec.waiting share ++ x)
calls_of rec share (resume x logs m o s) heard =
    let part = get frame_part share in
    let way = rec.hearing.way in
    let done = halves.second_half part rec.hearing logs m 480 in
    second_calls way part heard logs m ++ rest_calls way done.kept (drop rec.progress x)

-- The same by the reply: a refused call is made of none.
abbrev pub calls_done : Record → List Float → Ask → Reply → List FrameCall
calls_done rec share ask reply = cond (passed reply) (calls_of rec share ask (is_heard reply)) []
