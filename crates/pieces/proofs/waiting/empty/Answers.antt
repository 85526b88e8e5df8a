-- `pieces::waiting::empty` meets its contract. Assumes nothing.
use Rattle.std.specs.Prelude.{◌≡◌}
use Rattle.rules.proofs.Common.{ap, ◌∙◌, length, take, drop, length-take, length-drop}
use native.Mathlib.Omega.{arith}
use Rattle.frame.specs.Share.{PART}
use Rattle.pieces.specs.Pieces.{waiting_place}
use Rattle.pieces.proofs.Padding.{padded_none}
use Rattle.rules.specs.Place.{get, put}
use Rattle.pieces.proofs.waiting.empty.Goals as goal

pub returns : goal.returns
unfolding get put
returns c =
    let share = c.args.share.now in
    let room : length (take 479 (drop PART share)) ≡ 479 = simp (length-take, length-drop) (omega arith) in
    ap (put (waiting_place 479) share)
    (c.clear.ensures ∙ padded_none 479 (take 479 (drop PART share)) room)
