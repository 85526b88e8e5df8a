-- `pieces::waiting::keep` meets its contract. Assumes nothing.
use Rattle.std.specs.Prelude.{◌-◌, ◌≡◌}
use Rattle.rules.proofs.Common.{ap, ◌∙◌, length, take, drop, length-take, length-drop}
use native.Mathlib.Omega.{arith}
use lib.Seq.{take_all}
use Rattle.frame.specs.Share.{PART}
use Rattle.pieces.specs.Pieces.{waiting_place, padded_to}
use Rattle.rules.specs.Place.{get, put}
use Rattle.pieces.proofs.waiting.keep.Goals as goal

pub returns : goal.returns
unfolding get put
returns c =
    let a = c.args in
    let room : length (take 479 (drop PART a.share.now)) ≡ 479 = simp (length-take, length-drop) (omega arith) in
    let all = take_all (length a.samples.now - a.from) (drop a.from a.samples.now)
    (simp length-drop (omega arith)) in
    let kept : c.join.new.out ≡ padded_to 479 (drop a.from a.samples.now) =
    c.join.ensures ∙ rw (room, all) in
    ap (put (waiting_place 479) a.share.now) kept
