-- `pieces::frames::enter` meets its contract: the half is not refused. Assumes nothing.
use Rattle.rules.specs.Place.{get, put}
use Rattle.frame.proofs.Answered.{done_lem}
use Rattle.pieces.proofs.Serve.{entered}
use Rattle.pieces.proofs.frames.enter.Goals as goal

pub unwrap-requires : goal.unwrap-requires
unfolding get put
unwrap-requires c =
    let e = entered c.args.share.now c.requires.0 c.args.way c.args.samples.now c.args.sums.now c.requires.1
    c.requires.2 c.requires.3 c.first_half.ensures in
    done_lem c.first_half.result e.2

pub returns : goal.returns
unfolding get put
returns c =
    let e = entered c.args.share.now c.requires.0 c.args.way c.args.samples.now c.args.sums.now c.requires.1
    c.requires.2 c.requires.3 c.first_half.ensures in
    record { share_after = e.0; sums_after = e.1 }
