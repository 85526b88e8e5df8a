-- `pieces::frames::leave` meets its contract: the half is not refused. Assumes nothing.
use Rattle.rules.proofs.Common.{sym, ap, ◌∙◌}
use Rattle.rules.specs.Place.{get, put}
use Rattle.frame.specs.Answer.{as_reply}
use Rattle.frame.proofs.Answered.{done_lem}
use Rattle.pieces.proofs.Serve.{finished}
use Rattle.pieces.proofs.frames.leave.Goals as goal

pub unwrap-requires : goal.unwrap-requires
unfolding get put
unwrap-requires c =
    let a = c.args in
    let s = c.requires.sizes in
    let f = finished a.share.now s.0 a.hearing a.logs.now a.model.now a.out.now a.start s.1 s.2 s.3
    c.requires.model_passes c.second_half.ensures in
    done_lem c.second_half.result f.1.1.1

pub returns : goal.returns
unfolding get put
returns c =
    let a = c.args in
    let s = c.requires.sizes in
    let f = finished a.share.now s.0 a.hearing a.logs.now a.model.now a.out.now a.start s.1 s.2 s.3
    c.requires.model_passes c.second_half.ensures in
    record { told = sym (ap as_reply c.unwrap.ensures) ∙ f.0; share_after = f.1.0; out_after = f.1.1.0 }
