-- `frame::heard::process_heard` meets its contract: what each stage leaves, in a row. Assumes nothing.
use Rattle.frame.proofs.Spoken.{spoke}
use Rattle.frame.proofs.heard.process_heard.Goals as goal

pub returns : goal.returns
returns c = λ m good.
    let a = c.args in
    spoke a.share.now a.model.now m a.index a.lent.p.now a.lent.ep.now a.lent.logs.now
    c.requires.as_kept.0 c.requires.as_kept.1
    c.compute_features.ensures (c.compute_rnn-voice.ensures m good) c.filter_and_apply_gain.ensures.share_after
    c.filter_and_apply_gain.ensures.out_after
