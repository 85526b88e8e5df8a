-- `pitch::xcorr_rest` meets its contract. Assumes nothing.
use Rattle.rules.proofs.Common.{◌∙◌, length, length-set}
use native.Mathlib.Omega.{arith}
use Rattle.rules.proofs.Lists.{tab_more, tab_done}
use Rattle.pitch.specs.Xcorr.{pitch_xcorr}
use Rattle.pitch.proofs.Starts.{behind_fours}
use Rattle.pitch.proofs.xcorr_rest.Goals as goal

pub loop-i-preserved : goal.loop-i-preserved
loop-i-preserved c =
    let l = c.loop-i in (
      omega arith,
      omega arith,
      simp length-set l.invariant.2,
      tab_more _ _ _ _ _ l.invariant.3 (behind_fours _ _ _ _ (omega arith) c.corr1.ensures) (omega arith),
    )

pub returns : goal.returns
unfolding pitch_xcorr
returns c =
    let l = c.loop-i in
    l.invariant.3 ∙ tab_done _ _ _ (length c.args.xcorr.now) (omega arith)
    (omega arith)
