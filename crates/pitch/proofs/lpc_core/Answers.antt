-- `pitch::lpc_core` meets its contract. Assumes nothing.
use Rattle.pitch.specs.Lpc.{lpc_of}
use Rattle.pitch.proofs.lpc_core.Goals as goal

pub returns-then-ac : goal.returns-then-ac
unfolding lpc_of
returns-then-ac c = rw c.if-ac.true c.clear.ensures

pub returns : goal.returns
unfolding lpc_of
returns c =
    rw (
      c.if-ac.false,
      ← c.clear.ensures,
    ) c.lags.ensures
