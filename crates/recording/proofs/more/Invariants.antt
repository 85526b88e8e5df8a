use Rattle.std.specs.Prelude.{◌≡◌}
use Rattle.rules.proofs.Common.{length}
use Rattle.recording.specs.Judge.{fed}
use Rattle.recording.proofs.more.Given as goal

abbrev pub invariant-loop-rest : goal.invariant-loop-rest
invariant-loop-rest l = fed l.initial.now l.bytes ≡ fed l.now l.rest

abbrev pub decreases-loop-rest : goal.decreases-loop-rest
decreases-loop-rest l = length l.rest
