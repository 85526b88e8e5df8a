-- `whole::spoken::dictate` meets its contract: after j turns j frames are said, and at the end the rest waits.
-- Assumes nothing.
use Rattle.std.specs.Prelude.{◌-◌, ◌≤◌, ◌≡◌}
use Rattle.rules.proofs.Common.{length}
use Rattle.pieces.specs.Pieces.{completes}
use Rattle.whole.specs.Private.{Ready}
use Rattle.whole.proofs.Said.{So}
use Rattle.whole.proofs.spoken.dictate.Given as goal

abbrev pub invariant-loop-j : goal.invariant-loop-j
invariant-loop-j l = (l.j ≤ l.frames)
    × (length l.share ≡ length l.initial.share)
    × (length l.out ≡ length l.initial.out)
    × (length l.answers ≡ length l.initial.answers)
    × (l.frames ≡ completes l.initial.last.waiting (length l.piece))
    × (l.waiting ≡ l.initial.last.waiting)
    × Ready l.initial.last.waiting l.initial.share l.piece l.frames (length l.initial.out) (length l.initial.answers)
    × So l.initial.last l.initial.share l.piece l.model l.frames l.initial.out l.initial.answers l.j l.last l.share
    l.out l.answers

abbrev pub decreases-loop-j : goal.decreases-loop-j
decreases-loop-j l = l.frames - l.j
