-- The loop's invariant: what is still to be read, with the headers so far, gives what reading the file gives.
-- Assumes nothing.
use Rattle.std.specs.Prelude.{◌-◌, ◌≤◌, ◌≡◌}
use Rattle.rules.proofs.Common.{length, take}
use Rattle.model.specs.Model.{read_of}
use Rattle.model.proofs.Steps.{on_from, AllFew}
use Rattle.model.proofs.read.Given as goal

abbrev pub invariant-loop-layer : goal.invariant-loop-layer
invariant-loop-layer l = (l.layer ≤ 6) × (length l.headers ≡ 6) × (l.c.at ≤ length l.bytes) × AllFew l.headers
    × (read_of l.bytes ≡ on_from l.bytes l.layer (take l.layer l.headers) l.c.at)

abbrev pub decreases-loop-layer : goal.decreases-loop-layer
decreases-loop-layer l = 6 - l.layer
