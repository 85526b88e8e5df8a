-- The loop's invariant: the layers still to come decide. Assumes nothing.
use Rattle.std.specs.Prelude.{◌-◌, ◌≤◌, ◌≡◌}
use Rattle.model.specs.Private.{fault_in}
use Rattle.model.proofs.Given.{rows_from}
use Rattle.model.proofs.writer.layers_fault.Given as goal

abbrev pub invariant-loop-layer : goal.invariant-loop-layer
invariant-loop-layer l = (l.layer ≤ 6) × (fault_in (rows_from l.shapes l.lengths 0)
    ≡ fault_in (rows_from l.shapes l.lengths l.layer))

abbrev pub decreases-loop-layer : goal.decreases-loop-layer
decreases-loop-layer l = 6 - l.layer
