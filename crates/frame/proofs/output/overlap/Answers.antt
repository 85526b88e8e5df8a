-- `frame::output::overlap` meets its contract. The loop's invariant: of both slices the first i places are written, and
-- the others are as they were.
-- Assumes nothing.
use Rattle.std.specs.Prelude.{◌+◌, ◌<◌, ◌≡◌}
use Rattle.rules.proofs.Common.{ℕ, List, ap, ◌∙◌, Float, nan}
use native.Mathlib.Omega.{arith}
use Rattle.rules.specs.F32.{◌⊕◌, ◌⊗◌, ◌⊘◌, at, f32}
use Rattle.rules.proofs.Lists.{filling_more, filling_ended, filling_ahead, fills, get_d_tab}
use Rattle.bands.specs.Window.{window}
use Rattle.bands.specs.Windowed.{windowed_by}
use Rattle.frame.specs.Frame.{window_buf, overlapped, later_half}
use Rattle.frame.proofs.output.overlap.Goals as goal

-- a number of the window buffer
windowed_at : (table inverse : List Float) (i : ℕ) → table ≡ window → i < 960
    → (at inverse i ⊘ f32 0x40000000) ⊗ at table i ≡ at (window_buf inverse) i
unfolding window_buf windowed_by
windowed_at table inverse i e h = rw (e, get_d_tab 960 _ i nan h, get_d_tab 960 _ i nan h)

pub loop-i-init : goal.loop-i-init
loop-i-init c = search fills

pub loop-i-preserved : goal.loop-i-preserved
loop-i-preserved c =
    let l = c.loop-i in
    let a = c.args in
    let i = l.i in
    let by = windowed_at a.table.now a.inverse.now in
    let ahead : at l.kept i ≡ at a.kept.now i = filling_ahead _ _ _ i _ l.invariant.1 (omega arith) in (
      omega arith,
      filling_more _ _ _ l.invariant.1 (omega arith) (by (480 + i) (search fills) (omega arith)),
      filling_more _ _ _ l.invariant.2 (omega arith)
          (ap (λ (x : Float). ((at a.inverse.now i ⊘ f32 0x40000000) ⊗ at a.table.now i) ⊕ x) ahead
          ∙ ap (λ (x : Float). x ⊕ at a.kept.now i) (by i (search fills) (omega arith))),
    )

pub returns : goal.returns
unfolding overlapped later_half
returns c =
    let l = c.loop-i in
    record {
      kept_after = filling_ended _ _ l.i 480 (omega arith) (omega arith) (omega arith) l.invariant.1;
      out_after = filling_ended _ _ l.i 480 (omega arith) (omega arith) (omega arith) l.invariant.2;
    }
