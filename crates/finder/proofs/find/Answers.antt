-- `finder::find` meets its contract. Assumes nothing.
use Rattle.std.specs.Prelude.{Ok}
use Rattle.rules.proofs.Common.{ap}
use native.Mathlib.Omega.{arith}
use Rattle.rules.specs.Leaf.{done}
use Rattle.pitch.proofs.Passed.{passed}
use Rattle.finder.specs.declared.Pitch.{Pitch}
use Rattle.finder.proofs.Joined.{place_small, processed}
use Rattle.finder.proofs.find.Goals as goal

pub overflow_sub-pitch_idx : goal.overflow_sub-pitch_idx
overflow_sub-pitch_idx c = omega (arith, place_small _ c.search-pitch_idx.ensures)

pub remove_doubling-requires : goal.remove_doubling-requires
remove_doubling-requires c = omega (arith, place_small _ c.search-pitch_idx.ensures)

pub returns : goal.returns
returns c =
    let low = passed c.pitch_downsample.ensures c.in_ok-pitch_downsample.was in
    done low.0.whole
    (ap (λ (p : Pitch). Ok p)
    (processed _ _ _ low.1 c.search-pitch_idx.ensures (rw c.whole_lag.ensures at c.remove_doubling.ensures)))
