-- `features::cepstra::remember` meets its contract. Assumes nothing.
use Rattle.std.specs.Prelude.{◌+◌, ◌-◌, ◌*◌, ◌++◌, ◌≡◌}
use Rattle.rules.proofs.Common.{ℕ, List, take, drop, Float}
use native.Mathlib.Omega.{arith}
use Rattle.rules.specs.Place.{put}
use Rattle.features.specs.Cepstra.{row}
use Rattle.features.proofs.cepstra.remember.Goals as goal

written : (mem ys zs : List Float) (a n index : ℕ) → a ≡ index * 22 → n ≡ 22 → ys ≡ zs
    → take a mem ++ (ys ++ drop n (drop a mem)) ≡ put (row index) mem zs
unfolding put
written mem ys zs a n index start size same = rw (start, size, same)

pub returns : goal.returns
returns c =
    let at = c.start-at.result in
    written c.args.mem.now _ c.args.ceps.now at (at + 22 - at) c.args.newest.index c.start-at.ensures (omega arith)
    c.copy_from_slice.ensures.after
