-- `transforms::bins::bin_spot` meets its contract. Assumes nothing.
use native.Mathlib.Omega.{arith}
use Rattle.transforms.proofs.Stored.{bin_right}
use Rattle.transforms.proofs.bins.bin_spot.Goals as goal

pub returns-then-b-lt121 : goal.returns-then-b-lt121
returns-then-b-lt121 c = (
  c.spot.ensures.0,
  λ x. bin_right x c.args.j 0 c.spot.ensures.1 (omega arith) (omega arith)
      (omega arith),
)

pub returns-then-b-lt241 : goal.returns-then-b-lt241
returns-then-b-lt241 c = (
  c.spot-then-b-lt241.ensures.0,
  λ x. bin_right x c.args.j 3 c.spot-then-b-lt241.ensures.1 (omega arith) (omega arith)
      (omega arith),
)

pub returns-then-b-lt361 : goal.returns-then-b-lt361
returns-then-b-lt361 c = (
  c.spot-then-b-lt361.ensures.0,
  λ x. bin_right x c.args.j 2 c.spot-then-b-lt361.ensures.1 (omega arith)
      (omega arith) (omega arith),
)

pub returns : goal.returns
returns c = (
  c.spot-2.ensures.0,
  λ x. bin_right x c.args.j 1 c.spot-2.ensures.1 (omega arith)
      (omega arith) (omega arith),
)
