-- `transforms::samples::sample_spot` meets its contract. Assumes nothing.
use mathlib.Core.Path.{◌∙◌}
use native.Mathlib.Omega.{arith}
use Rattle.transforms.specs.Private.{whole_part}
use Rattle.transforms.proofs.Stored.{sample_right}
use Rattle.transforms.proofs.samples.sample_spot.Goals as goal

pub returns-then-n-lt121 : goal.returns-then-n-lt121
returns-then-n-lt121 c = (c.spot.ensures.0, λ x. c.spot.ensures.1 (whole_part x) ∙ sample_right x _ 0 _ (omega arith))

pub returns-then-n-lt241 : goal.returns-then-n-lt241
returns-then-n-lt241 c = (
  c.spot-then-n-lt241.ensures.0,
  λ x. c.spot-then-n-lt241.ensures.1 (whole_part x) ∙ sample_right x _ 5 _ (omega arith),
)

pub returns-then-n-lt361 : goal.returns-then-n-lt361
returns-then-n-lt361 c = (
  c.spot-then-n-lt361.ensures.0,
  λ x. c.spot-then-n-lt361.ensures.1 (whole_part x) ∙ sample_right x _ 4 _ (omega arith),
)

pub returns-then-n-lt481 : goal.returns-then-n-lt481
returns-then-n-lt481 c = (
  c.spot-then-n-lt481.ensures.0,
  λ x. c.spot-then-n-lt481.ensures.1 (whole_part x) ∙ sample_right x _ 3 _ (omega arith),
)

pub returns-then-n-lt601 : goal.returns-then-n-lt601
returns-then-n-lt601 c = (
  c.spot-then-n-lt601.ensures.0,
  λ x. c.spot-then-n-lt601.ensures.1 (whole_part x) ∙ sample_right x _ 2 _ (omega arith),
)

pub returns-then-n-lt721 : goal.returns-then-n-lt721
returns-then-n-lt721 c = (
  c.spot-then-n-lt721.ensures.0,
  λ x. c.spot-then-n-lt721.ensures.1 (whole_part x) ∙ sample_right x _ 7 _ (omega arith),
)

pub returns-then-n-lt841 : goal.returns-then-n-lt841
returns-then-n-lt841 c = (
  c.spot-then-n-lt841.ensures.0,
  λ x. c.spot-then-n-lt841.ensures.1 (whole_part x) ∙ sample_right x _ 6 _ (omega arith),
)

pub returns : goal.returns
returns c = (
  c.spot-2.ensures.0,
  λ x. c.spot-2.ensures.1 (whole_part x) ∙ sample_right x _ 1 _ (omega arith),
)
