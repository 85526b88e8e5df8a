-- `numbers::lists::each` meets its contract. Assumes nothing.
use Rattle.std.specs.Prelude.{◌≡◌}
use Rattle.rules.proofs.Common.{nan, Float}
use Rattle.rules.proofs.Lists.{Mapping}
use Rattle.numbers.proofs.lists.each.Given as goal

abbrev pub invariant-loop-x : goal.invariant-loop-x
invariant-loop-x g l =
    (h : Float → Float) → ((x y : Float) → goal.F-post g l.f x y → y ≡ h x) → Mapping h nan l.initial.xs l.x-index l.xs
