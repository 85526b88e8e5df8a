-- `numbers::gives_way` meets its contract. Assumes nothing.
use Rattle.rules.proofs.Common.{not, sym, ap, ◌∙◌}
use mathlib.Core.Bool.{false≢true}
use Rattle.numbers.proofs.Larger.{no_zero_left, no_zero_right, by_sign}
use Rattle.numbers.proofs.gives_way.Goals.{then-a, else-a}
use Rattle.numbers.proofs.gives_way.Goals as goal

pub returns-then-b : goal.returns-then-b
unfolding lib.Ieee.ne
returns-then-b c = elim c.if-a.branch [
  | then-a w ↦ by_sign c.args.a c.args.b (ap not w.if-a.true) (ap not (sym w.value-is ∙ c.if-b.true))
  | else-a w ↦ absurd (false≢true (sym w.if-a.false ∙ sym w.value-is ∙ c.if-b.true))
]

pub returns-else-b : goal.returns-else-b
unfolding lib.Ieee.ne
returns-else-b c = elim c.if-a.branch [
  | then-a w ↦ c.if-b.false ∙ no_zero_right c.args.a c.args.b (ap not (sym w.value-is ∙ c.if-b.false))
  | else-a w ↦ w.value-is ∙ w.if-a.false ∙ no_zero_left c.args.a c.args.b (ap not w.if-a.false)
]
