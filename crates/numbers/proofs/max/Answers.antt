-- `numbers::max` meets its contract: each arm returns what `larger` picks under the tests that led there.
-- Assumes nothing.
use Rattle.std.specs.Prelude.{◌||◌, ◌≡◌}
use Rattle.rules.proofs.Common.{Bool, true, false, sym, ◌∙◌, Float, lt, is_nan}
use Rattle.rules.specs.F32.{f32}
use Rattle.numbers.specs.Larger.{yields}
use Rattle.numbers.proofs.NoNan.{nan_test}
use Rattle.numbers.proofs.Larger.{no_zero}
use Rattle.numbers.proofs.max.Goals as goal

-- neither a NaN nor a zero that gives way
plain : (a b : Float) (r : Bool) → r ≡ (lt a (f32 0) || lt (f32 0) a) → r ≡ true
    → (is_nan a ≡ false) × (yields a b ≡ false)
plain a b r e t = no_zero a b (sym e ∙ t)

pub returns-then-a-b : goal.returns-then-a-b
returns-then-a-b c = simp ((plain c.args.a c.args.b _ c.off_zero.ensures c.if-off_zero.true).0, c.if-a-b.true)

pub returns-else-a-b : goal.returns-else-a-b
returns-else-a-b c = simp (
  (plain c.args.a c.args.b _ c.off_zero.ensures c.if-off_zero.true).0,
  (plain c.args.a c.args.b _ c.off_zero.ensures c.if-off_zero.true).1,
  c.if-a-b.false,
)

pub returns-then-a : goal.returns-then-a
returns-then-a c = simp (← nan_test, c.if-a.true)

pub returns-then-a-b-2 : goal.returns-then-a-b-2
returns-then-a-b-2 c = simp (← nan_test, c.if-a.false, c.if-a-b-2.true)

pub returns-then-gives_way : goal.returns-then-gives_way
returns-then-gives_way c =
    simp (
      ← nan_test,
      c.if-a.false,
      c.if-a-b-2.false,
      ← c.gives_way.ensures,
      c.if-gives_way.true,
    )

pub returns-else-gives_way : goal.returns-else-gives_way
returns-else-gives_way c =
    simp (
      ← nan_test,
      c.if-a.false,
      c.if-a-b-2.false,
      ← c.gives_way.ensures,
      c.if-gives_way.false,
    )
