-- `numbers::twice_root` meets its contract. The loop's invariant: the root is at least r and below r + gap. Where the
-- gap is 1, r is the whole root. Assumes nothing.
use Rattle.std.specs.Prelude.{◌+◌, ◌-◌, ◌*◌, ◌/◌, ◌^◌, ◌≤◌, ◌<◌, ◌≡◌}
use Rattle.rules.proofs.Common.{ℕ, suc, Bool, cond, sym, ap, subst, ◌∙◌}
use Rattle.std.proofs.Common.{zero-le, lt_of_lt_of_le, lt_of_le_of_lt, add-zero, arith, lit<, lit≤, eq-eqb, ne_eqb}
use Rattle.numbers.proofs.Squares.{IsRoot, square_le, square_fits, square_lt_back, twice_at}
use Rattle.numbers.proofs.twice_root.Invariants.{Spans}
use Rattle.numbers.proofs.twice_root.Goals as goal
use Rattle.numbers.proofs.twice_root.Goals.{then-next-n, else-next-n}

small : (n r : ℕ) → r * r ≤ n → n < 2 ^ 54 → r < 2 ^ 27
small n r a b = square_lt_back r (2 ^ 27) (lt_of_le_of_lt a b)

-- the gap is 1
found : (n r gap : ℕ) → Spans n r gap → gap ≤ 1 → IsRoot n r
found n r gap s h =
    let one : r + gap ≡ suc r = omega arith in
    (s.low, subst (λ (x : ℕ). n < x * x) one s.high)

pub loop-gap-init : goal.loop-gap-init
loop-gap-init c = record { some = lit< tt; few = lit≤ tt; low = zero-le; high = c.requires }

pub overflow_sub-next : goal.overflow_sub-next
overflow_sub-next c = omega arith

pub overflow_add-next : goal.overflow_add-next
overflow_add-next c = omega (arith, small c.args.n c.loop-gap.r c.loop-gap.invariant.low c.requires)

pub overflow_mul-next : goal.overflow_mul-next
overflow_mul-next c =
    record {
      fits = square_fits (c.loop-gap.r + (c.loop-gap.gap - c.loop-gap.gap / 2))
          (omega (arith, small c.args.n c.loop-gap.r c.loop-gap.invariant.low c.requires));
    }

pub overflow_sub-gap : goal.overflow_sub-gap
overflow_sub-gap c = omega arith

pub loop-gap-smaller : goal.loop-gap-smaller
loop-gap-smaller c = omega arith

pub loop-gap-preserved : goal.loop-gap-preserved
loop-gap-preserved c =
    let n = c.args.n in
    let r = c.loop-gap.r in
    let gap = c.loop-gap.gap in
    let g = gap - gap / 2 in
    let inv = c.loop-gap.invariant in
    let grows : r + gap ≤ r + g + g = omega arith in
    elim c.if-next-n.branch [
      | then-next-n w ↦ record {
        some = omega arith;
        few = omega arith;
        low = subst (λ (x : ℕ). x * x ≤ n) (sym w.r-is) w.if-next-n.true;
        high = subst (λ (x : ℕ). n < (x + g) * (x + g)) (sym w.r-is) (lt_of_lt_of_le inv.high (square_le grows));
      }
      | else-next-n w ↦ record {
        some = omega arith;
        few = omega arith;
        low = subst (λ (x : ℕ). x * x ≤ n) (sym w.r-is) inv.low;
        high = subst (λ (x : ℕ). n < (x + g) * (x + g)) (sym w.r-is) w.if-next-n.false;
      }
    ]

pub overflow_mul-r : goal.overflow_mul-r
overflow_mul-r c = record {
  fits = square_fits c.loop-gap.r
      (omega (arith, small c.args.n c.loop-gap.r c.loop-gap.invariant.low c.requires));
}

pub overflow_mul-result : goal.overflow_mul-result
overflow_mul-result c = omega (arith, small c.args.n c.loop-gap.r c.loop-gap.invariant.low c.requires)

pub overflow_mul-result-else-r-n : goal.overflow_mul-result-else-r-n
overflow_mul-result-else-r-n c = omega (arith, small c.args.n c.loop-gap.r c.loop-gap.invariant.low c.requires)

pub overflow_add-result : goal.overflow_add-result
overflow_add-result c = omega (arith, small c.args.n c.loop-gap.r c.loop-gap.invariant.low c.requires)

pub returns-then-r-n : goal.returns-then-r-n
returns-then-r-n c =
    let n = c.args.n in
    let r = c.loop-gap.r in
    sym (twice_at n r (found n r c.loop-gap.gap c.loop-gap.invariant c.loop-gap-test.false)
    ∙ ap (λ (b : Bool). 2 * r + cond b 0 1) (eq-eqb (r * r) n c.if-r-n.true)
    ∙ add-zero (2 * r))

pub returns-else-r-n : goal.returns-else-r-n
returns-else-r-n c =
    let n = c.args.n in
    let r = c.loop-gap.r in
    sym (twice_at n r (found n r c.loop-gap.gap c.loop-gap.invariant c.loop-gap-test.false)
    ∙ ap (λ (b : Bool). 2 * r + cond b 0 1) (ne_eqb (r * r) n c.if-r-n.false))
