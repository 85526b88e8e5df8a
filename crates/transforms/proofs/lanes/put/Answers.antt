-- `transforms::lanes::put` meets its contract. Assumes nothing.
use mathlib.Core.Path.{ap, ◌∙◌}
use native.Mathlib.Omega.{arith}
use Rattle.transforms.specs.Private.{sums_of, kept}
use Rattle.transforms.specs.declared.lanes.Sums.{Sums}
use Rattle.transforms.proofs.Stored.{sum_kept, kept_to}
use Rattle.transforms.proofs.lanes.put.Goals as goal

pub returns : goal.returns
unfolding sums_of
returns c f g e sums begin =
    let a = c.put_four.ensures (kept f)
    (ap (λ (s : Sums). s.s0) sums ∙ sum_kept f g 0 _ (omega arith) (omega arith)) begin.front in
    let b = c.put_four-2.ensures (kept f)
    (ap (λ (s : Sums). s.s1) sums ∙ sum_kept f g 1 _ (omega arith) (omega arith)) a in
    let d = c.put_four-3.ensures (kept f)
    (ap (λ (s : Sums). s.s2) sums ∙ sum_kept f g 2 _ (omega arith) (omega arith)) b in
    let i = c.put_four-4.ensures (kept f)
    (ap (λ (s : Sums). s.s3) sums ∙ sum_kept f g 3 _ (omega arith) (omega arith)) d in
    let j = c.put_four-5.ensures (kept f)
    (ap (λ (s : Sums). s.s4) sums ∙ sum_kept f g 4 _ (omega arith) (omega arith)) i in
    let k = c.put_four-6.ensures (kept f)
    (ap (λ (s : Sums). s.s5) sums ∙ sum_kept f g 5 _ (omega arith) (omega arith)) j in
    let l = c.put_four-7.ensures (kept f)
    (ap (λ (s : Sums). s.s6) sums ∙ sum_kept f g 6 _ (omega arith) (omega arith)) k in
    let m = c.put_four-8.ensures (kept f)
    (ap (λ (s : Sums). s.s7) sums ∙ sum_kept f g 7 _ (omega arith) (omega arith)) l in
    kept_to f _ _ (omega arith) m
