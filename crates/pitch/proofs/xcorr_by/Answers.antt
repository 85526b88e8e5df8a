-- `pitch::xcorr_by` meets its contract. Assumes nothing.
use Rattle.std.specs.Prelude.{◌+◌, ◌-◌, ◌%◌, ◌≤◌, ◌<◌, ◌≡◌}
use Rattle.rules.proofs.Common.{ℕ, refl, sym, ap, ◌∙◌, length}
use native.Mathlib.Nat.{mod-eq-sub-mod, mod-eq_of_lt}
use native.Mathlib.Omega.{arith}
use Rattle.rules.proofs.Lists.{tab_front, front_tab}
use Rattle.pitch.proofs.Sums.{lags_stored}
use Rattle.pitch.proofs.xcorr_by.Goals as goal

pub loop-i-init : goal.loop-i-init
loop-i-init g c = record {
  in_range = c.requires.steps.0;
  fours = c.requires.fours.2;
  steps = c.requires.steps.1;
  filled = record { same = refl; front = tab_front _ _ _ c.requires.front_done };
}

pub loop-i-preserved : goal.loop-i-preserved
loop-i-preserved g c =
    let l = c.loop-i in
    let size : ℕ = g.row.N in
    let n = length c.args.xcorr.now in
    let room : size ≤ n - l.i = omega arith in
    let place : n - (l.i + size) ≡ n - l.i - size = omega arith in
    record {
      in_range = omega arith;
      fours = omega (arith, l.invariant.fours, c.requires.fours.1);
      steps = ap (λ (k : ℕ). k % size) place ∙ sym (mod-eq-sub-mod room) ∙ l.invariant.steps;
      filled = lags_stored _ _ _ _ l.i size refl l.invariant.filled (omega arith) c.corr_lags.ensures c.put.ensures;
    }

pub returns : goal.returns
returns g c =
    let l = c.loop-i in
    let size : ℕ = g.row.N in
    let n = length c.args.xcorr.now in
    let few : n - l.i < size = omega arith in
    let left : n - l.i ≡ n % size = sym (mod-eq_of_lt few) ∙ l.invariant.steps in
    let end : l.i ≡ n - n % size = omega arith in
    front_tab _ c.args.xcorr.now _ _ (rw end at l.invariant.filled.front)
