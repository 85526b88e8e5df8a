-- `halves::ways::find` meets its contract: what the finder says is what the share's part says, and an f32 holds its
-- period. Assumes nothing.
use Rattle.std.specs.Prelude.{◌≤◌, ◌∷◌, ◌≡◌, Result, Ok, Err}
use Rattle.rules.proofs.Common.{ℕ, List, [], ap, ◌∙◌, length, set, length-set, pos, Float, binary32}
use Rattle.rules.proofs.Common.{of_int}
use native.Mathlib.Omega.{arith}
use Rattle.rules.specs.F32.{at}
use Rattle.rules.specs.declared.refusal.Refusal.{Refusal}
use Rattle.rules.specs.declared.refusal.Refusal.TheVariants.{WrongLength}
use Rattle.rules.specs.Leaf.{Leaf}
use Rattle.rules.specs.Place.{get}
use Rattle.rules.proofs.Refusals.{fitting}
use Rattle.rules.proofs.Numbers.{casts}
use Rattle.rules.proofs.Places.{length_get, put_sets}
use Rattle.finder.specs.Finder.{find}
use Rattle.finder.specs.declared.Pitch.{Pitch}
use Rattle.finder.proofs.Ranges.{period_in_range}
use Rattle.frame.specs.Share.{PART, input_mem, finder_mem}
use Rattle.frame.specs.declared.Way.TheVariants.{Nnnoiseless}
use Rattle.frame.proofs.Answered.{same_ok}
use Rattle.frame.proofs.Sizes.{at_get}
use Rattle.halves.specs.Ways.{found, lag_by, remembered}
use Rattle.halves.proofs.ways.find.Goals as goal

module _ (share : List Float) (whole : length share ≡ PART) where
  as_found : {answer : Result Pitch Refusal} {pitch : Pitch}
      → Leaf (length (get input_mem share) ≡ 1728) answer
      (Ok (find (at share 3776) (at share 3777) (get input_mem share))) (Err WrongLength)
      → answer ≡ Ok pitch → pitch ≡ found share
  as_found leaf e =
      same_ok e (fitting leaf (length_get input_mem share (omega arith)))
      ∙ rw (at_get finder_mem share 0 (omega arith), at_get finder_mem share 1 (omega arith))

  noted : {period : ℕ} {gain : Float} → period ≡ (found share).period → gain ≡ (found share).gain
      → set (set share 3776 (of_int binary32 (pos period))) 3777 gain ≡ remembered Nnnoiseless share
  unfolding remembered
  noted {period} {gain} p g = put_sets share (of_int binary32 (pos period) ∷ gain ∷ []) 3776 (omega arith) ∙ rw (p, g)

  period_small : {period : ℕ} → period ≡ (found share).period → period ≤ 767
  period_small p = rw p
      (period_in_range (at (get finder_mem share) 0) (at (get finder_mem share) 1) (get input_mem share)).1

pub int_to_float-share : goal.int_to_float-share
unfolding get
int_to_float-share c =
    let share = c.args.share.now in
    let period = ap (λ (p : Pitch). p.period) (as_found share (omega arith) c.find.ensures c.unwrap-found.ensures) in
    casts _ (omega (arith, period_small share (omega arith) period))

pub bounds-share-3777-2 : goal.bounds-share-3777-2
bounds-share-3777-2 c = simp length-set (omega arith)

pub returns : goal.returns
unfolding lag_by get
returns c =
    let share = c.args.share.now in
    let same = as_found share (omega arith) c.find.ensures c.unwrap-found.ensures in
    let period = ap (λ (p : Pitch). p.period) same in
    record {
      lag_told = period;
      share_after = noted share (omega arith) period (ap (λ (p : Pitch). p.gain) same);
    }
