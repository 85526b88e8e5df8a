-- `whole::heard::tell` meets its contract: three stores are a `put`. Assumes nothing.
use Rattle.std.specs.Prelude.{◌+◌, ◌*◌, ◌≤◌, ◌∷◌, ◌≡◌}
use Rattle.rules.proofs.Common.{ℕ, suc, List, [], ap, ◌∙◌, length, set, length-set, Float}
use native.Mathlib.Omega.{arith}
use Rattle.rules.specs.Place.{put}
use Rattle.rules.proofs.Places.{put_sets}
use Rattle.frame.specs.Written.{from, over}
use Rattle.whole.proofs.heard.tell.Goals as goal

stored : (xs : List Float) (i : ℕ) (a b c : Float) → i + 3 ≤ length xs
    → set (set (set xs i a) (i + 1) b) (i + 2) c ≡ put (record { at = i; size = 3 }) xs (a ∷ b ∷ c ∷ [])
stored xs i a b c h =
    let one : suc i ≡ i + 1 = omega arith in
    let two : suc (suc i) ≡ i + 2 = omega arith in
    rw (two, one) at (put_sets xs (a ∷ b ∷ c ∷ []) i h)

pub bounds-answers-start-2 : goal.bounds-answers-start-2
bounds-answers-start-2 c = simp length-set (omega arith)

pub bounds-answers-start-3 : goal.bounds-answers-start-3
bounds-answers-start-3 c = simp length-set (omega arith)

pub returns : goal.returns
returns c =
    let a = c.args in
    let r = c.three_of-heard.result in
    stored a.answers.now (3 * a.j) r.heard r.voice r.energy c.requires
    ∙ ap (λ (xs : List Float). over (from (3 * a.j) xs) a.answers.now) c.three_of-heard.ensures
