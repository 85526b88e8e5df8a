-- `model::place_in` meets its contract. Assumes nothing.
use mathlib.Core.Path.{refl, sym, ◌∙◌}
use native.Mathlib.Omega.{arith}
use Rattle.model.proofs.Places.{lies}
use Rattle.model.proofs.place_in.Goals as goal

pub returns-then-not-lies_within : goal.returns-then-not-lies_within
returns-then-not-lies_within c = rw (sym c.lies_within.ensures ∙ c.if-not-lies_within.true) (refl, refl)

pub place_of-requires : goal.place_of-requires
place_of-requires c =
    let yes = sym c.lies_within.ensures ∙ c.if-not-lies_within.false in
    let l = lies _ _ _ yes in
    (l.0, l.1, omega (arith, l.2))

pub returns : goal.returns
returns c =
    rw (sym c.lies_within.ensures ∙ c.if-not-lies_within.false)
    c.place_of.ensures
