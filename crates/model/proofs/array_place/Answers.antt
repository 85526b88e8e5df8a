-- `model::array_place` meets its contract: a layer that is found lies within the file. Assumes nothing.
use mathlib.Core.Path.{sym, ap, ◌∙◌}
use native.Mathlib.Nat.{le_refl}
use lib.ListN.{length}
use Rattle.rules.specs.Place.{Place}
use Rattle.model.proofs.Places.{within, in_place}
use Rattle.model.proofs.array_place.Goals as goal

pub returns-in-Some : goal.returns-in-Some
returns-in-Some c =
    let s = c.args.bytes.now in
    let found = sym c.in-Some.is ∙ c.find.ensures in
    let there = in_place _ _ (within s c.args.layer found (le_refl (length s))) c.args.which in
    let told = c.place_in.ensures in
    rw (← found) (told.0 ∙ ap (λ (p : Place). p.at) there, told.1 ∙ ap (λ (p : Place). p.size) there)
