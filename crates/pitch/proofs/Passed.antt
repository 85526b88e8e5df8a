-- What a caller knows of a leaf of this crate that gave `Ok`: the lengths fit, and the lent buffer holds what is
-- promised. Assumes nothing.
use Rattle.std.specs.Prelude.{◌≡◌, Result, Ok, Err}
use Rattle.rules.proofs.Common.{List, ap, Float}
use Rattle.rules.specs.Leaf.{Leaf, done, refused, ◌leaving◌}
use Rattle.rules.specs.declared.refusal.Refusal.{Refusal}

pub passed : {Fits : Type 0} {r : Result (Unit {0}) Refusal} {u : Unit {0}} {n : Refusal} {x y old : List Float}
    → Leaf Fits (r leaving x) (Ok tt leaving y) (Err n leaving old) → r ≡ Ok u
    → Fits × (x ≡ y)
passed (done fits e) ok = (fits, ap (λ (p : Result (Unit {0}) Refusal × List Float). p.1) e)
passed (refused none e) ok =
    let no = ap (λ (p : Result (Unit {0}) Refusal × List Float). p.0) e in
    absurd (cc)
