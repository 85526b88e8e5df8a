-- `frame::call2` meets its contract. Assumes nothing.
use Rattle.std.specs.Prelude.{◌∷◌}
use Rattle.rules.proofs.Common.{List, [], refl, ap, ap₂, ◌∙◌, length, length-take, length-drop, Float}
use native.Mathlib.Omega.{arith}
use Rattle.rules.proofs.Refusals.{left as fitted}
use Rattle.bands.specs.Windowed.{windowed}
use Rattle.frame.proofs.Done.{call2_done}
use Rattle.frame.proofs.Sizes.{looked_at}
use Rattle.frame.proofs.call2.Goals as goal

pub returns : goal.returns
returns c =
    let a =
    c.args in
    let share = a.share.now in
    let lag = a.lag.0 in
    let window = fitted c.apply_window.ensures
    (record { into = omega arith; from = simp (length-take, length-drop) (omega arith) }) in
    let part = (rw c.unwrap-2.ensures at c.as_mut_array.ensures.cases).same in
    let bins = (rw c.unwrap-3.ensures at c.as_array.ensures.cases).same in
    let noted = rw (part, bins) at c.note.ensures in
    rw (call2_done share (omega arith) a.spectrum.now lag (length a.window.now) (length a.sums.now)
    (omega arith) (omega arith) (omega arith) (omega arith))
    (record {
      answers = refl;
      keeps = noted.share_after;
      writes =
          ap₂ (λ (x y : List Float). x ∷ y ∷ [])
          (window ∙ ap windowed (looked_at share lag (omega arith) (omega arith))) noted.sums_after;
    })
