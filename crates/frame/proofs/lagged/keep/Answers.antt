-- `frame::lagged::keep` meets its contract: what each call leaves, in a row. Assumes nothing.
use Rattle.std.specs.Prelude.{◌∷◌}
use Rattle.rules.proofs.Common.{List, [], ap, ◌∙◌, pos, Float, binary32, of_int}
use native.Mathlib.Omega.{arith}
use Rattle.rules.specs.Place.{get, put}
use Rattle.rules.proofs.Refusals.{left as fitted}
use Rattle.rules.proofs.Numbers.{casts}
use Rattle.rules.proofs.Places.{length_get, length_put, put_sets}
use Rattle.frame.specs.Share.{kept_ex, kept_lag}
use Rattle.frame.proofs.lagged.keep.Goals as goal

pub int_to_float-share : goal.int_to_float-share
int_to_float-share c = casts _ (omega arith)

pub returns : goal.returns
unfolding get put
returns c =
    let a = c.args in
    let share = a.share.now in
    let lag = of_int binary32 (pos a.lag.0) ∷ [] in
    let same = length_get kept_ex share (omega arith) in
    let ex = fitted c.copy.ensures (omega arith) in
    put_sets (put kept_ex share c.copy.new.dst) lag 3191
    (omega (arith, length_put kept_ex share c.copy.new.dst (omega arith) (c.copy.auto.dst ∙ same)))
    ∙ ap (λ (l : List Float). put kept_lag (put kept_ex share l) lag) ex
