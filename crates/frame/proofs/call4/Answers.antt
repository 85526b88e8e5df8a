-- `frame::call4` meets its contract. Assumes nothing.
use Rattle.std.specs.Prelude.{◌∷◌}
use Rattle.rules.proofs.Common.{List, [], refl, ap, length, Float}
use native.Mathlib.Omega.{arith}
use Rattle.rules.specs.Place.{get, put}
use Rattle.frame.specs.Share.{synthesis_mem}
use Rattle.frame.proofs.Done.{call4_done}
use Rattle.frame.proofs.call4.Goals as goal

pub returns : goal.returns
unfolding put get
returns c =
    let a = c.args in
    let samples = (rw c.unwrap.ensures at c.as_array.ensures.cases).same in
    let done = rw samples at c.synthesise.ensures in
    rw (call4_done a.share.now (omega arith) a.inverse.now (length a.out.now) (omega arith)
    (omega arith))
    (record {
      answers = refl;
      keeps = ap (put synthesis_mem a.share.now) done.kept_after;
      writes = ap (λ (l : List Float). l ∷ []) done.out_after;
    })
