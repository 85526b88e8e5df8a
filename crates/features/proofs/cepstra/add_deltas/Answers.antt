-- `features::cepstra::add_deltas` meets its contract: what its parts ensure, put together. Assumes nothing.
use Rattle.std.specs.Prelude.{◌≡◌}
use Rattle.rules.proofs.Common.{ℕ, List, length, set, Float}
use native.Mathlib.Omega.{arith}
use Rattle.rules.specs.F32.{part}
use Rattle.rules.specs.Place.{put}
use Rattle.features.specs.Cepstra.{back, smoothed, slope, bend, deltas, variability}
use Rattle.features.specs.Features.{laid}
use Rattle.features.proofs.Lengths.{length_deltas}
use Rattle.features.proofs.Places.{place, laid_out}
use Rattle.features.proofs.cepstra.add_deltas.Goals as goal

together : (l a b d mem : List Float) (index c1 c2 : ℕ) (v : Float) → length l ≡ 42 → c1 ≡ back index 1
    → c2 ≡ back index 2
    → a ≡ deltas smoothed mem index c1 c2 → b ≡ deltas slope mem index c1 c2 → d ≡ deltas bend mem index c1 c2
    → v ≡ variability mem
    → set (put (place 28 6) (put (place 22 6) (put (place 0 6) l a) b) d) 41 v
    ≡ laid (part 6 22 l) (part 34 41 l) mem index
unfolding laid
together l a b d mem index c1 c2 v all one two p q r s =
    let six : (of : Float → Float → Float → Float) → length (deltas of mem index (back index 1) (back index 2)) ≡ 6
    = λ of. length_deltas of mem index (back index 1) (back index 2) in
    rw (p, q, r, s, one, two) (laid_out l _ _ _ _ all (six smoothed) (six slope) (six bend))

pub returns : goal.returns
unfolding put
returns c =
    together c.args.features.now c.delta_rows.new.out c.delta_rows-2.new.out
    c.delta_rows-3.new.out
    c.args.mem.now c.args.newest.index c.back-c1.result.index c.back-c2.result.index
    c.spectral_variability.result
    (omega arith) c.back-c1.ensures c.back-c2.ensures
    c.delta_rows.ensures c.delta_rows-2.ensures c.delta_rows-3.ensures
    c.spectral_variability.ensures
