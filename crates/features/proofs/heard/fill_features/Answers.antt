-- `features::heard::fill_features` meets its contract: what its parts ensure, put together. Assumes nothing.
use Rattle.std.specs.Prelude.{◌≡◌}
use Rattle.rules.proofs.Common.{ℕ, List, ◌∙◌, length, Float}
use native.Mathlib.Omega.{arith}
use Rattle.rules.specs.F32.{part}
use Rattle.rules.specs.Place.{put}
use Rattle.features.specs.Cepstra.{row, cepstrum}
use Rattle.features.specs.Features.{pitch_features, with_cepstrum, laid, features_of}
use Rattle.features.proofs.Lengths.{length_pitch, length_cepstrum}
use Rattle.features.proofs.Places.{place, ceps_stays, pitch_stays}
use Rattle.features.proofs.heard.fill_features.Goals as goal

-- the features before their differences are made
abbrev plain : List Float → List Float → List Float → List Float
plain l pitch ceps = put (place 0 22) (put (place 34 7) l pitch) ceps

together : (l pitch ceps new out exp : List Float) (lag : Float) (logs mem : List Float) (index : ℕ) → length l ≡ 42
    → pitch ≡ pitch_features exp lag
    → ceps ≡ cepstrum logs
    → new ≡ with_cepstrum logs mem index
    → out ≡ laid (part 6 22 (plain l pitch ceps)) (part 34 41 (plain l pitch ceps)) new index
    → out ≡ features_of exp lag logs mem index
unfolding features_of
together l pitch ceps new out exp lag logs mem index all p q n o =
    let seven : length pitch ≡ 7 = rw p (length_pitch exp lag) in
    let bands : length ceps ≡ 22 = rw q (length_cepstrum logs) in
    o ∙ rw (ceps_stays l pitch ceps all seven bands, pitch_stays l pitch ceps all seven bands, p, q, n)

stored : (ceps logs mem new : List Float) (index : ℕ) → ceps ≡ cepstrum logs → new ≡ put (row index) mem ceps
    → new ≡ with_cepstrum logs mem index
unfolding with_cepstrum
stored ceps logs mem new index e n = n ∙ rw e

pub returns-clause-mem_after : goal.returns-clause-mem_after
returns-clause-mem_after c = stored _ _ _ _ c.args.newest.index c.cepstrum_of-ceps.ensures c.remember.ensures

pub returns-clause-features_after : goal.returns-clause-features_after
unfolding put
returns-clause-features_after c =
    let a = c.args in
    together a.features.now c.copy_from_slice.new.self c.copy_from_slice-2.new.self c.remember.new.mem
    c.add_deltas.new.features a.exp.now a.lag a.logs.now a.mem.now a.newest.index
    (omega arith)
    (c.copy_from_slice.ensures.after ∙ c.pitch_features.ensures)
    (c.copy_from_slice-2.ensures.after ∙ c.cepstrum_of-ceps.ensures)
    (stored _ _ _ _ a.newest.index c.cepstrum_of-ceps.ensures c.remember.ensures)
    c.add_deltas.ensures
