-- `frame::heard::compute_features` meets its contract: what each call leaves, in a row. Assumes nothing.
use Rattle.std.specs.Prelude.{◌≡◌, ◌≤◌, Result}
use Rattle.rules.proofs.Common.{ℕ, List, ap, ◌∙◌, length, Float}
use native.Mathlib.Omega.{arith}
use Rattle.rules.specs.F32.{at}
use Rattle.rules.specs.Leaf.{◌leaving◌}
use Rattle.rules.specs.Place.{get, put}
use Rattle.rules.proofs.Refusals.{left as fitted, fitting}
use Rattle.rules.specs.declared.refusal.Refusal.{Refusal}
use Rattle.features.specs.Features.{FeaturesFit, normalised_corr, features_of, with_cepstrum}
use Rattle.frame.specs.Share.{kept_x, kept_ex, kept_lag, cepstral_mem}
use Rattle.frame.specs.Heard.{featured}
use Rattle.frame.specs.Private.{featured_as}
use Rattle.frame.proofs.Answered.{ok_of}
use Rattle.frame.proofs.Sizes.{x_size, ex_size, cepstra_size, lag_at}
use Rattle.frame.proofs.heard.compute_features.Goals as goal

-- what `compute_features` leaves, from x, ex and the lag as the share keeps them
sensed : (share : List Float) (index : ℕ) (p ep logs : List Float) {x ex : List Float} {lag : Float}
    {f e m : List Float}
    → x ≡ get kept_x share → ex ≡ get kept_ex share → at (get kept_lag share) 0 ≡ lag
    → (f leaving e leaving m)
    ≡ (features_of (normalised_corr x p ex ep) lag logs (get cepstral_mem share) index
    leaving normalised_corr x p ex ep
    leaving with_cepstrum logs (get cepstral_mem share) index)
    → featured_as (put cepstral_mem share m) f e ≡ featured share index p ep logs
unfolding featured
sensed share index p ep logs hx hex hlag h =
    rw (
      hlag,
      ← hx,
      ← hex,
      ap (λ (b : List Float × (List Float × List Float)). b.0) h,
      ap (λ (b : List Float × (List Float × List Float)). b.1.0) h,
      ap (λ (b : List Float × (List Float × List Float)). b.1.1) h,
    )

-- every length is as it should be
fit : (share features exp p ep logs : List Float) {x ex : List Float} {index : ℕ}
    → length share ≡ 3778 → length features ≡ 42
    → length exp ≡ 22 → index ≤ 7 → length p ≡ 961 → length ep ≡ 22 → length logs ≡ 22 → x ≡ get kept_x share
    → ex ≡ get kept_ex share
    → FeaturesFit (length features) (length exp) (length (get cepstral_mem share)) index (length x) (length p)
    (length ex) (length ep) (length logs)
fit share features exp p ep logs whole all correlations inside lagged lagged_energies logarithms hx hex =
    record {
      all = all;
      correlations = correlations;
      rows = cepstra_size share whole;
      inside = inside;
      spectrum = ap length hx ∙ x_size share whole;
      lagged = lagged;
      energies = ap length hex ∙ ex_size share whole;
      lagged_energies = lagged_energies;
      logarithms = logarithms;
    }

pub unwrap-requires : goal.unwrap-requires
unfolding get
unwrap-requires c =
    let pre = c.requires in
    let done = fitting c.compute_features.ensures
    (fit c.args.share.now c.args.features.now c.args.exp.now c.args.lent.p.now c.args.lent.ep.now c.args.lent.logs.now
    (omega arith) (omega arith) (omega arith) pre.inside (omega arith) (omega arith) (omega arith) pre.as_kept.0
    pre.as_kept.1) in
    ok_of (ap (λ (b : Result Unit Refusal × (List Float × (List Float × List Float))). b.0) done)

pub returns : goal.returns
unfolding get put
returns c =
    let a = c.args in
    let share = a.share.now in
    let pre = c.requires in
    sensed share a.index a.lent.p.now a.lent.ep.now a.lent.logs.now pre.as_kept.0 pre.as_kept.1 (lag_at share)
    (fitted c.compute_features.ensures
    (fit c.args.share.now c.args.features.now c.args.exp.now c.args.lent.p.now c.args.lent.ep.now c.args.lent.logs.now
    (omega arith) (omega arith) (omega arith) pre.inside (omega arith) (omega arith) (omega arith) pre.as_kept.0
    pre.as_kept.1))
