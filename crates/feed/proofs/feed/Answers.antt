-- `feed::feed` meets its contract: the tests, and then its parts over an array. Assumes nothing.
use Rattle.std.specs.Prelude.{◌≤◌, ◌≡◌, Result}
use Rattle.rules.proofs.Common.{ℕ, Bool, true, List, Float, refl, sym, ap, ◌∙◌}
use Rattle.rules.specs.declared.refusal.Refusal.{Refusal}
use Rattle.rules.proofs.Refusals.{fitting as when_fitting, left}
use Rattle.rules.proofs.Numbered.{never_0}
use Rattle.desk.proofs.Results.{same_error}
use Rattle.feed.specs.Feed.{block_of}
use Rattle.feed.specs.Private.{fitting}
use Rattle.feed.proofs.Handed.{turned, shut, unpacks, fed, sized, part_length, ready}
use Rattle.feed.proofs.feed.Goals as goal

-- how many samples there are, behind the tests
many : (waiting n cleaned records answers : ℕ) {t : Bool} → t ≡ fitting waiting n cleaned records answers → t ≡ true
    → n ≤ 4096
many waiting n cleaned records answers e h = (sized waiting n cleaned records answers (sym e ∙ h)).2

pub returns-in_err-gate : goal.returns-in_err-gate
returns-in_err-gate c =
    rw (same_error _ _ c.from_residual.ensures.1)
    (turned _ _ _ _ _ _ _ _ _ c.in_err-gate.ensures (never_0 c.in_err-gate.field-0.0))

pub returns-then-not-fits : goal.returns-then-not-fits
returns-then-not-fits c =
    rw c.into.ensures
    (shut _ _ _ _ _ _ _ _ _ (sym c.in_ok-gate.ensures) c.samples_in-n.ensures c.fits.ensures c.if-not-fits.true)

pub slice_bounds-places-end : goal.slice_bounds-places-end
slice_bounds-places-end c = many _ _ _ _ _ c.fits.ensures c.if-not-fits.false

pub unwrap-requires : goal.unwrap-requires
unwrap-requires c =
    let a = c.args in
    let long = part_length _ _ refl (many _ _ _ _ _ c.fits.ensures c.if-not-fits.false) in
    let reads = unpacks _ a.side.0 a.rec a.store.now (block_of a.block.now a.format a.channels a.channel) a.model.now
    a.cleaned.now a.records.now a.answers.now (sym c.in_ok-gate.ensures) c.samples_in-n.ensures c.fits.ensures
    c.if-not-fits.false long in
    rw (ap (λ (x : Result Unit Refusal × List Float). x.0) (when_fitting c.unpack.ensures reads))

pub clean-requires : goal.clean-requires
clean-requires c =
    ready _ _ _ _ c.fits.ensures c.if-not-fits.false
    (c.unpack.auto.out ∙ part_length _ _ refl (many _ _ _ _ _ c.fits.ensures c.if-not-fits.false))

pub returns : goal.returns
returns c =
    fed _ _ _ _ _ _ _ _ _ (sym c.in_ok-gate.ensures) c.samples_in-n.ensures
    c.fits.ensures c.if-not-fits.false
    (part_length _ _ refl (many _ _ _ _ _ c.fits.ensures c.if-not-fits.false)) (left c.unpack.ensures) c.clean.ensures
