-- `network::compute_on` meets its contract. Assumes nothing.
use mathlib.Core.Path.{sym}
use native.Mathlib.Omega.{arith}
use borrow.Author.Rules.{rules}
use Rattle.network.proofs.Callers.{computed_wrong, computed_misread, computed_done}
use Rattle.network.proofs.States.{fit_on, whole_of}
use Rattle.network.proofs.compute_on.Goals as goal

pub returns-then-gains-ne22 : goal.returns-then-gains-ne22
returns-then-gains-ne22 c =
    computed_wrong _ _ _ _ _ _ _
    (λ fits. omega (arith, c.then-gains-ne22.either, fits.gained, fits.voiced, whole_of _ fits, fits.featured))

pub returns-in_err-m : goal.returns-in_err-m
returns-in_err-m c =
    let fit = fit_on _ c.if-gains-ne22.false c.if-voice-ne1.false c.if-states-ne384.false c.if-features-ne42.false in
    rw (← computed_misread _ _ _ _ _ _ _ fit (sym c.in_err-m.ensures)) (search rules)

pub returns : goal.returns
returns c =
    computed_done _ _ _ _ _ _ _ (fit_on _ c.if-gains-ne22.false c.if-voice-ne1.false
    c.if-states-ne384.false c.if-features-ne42.false)
    (sym c.in_ok-m.ensures) c.frame.ensures
