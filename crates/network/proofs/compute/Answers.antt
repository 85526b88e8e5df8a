-- `network::compute` meets its contract. Assumes nothing.
use Rattle.std.specs.Prelude.{◌≡◌}
use Rattle.rules.proofs.Common.{◌∙◌, length}
use native.Mathlib.Omega.{arith}
use Rattle.network.proofs.Callers.{computed_wrong}
use Rattle.network.proofs.States.{joined_in, parted}
use Rattle.network.proofs.compute.Goals as goal

pub returns-then-vad-ne128 : goal.returns-then-vad-ne128
returns-then-vad-ne128 c =
    computed_wrong _ _ _ _ _ _ _
    (λ fits. omega (arith, c.then-vad-ne128.either, fits.first, fits.second, fits.third))

pub returns : goal.returns
returns c =
    let a = c.args in
    let s = c.compute_on-answer.new.states in
    let whole : length s ≡ 384 = c.compute_on-answer.auto.states ∙ c.join.auto.buf in
    let lv = c.if-vad-ne128.false in
    let ln = c.if-noise-ne128.false in
    let ld = c.if-denoise-ne128.false in
    let was = joined_in a.vad.now a.noise.now a.denoise.now c.join.new.buf lv ln ld c.join.auto.buf
    c.join.ensures in
    parted s whole c.copy_from_slice.ensures.after c.copy_from_slice-2.ensures.after c.copy_from_slice-3.ensures.after
    (rw (was.0, was.1, was.2) at c.compute_on-answer.ensures)
