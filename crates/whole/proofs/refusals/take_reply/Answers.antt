-- `whole::refusals::take_reply` meets its contract: each answer by the tests that lead to it. Assumes nothing.
use Rattle.std.specs.Prelude.{◌≤◌, ◌≡◌}
use native.Mathlib.Omega.{arith}
use Rattle.rules.proofs.Common.{ℕ, Bool, true, sym, ◌∙◌, length}
use borrow.Author.Tests.{ne_eqb, le-leb, lt-leb}
use Rattle.pieces.specs.Pieces.{piece_fits}
use Rattle.desk.specs.Gate.{BENCHES}
use Rattle.rules.proofs.Numbered.{never_0}
use Rattle.desk.proofs.Results.{same_error}
use Rattle.desk.proofs.Turned.{through}
use Rattle.whole.specs.Whole.{take_reply}
use Rattle.whole.proofs.Accepted.{fits_sizes}
use Rattle.whole.proofs.refusals.take_reply.Goals as goal

-- the piece's numbers, past the test of its lengths
sizes : (waiting size out : ℕ) {t : Bool} → t ≡ piece_fits waiting size out 22 → t ≡ true
    → (waiting ≤ 479) × (size ≤ 4096)
sizes waiting size out e h = let f = fits_sizes waiting size out 22 (sym e ∙ h) in (f.0, f.2)

pub returns-in_err-gate : goal.returns-in_err-gate
unfolding take_reply
returns-in_err-gate c =
    rw (same_error _ _ c.from_residual.ensures.1, ← c.in_err-gate.ensures, ne_eqb _ 0 (never_0 c.in_err-gate.field-0.0))

pub returns-then-not-piece_fits : goal.returns-then-not-piece_fits
unfolding take_reply
returns-then-not-piece_fits c =
    rw (
      c.into.ensures,
      ← c.in_ok-gate.ensures,
      sym c.piece_fits.ensures ∙ c.if-not-piece_fits.true,
    )

pub overflow_add-rec : goal.overflow_add-rec
unfolding take_reply
overflow_add-rec c = omega (arith, sizes _ _ _ c.piece_fits.ensures c.if-not-piece_fits.false)

pub overflow_mul-rec : goal.overflow_mul-rec
unfolding take_reply
overflow_mul-rec c = omega (arith, sizes _ _ _ c.piece_fits.ensures c.if-not-piece_fits.false)

pub returns-then-rec-piece : goal.returns-then-rec-piece
unfolding take_reply
returns-then-rec-piece c =
    rw (
      c.into-then-rec-piece.ensures,
      ← c.in_ok-gate.ensures,
      sym c.piece_fits.ensures ∙ c.if-not-piece_fits.false,
      lt-leb _ _ c.if-rec-piece.true,
    )

pub both_good-fine-requires : goal.both_good-fine-requires
both_good-fine-requires c =
    let a = c.args in
    let t = through BENCHES a.side.0 a.rec (length a.store.now) 5 (sym c.in_ok-gate.ensures) in
    (t.0, t.1, (sizes _ _ _ c.piece_fits.ensures c.if-not-piece_fits.false).0)

pub returns : goal.returns
unfolding take_reply
returns c =
    c.last_tests.ensures
    ∙ rw (
      ← c.in_ok-gate.ensures,
      sym c.piece_fits.ensures ∙ c.if-not-piece_fits.false,
      le-leb _ _ c.if-rec-piece.false,
      c.both_good-fine.ensures,
    )
