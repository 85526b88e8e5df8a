-- `pieces::begin::piece_tests` meets its contract. Assumes nothing.
use Rattle.rules.proofs.Common.{sym, ◌∙◌}
use borrow.Author.Rules.{rules}
use Rattle.pieces.proofs.Accepted.{fits_waiting}
use Rattle.pieces.proofs.begin.piece_tests.Goals as goal

pub waiting_good-requires : goal.waiting_good-requires
waiting_good-requires c = (search rules, fits_waiting _ _ _ _ (sym c.piece_fits.ensures ∙ c.if-not-piece_fits.false))
