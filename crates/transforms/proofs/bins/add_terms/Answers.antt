-- `transforms::bins::add_terms` meets its contract. Assumes nothing.
use mathlib.Core.Path.{◌∙◌}
use native.Mathlib.Omega.{arith}
use Rattle.transforms.specs.Private.{plus_terms}
use Rattle.transforms.proofs.Terms.{eight_same, by_rest}
use Rattle.transforms.proofs.bins.add_terms.Goals as goal

pub returns : goal.returns
unfolding plus_terms
returns c =
    eight_same
    (c.ahead.ensures ∙ by_rest _ _ _ _ _ (omega arith))
    (c.ahead-2.ensures ∙ by_rest _ _ _ _ _ (omega arith))
    (c.back.ensures ∙ by_rest _ _ _ _ _ (omega arith))
    (c.back-2.ensures ∙ by_rest _ _ _ _ _ (omega arith))
    (c.ahead-3.ensures ∙ by_rest _ _ _ _ _ (omega arith))
    (c.ahead-4.ensures ∙ by_rest _ _ _ _ _ (omega arith))
    (c.back-3.ensures ∙ by_rest _ _ _ _ _ (omega arith))
    (c.back-4.ensures ∙ by_rest _ _ _ _ _ (omega arith))
