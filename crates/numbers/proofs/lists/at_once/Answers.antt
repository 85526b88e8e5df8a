-- `numbers::lists::at_once` meets its contract: what is followed from the entry at a number's place is its `tansig_in`.
-- Assumes nothing.
use Rattle.std.specs.Prelude.{◌≡◌}
use Rattle.rules.proofs.Common.{ℕ, List, map, ap, ◌∙◌, length, Float, nan}
use Rattle.rules.specs.F32.{at}
use Rattle.rules.specs.Tab.{tab}
use Rattle.rules.proofs.Lists.{tab_map, get_d_tab, tab_same}
use Rattle.numbers.specs.Activations.{tansig_in}
use Rattle.numbers.specs.Private.{entry_in, followed}
use Rattle.numbers.proofs.Floors.{ends}
use Rattle.numbers.proofs.lists.at_once.Goals as goal

joined : (table xs : List Float) {ys left : List Float} → ys ≡ tab (length xs) (λ j. entry_in table (at xs j))
    → left ≡ tab (length xs) (λ j. followed (at xs j) (at ys j))
    → left ≡ map (tansig_in table) xs
joined table xs {ys} looked e =
    let entry : ℕ → Float = λ j. entry_in table (at xs j) in
    e
    ∙ tab_same (length xs) (λ j. followed (at xs j) (at ys j)) (λ j. tansig_in table (at xs j))
    (λ j inside. ap (followed (at xs j))
    (ap (λ (l : List Float). at l j) looked ∙ get_d_tab (length xs) entry j nan inside) ∙ ends table (at xs j))
    ∙ tab_map (tansig_in table) nan xs

pub returns : goal.returns
returns c = joined c.args.table.now c.args.xs.now c.entries.ensures c.curves.ensures
