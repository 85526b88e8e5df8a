-- `numbers::lists::sigmoids` meets its contract. Assumes nothing.
use Rattle.std.specs.Prelude.{◌≡◌}
use Rattle.rules.proofs.Common.{List, map, ap, ◌∙◌, Float}
use Rattle.std.proofs.Common.{rules}
use mathlib.Core.List.{map-map}
use Rattle.rules.specs.F32.{f32, ◌⊕◌, ◌⊗◌}
use Rattle.numbers.specs.Activations.{tansig_in, sigmoid_in}
use Rattle.numbers.proofs.lists.sigmoids.Goals as goal

abbrev half : Float → Float
half x = f32 0x3F000000 ⊗ x

abbrev lift : Float → Float
lift x = f32 0x3F000000 ⊕ f32 0x3F000000 ⊗ x

joined : (table xs : List Float) {a b r : List Float} → a ≡ map half xs → b ≡ map (tansig_in table) a → r ≡ map lift b
    → r ≡ map (sigmoid_in table) xs
unfolding sigmoid_in
joined table xs {a} {b} halved curved lifted =
    lifted ∙ ap (map lift) (curved ∙ ap (map (tansig_in table)) halved ∙ map-map (tansig_in table) half xs)
    ∙ map-map lift (λ x. tansig_in table (half x)) xs

pub returns : goal.returns
returns c =
    joined c.args.table.now c.args.xs.now (c.each.ensures half (λ x y e. search rules)) c.tansigs.ensures
    (c.each-2.ensures lift (λ x y e. search rules))
