-- `wnorm` of lib.rs, `common`: 1_f32 / window.iter().map(|x| x * x).sum::<f32>(). Rust's f32 sum starts from -0.0.
use Rattle.std.specs.Prelude.{◌∷◌}
use Rattle.rules.specs.Common.{List, [], Float, neg}
use Rattle.rules.specs.F32.{◌⊕◌, ◌⊗◌, ◌⊘◌, f32, one}
use Rattle.bands.specs.Window.{window}

unfoldable pub sum_squares : Float → List Float → Float
sum_squares sum [] = sum
sum_squares sum (x ∷ xs) = sum_squares (sum ⊕ x ⊗ x) xs

unfoldable pub wnorm : Float
wnorm = one ⊘ sum_squares (neg (f32 0)) window
