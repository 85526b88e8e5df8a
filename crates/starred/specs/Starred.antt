-- The examples that document 01 marks with a star, in one list, computed from the definitions alone. What a NaN gives
-- is decided by request 09.
use Rattle.std.specs.Prelude.{◌∷◌, ◌++◌, ◌≡◌, Some, None}
use Rattle.rules.specs.Common.{ℕ, List, [], map, take, replicate, binary32, nan}
use Rattle.rules.specs.F32.{f32, one}
use Rattle.numbers.specs.Activations.{tansig_approx, sigmoid_approx}
use Rattle.numbers.specs.Larger.{rectified}
use Rattle.numbers.specs.Root.{root}
use Rattle.model.specs.Model.{read_of}
use Rattle.model.specs.Reading.{Refused}
use Rattle.features.specs.Silence.{sound_of}

-- The smallest model, of 392 bytes: each GRU has one neuron, and all weights and biases are 0.
abbrev pub smallest_file : List ℕ
smallest_file =
    (42 ∷ 1 ∷ 0 ∷ replicate 43 0)
    ++ (1 ∷ 1 ∷ 0 ∷ replicate 9 0)
    ++ (44 ∷ 1 ∷ 0 ∷ replicate 138 0)
    ++ (44 ∷ 1 ∷ 0 ∷ replicate 138 0)
    ++ (1 ∷ 22 ∷ 1 ∷ replicate 44 0)
    ++ (1 ∷ 1 ∷ 1 ∷ replicate 2 0)

-- In this order:
-- - tansig of 0, 8, −8 and NaN
-- - sigmoid of 0 and NaN
-- - relu of NaN
-- - the square roots of 4, 2, −1 and −0
-- - as model files: no bytes, three bytes, the smallest model without its last byte, and with a byte more
-- - the silence test of 0.04, of the number just below it, and of NaN
abbrev pub Starred : Type 0
Starred =
    (map tansig_approx (f32 0 ∷ f32 0x4100_0000 ∷ f32 0xC100_0000 ∷ nan ∷ [])
    ≡ f32 0 ∷ one ∷ f32 0xBF80_0000 ∷ f32 0 ∷ [])
    × (map sigmoid_approx (f32 0 ∷ nan ∷ []) ≡ f32 0x3F00_0000 ∷ f32 0x3F00_0000 ∷ [])
    × (rectified nan ≡ f32 0)
    × (map (root binary32) (f32 0x4080_0000 ∷ f32 0x4000_0000 ∷ f32 0xBF80_0000 ∷ f32 0x8000_0000 ∷ [])
    ≡ f32 0x4000_0000 ∷ f32 0x3FB5_04F3 ∷ nan ∷ f32 0x8000_0000 ∷ [])
    × (map read_of ([] ∷ (128 ∷ 0 ∷ 0 ∷ []) ∷ take 391 smallest_file ∷ (smallest_file ++ 0 ∷ []) ∷ [])
    ≡ Refused 11 0 ∷ Refused 12 0 ∷ Refused 16 5 ∷ Refused 17 6 ∷ [])
    × (map sound_of (f32 0x3D23_D70A ∷ f32 0x3D23_D709 ∷ nan ∷ []) ≡ Some (f32 0x3D23_D70A) ∷ None ∷ Some nan ∷ [])
