-- The definitions at numbers that the Rust was run on: two neurons, three inputs, each activation. Assumes nothing.
use Rattle.std.specs.Prelude.{◌∷◌, ◌++◌, ◌≡◌}
use Rattle.rules.proofs.Common.{List, [], map, refl, Float, binary32}
use lib.Ieee.{is_nan, lt, to_bits, of_bits, neg, add, sub, mul, of_int, to_unsigned}
use Rattle.rules.specs.Loop.{loop}
use Rattle.rules.specs.F32.{f32}
use Rattle.numbers.specs.Tansig.{tansig}
use Rattle.numbers.specs.Activations.{tansig_in, sigmoid_in}
use Rattle.matrix.specs.Sums.{mul_add}
use Rattle.network.specs.Layers.{dense_of, gate_sums, gru_of}
use Rattle.model.specs.declared.Activation.{Activation}
use Rattle.model.specs.declared.Activation.TheVariants.{Tanh, Sigmoid, Relu}

-- 0.5, -1.0, 0.1
abbrev input : List Float
input = map f32 (0x3F000000 ∷ 0xBF800000 ∷ 0x3DCCCCCD ∷ [])

-- 0.25, -0.7
abbrev state : List Float
state = map f32 (0x3E800000 ∷ 0xBF333333 ∷ [])

abbrev dense : Activation → List Float
dense activation = dense_of (1 ∷ 38 ∷ 75 ∷ 112 ∷ 149 ∷ 186 ∷ []) (5 ∷ 42 ∷ []) activation input

abbrev gru : Activation → List Float
gru activation =
    gru_of
    (1 ∷ 38 ∷ 75 ∷ 112 ∷ 149 ∷ 186 ∷ 223 ∷ 4 ∷ 41 ∷ 78 ∷ 115 ∷ 152 ∷ 189 ∷ 226 ∷ 7 ∷ 44 ∷ 81 ∷ 118 ∷ [])
    (9 ∷ 46 ∷ 83 ∷ 120 ∷ 157 ∷ 194 ∷ 231 ∷ 12 ∷ 49 ∷ 86 ∷ 123 ∷ 160 ∷ [])
    (5 ∷ 42 ∷ 79 ∷ 116 ∷ 153 ∷ 190 ∷ []) activation input state

examples :
    map (to_bits binary32) (dense Tanh ++ gru Tanh ++ dense Sigmoid ++ gru Sigmoid ++ dense Relu ++ gru Relu)
    ≡ (0xBE9B59C4 ∷ 0xBE641C22 ∷ 0xBE7CE15B ∷ 0xBEA03C37 ∷ 0x3ED83983 ∷ 0x3EE31F9F ∷ 0x3E718EEA ∷ 0xBE170F44
    ∷ 0 ∷ 0 ∷ 0x3E0CD803 ∷ 0xBE9FD9CD ∷ [])
unfolding dense_of gate_sums gru_of mul_add loop tansig_in sigmoid_in tansig is_nan lt to_bits of_bits neg add sub mul
    of_int to_unsigned
examples = refl
