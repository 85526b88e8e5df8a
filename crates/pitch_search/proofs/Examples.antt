-- `find_best_pitch` at numbers that the Rust was run on, computed from the definition alone. Assumes nothing.
use Rattle.std.specs.Prelude.{◌∷◌, ◌≡◌, Ok}
use Rattle.rules.proofs.Common.{[], refl}
use lib.Ieee.{lt, neg, is_nan, of_bits, add, sub, mul}
use Rattle.rules.specs.Loop.{loop}
use Rattle.rules.specs.F32.{one}
use Rattle.pitch_search.specs.Best.{considered, slid, best, best_of}

-- of two lags that are as good as each other the first stays first
examples : best_of (one ∷ one ∷ []) (one ∷ one ∷ one ∷ []) 1 ≡ Ok (record { first = 0; second = 1 })
unfolding best considered slid loop lt neg is_nan of_bits add sub mul
examples = refl
