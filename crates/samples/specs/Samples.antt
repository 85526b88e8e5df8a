-- Which samples a call accepts (request 05).
use Rattle.std.specs.Prelude.{◌&&◌, ◌∷◌}
use Rattle.rules.specs.Common.{Bool, true, List, [], Float, le}
use Rattle.rules.specs.F32.{f32}

-- A good sample is from −32768 to 32767, both included. NaN is not good.
abbrev pub good_sample : Float → Bool
good_sample x = le (f32 0xC7000000) x && le x (f32 0x46FFFE00)

unfoldable pub good : List Float → Bool
good [] = true
good (x ∷ xs) = good_sample x && good xs
