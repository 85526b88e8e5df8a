-- `Biquad::filter` of util.rs, in f64. Every f32 is an f64, so `x as f64` is x itself. `x as f32` is `narrowed`.
use Rattle.std.specs.Prelude.{◌∷◌, ◌++◌}
use Rattle.rules.specs.Common.{ℕ, List, [], length, Float}
use Rattle.rules.specs.F32.{f32, at}
use Rattle.rules.specs.F64.{◌+₆₄◌, ◌-₆₄◌, ◌*₆₄◌}
use Rattle.rules.specs.Loop.{loop}
use Rattle.numbers.specs.declared.filter.Biquad.{Biquad}
use Rattle.numbers.specs.declared.filter.Memory.{Memory}
use Rattle.numbers.specs.Narrowed.{narrowed}

-- The filter's memory, mem: [f32; 2], from a list.
abbrev pub memory_of : List Float → Memory
memory_of mem = record { m0 = at mem 0; m1 = at mem 1 }

-- The memory as a list.
abbrev pub memory_list : Memory → List Float
memory_list mem = mem.m0 ∷ mem.m1 ∷ []

-- Rust: BIQUAD_HP, with a = [-1.99599, 0.99600] and b = [-2.0, 1.0].
abbrev pub high_pass : Biquad
high_pass = record { a0 = f32 0xBFFF7C9A; a1 = f32 0x3F7EF9DB; b0 = f32 0xC0000000; b1 = f32 0x3F800000 }

-- for (&x, y) in input.iter().zip(output) {
--     let x64 = x as f64;
--     let y64 = x64 + mem[0] as f64;
--     mem[0] = (mem[1] as f64 + (b0 * x64 - a0 * y64)) as f32;
--     mem[1] = (b1 * x64 - a1 * y64) as f32;
--     *y = y64 as f32;
-- }
-- The loop carries mem and what it has stored of the output.
unfoldable pub filter_step : Biquad → List Float → ℕ → Memory × List Float → Memory × List Float
unfolding narrowed
filter_step k input i s =
    let mem = s.0 in
    let x64 = at input i in
    let y64 = x64 +₆₄ mem.m0 in
    let m0 = narrowed (mem.m1 +₆₄ (k.b0 *₆₄ x64 -₆₄ k.a0 *₆₄ y64)) in
    let m1 = narrowed (k.b1 *₆₄ x64 -₆₄ k.a1 *₆₄ y64) in
    (record { m0 = m0; m1 = m1 }, s.1 ++ (narrowed y64 ∷ []))

-- The memory and the output after all of the input.
unfoldable pub filtered : Biquad → Memory → List Float → Memory × List Float
unfolding loop filter_step
filtered k mem input = loop (length input) (filter_step k input) (mem, [])

-- The memory afterwards.
abbrev pub memory_after : Biquad → Memory → List Float → Memory
memory_after k mem input = (filtered k mem input).0

-- The output.
abbrev pub outputs : Biquad → Memory → List Float → List Float
outputs k mem input = (filtered k mem input).1
