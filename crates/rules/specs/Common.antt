-- The names that every crate uses: numbers, truth values, lists, equality and floats.
pub use Rattle.std.specs.Prelude.{ℕ, zero, suc, ◌+◌, ◌-◌, ◌*◌, ◌/◌, ◌%◌, ◌^◌, min, ◌≤◌, ◌<◌, Bool, true, false, cond}
pub use Rattle.std.specs.Prelude.{not, ◌&&◌, ◌||◌, List, [], ◌∷◌, ◌++◌, map, ◌≡◌, eqb, leb, ltb, length, get_or, take}
pub use Rattle.std.specs.Prelude.{drop, set, replicate, pos, Float}
pub use Rattle.std.specs.Float.{binary32, binary64, nan, inf, fin}
pub use Rattle.std.specs.Float.Ieee.{of_int, lt, le, neg, is_nan, up, down}
unfoldable pub use Rattle.std.specs.Float.Ieee.{of_bits, round}
