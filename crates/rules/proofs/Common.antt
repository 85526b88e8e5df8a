-- The words that every proof uses: those of the definitions (specs/Common), and equality's laws.
pub use Prim.Native.Nat.{ℕ, zero, suc, ◌+◌, ◌-◌, ◌*◌, ◌/◌, ◌%◌, ◌^◌, ◌≤◌, ◌<◌}
pub use mathlib.Core.Bool.{Bool, true, false, cond, not, ◌&&◌, ◌||◌, true≢false, false≢true}
pub use mathlib.Core.List.{List, [], ◌∷◌, ◌++◌, map}
pub use mathlib.Core.Path.{◌≡◌, refl, sym, ap, ap₂, subst, ◌∙◌}
pub use lib.Dec.{eqb, leb, ltb, T}
pub use lib.ListN.{length, get_or, take, drop, set, replicate, length-set, length-take, length-drop, length-append}
pub use lib.IntN.{pos}
pub use lib.Ieee.{Float, binary32, binary64, nan, inf, fin, of_int, lt, le, neg, is_nan, up, down}
