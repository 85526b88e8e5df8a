-- The names of the logic that walks by hand cite, in one place.
pub use Prim.Native.Nat.{ℕ, ◌<◌, ◌^◌}
pub use mathlib.Core.Path.{◌≡◌, refl, subst}
pub use mathlib.Core.List.{List, [], ◌∷◌}
pub use lib.ListN.{length}
pub use lib.Dec.{T as Holds}
pub use seplogic.Ra.Ura.{Ura}
pub use mir.Syntax.{Lifetime, named, erased, w32, w64}
pub use mir.Val.{Val, WT, has_ty}
pub use base.Logic.{SProp, ent, sep, emp, id⊢, via, fst∗}
pub use base.Fml.{Fml}
pub use prog.Wp.{Heap}
pub use prog.Model.{Model}
pub use ghost.Atoms.{Atoms}
pub use contract.Lifetimes.{Lfts, Shares}
pub use contract.Running.{Running}
pub use types.Kit.{Item, ‵, raw, ◌⊛◌, ⋆, mean, ◌$◌, ◌∵◌, !, qed, by, move, keep, drop, group, use1, use2, split}
pub use types.Kit.{join, fsplit, fjoin, feq_l, suffices, frame, done}
pub use types.Part.{agg, whole, sub, look_in}
pub use types.Run.{look, init, stop, hop, fld, from, addr, of_opd, and_then, no_more, returns, enter, alloc1, alloc0}
pub use types.Run.{params1, pass1, pass0, free0}
pub use denote.RattleType.{RattleType}
pub use denote.Laws.{Is}
pub use denote.Plain.{uint_vals, uint_Lawful}
pub use denote.Builtin.{u8, u32, f32}
pub use denote.Ref.{Bor, MutBor, NamedLft}
pub use denote.Signature.{plain}
pub use denote.Slice.{shr_slice_vals, mut_slice_vals, ShrSlice, MutSlice, Room, finally}
pub use denote.Steps.{nothing}
pub use denote.Triple.Entry.{Args}
pub use denote.Triple.Statement.{Contract}
pub use denote.Triple.Clauses.{Clauses}
pub use denote.Triple.Walked.{says}
pub use denote.Exit.{Kept, yes}
