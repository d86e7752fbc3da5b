-- The names that the walks cite.
pub use Rattle.std.proofs.Common.{◌≡◌, ℕ, ◌+◌, ◌*◌, ◌^◌, ◌<◌, List, [], ◌∷◌, length, Bool, true, false, refl, sym, ap, subst, ◌∙◌, w32, w64, MutBor, arith}
pub use Rattle.std.proofs.raw_atomic.Walks.{proved}
pub use base.Fraction.{full_share}
pub use base.Logic.{SProp, ent, sep, never, id⊢}
pub use base.Fml.{Lft, GName, Share, Fml, ftrue, fat, flft, flt}
pub use seplogic.Ra.Ura.{Ura}
pub use mir.Syntax.{named}
pub use mir.Val.{Val, vunit, vint, vptr, vstruct, vcons, vnil}
pub use contract.Monad.{fact}
pub use contract.Running.{tables}
pub use types.Logic.{Logic, sem}
pub use types.Kit.{‵, raw, ◌⊛◌, some, given, later, prop, at_ret, ◌$◌, ◌∵◌, !, qed, by, done, move, keep, drop, use0, use1, use2, use3, split, join, fsplit, fsplit3, fjoin, fjoin3, feq_i, pick, learn, await, rewrite, regoal, suffices, frame, group, Seq, Step, step, Item, Goal, Soaks}
pub use types.Part.{whole, sub, look_in, store_in, agg}
pub use types.Run.{enter, of_opd, lit, unit_lit, bin, un, load, stop, fld, hop, from, no_more, and_then, assigns, assigns_last, first, blocks, exec, returns, well_typed}
pub use types.ByLocal.{alloc_all, pass_all, free_all, look_at, take_at, give_at, get, get_in, through, sets, sets_last, is, env}
pub use denote.Builtin.{u32, usize, RefOf}
pub use denote.Exit.{yes}
pub use denote.Laws.{shows, Is}
pub use denote.Plain.{uint_Makes, uint_vals, uint_Tells}
pub use denote.RawPtr.{Ptr, RawPtr, block_ptr, ptr_val, in_a_block, ◌+ₚ◌}
pub use denote.RattleType.{RattleType, RowLaws, owns}
pub use denote.Ref.{mut_vals, mut_Tells, shr_vals, shr_Tells}
pub use denote.Signature.{plain, types_at}
pub use denote.Memory.{cell_at, part_at, hidden_shr}
pub use denote.Opens.{hide, unhide, laws_dup, Shut}
pub use denote.Sharing.{ShrLaws}
pub use denote.SharingLaws.{nothing_shr_laws, beside_shr_laws}
pub use denote.Struct.Lending.{lent_at_shr_laws}
pub use denote.Steps.{nothing, owned, looks, shuts, peeks, heard, only}
pub use denote.Triple.Entry.{on_entry}
pub use denote.Triple.Walked.{Stays, walk_of, says, stay_dropped, Goes-dropped, stay_ref, Goes-ref, ends_at}
