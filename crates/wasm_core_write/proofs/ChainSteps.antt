-- The words of the walks of chaining calls, passed on to `ChainsOf..`.
pub use Rattle.std.proofs.Common.{◌≡◌, ℕ, List, [], ◌∷◌, ◌++◌, refl, sym, subst, lit<, MutBor}
pub use Rattle.std.proofs.raw_atomic.Walks.{proved_at}
pub use base.Fraction.{full_share}
pub use base.Logic.{SProp, ent, id⊢}
pub use base.Fml.{ftrue, flft, fres}
pub use mir.Syntax.{Body, named, Fn}
pub use mir.Val.{Val, vptr, of_list}
pub use prog.Wp.{Env, Wp, WpFn, after_seq, at_return}
pub use contract.Monad.{fact}
pub use contract.Running.{tables, Running}
pub use types.Kit.{Post as After, any_q, ‵, raw, ◌⊛◌, some, later, at_ret, ◌$◌, ◌∵◌, !, qed, done, move, keep, use0, use1, use2, use3, split, join, fsplit, fsplit3, fjoin, pick, await, rewrite, suffices, frame}
pub use types.Run.{enter, of_opd, lit, addr, stop, fld, no_more, and_then, first, switches_on, exec, returns}
pub use types.ByLocal.{alloc_all, pass_all, free_all, look_at, get, get_in, get_tag, through, sets, sets_last, lands_as, env}
pub use types.Part.{whole, agg}
pub use types.Match.{live, vrt, in_variant}
pub use types.Tokens.{lft_new, lft_end}
pub use denote.Exit.{yes, Last, rest}
pub use denote.Follow.{follows}
pub use denote.Lend.{lends_again, comes_back, LentAgain}
pub use denote.RattleType.{RattleType}
pub use denote.Ref.{MutRef}
pub use denote.Signature.{plain}
pub use denote.Steps.{nothing, heard}
pub use denote.Triple.Call.{calls_at}
pub use denote.Triple.Clauses.{lasts, closing, Ended}
pub use denote.Triple.Spec.{triple_of}
pub use contract.Lifetimes.{toks}
pub use Prim.Native.Nat.{suc}
pub use denote.Triple.Table.{framed}
pub use denote.Triple.Walked.{walk_of, Goes-spent_ref, ends_at}
pub use borrow.Follows.Kept.{follows_itself}
pub use Rattle.std.specs.Prelude.{Ok, Err, IfOk, IfErr}
pub use Rattle.std.proofs.VecSteps.Shapes.{after, head, arm_body}
pub use Rattle.std.proofs.mem.Facts.{says_three}
pub use Rattle.std.proofs.ResultValues.{ok_of, err_of}
pub use Rattle.wasm_core_write.specs.contracts.encode_error.EncodeError.{the_row as error_row}
pub use Rattle.wasm_core_write.proofs.encode_error.EncodeError.TheLaws.{lowered}
pub use Rattle.wasm_core_write.proofs.Chains.{Done, done_row, refused, alone, good, good_refused, by_result}
pub use prog.Model.{Model}
pub use seplogic.Ra.Ura.{Ura}
pub use types.Logic.{Logic}
