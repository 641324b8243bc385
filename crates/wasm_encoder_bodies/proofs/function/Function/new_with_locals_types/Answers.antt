use Rattle.std.proofs.Common.{rules, [], ◌∷◌, ◌++◌, map}
use Rattle.wasm_encoder_bodies.specs.CoreLocals.{pair_of}
use Rattle.wasm_encoder_bodies.proofs.Taken.{one_more_taken}
use Rattle.wasm_encoder_bodies.proofs.function.Function.new_with_locals_types.Goals as goal

pub returns-in_err-push_type-clause-too_long : goal.returns-in_err-push_type-clause-too_long
returns-in_err-push_type-clause-too_long g c is = (
  c.into_iter-ty-iterator.result,
  c.next.new.self,
  c.loop-ty.yielded,
  c.in-Some.ty,
  search rules,
  (c.loop-ty.ty-iterator, search rules, search rules),
  (map pair_of c.loop-ty.runs.items, c.loop-ty.invariant.runs, c.loop-ty.invariant.writable),
  c.push_type.ensures.too_long (search rules) c.loop-ty.yielded c.loop-ty.invariant.runs,
)

pub returns-in_err-push_type-clause-memory : goal.returns-in_err-push_type-clause-memory
returns-in_err-push_type-clause-memory g c is = (
  c.into_iter-ty-iterator.result,
  c.next.new.self,
  c.loop-ty.yielded ++ c.in-Some.ty ∷ [],
  search rules,
  one_more_taken g.L.IntoIter.Iterator.next_gives c.loop-ty.yielded c.in-Some.ty c.into_iter-ty-iterator.result c.loop-ty.ty-iterator c.next.new.self (search rules) (search rules),
  c.push_type.ensures.memory (search rules) c.loop-ty.yielded c.loop-ty.invariant.runs,
)

pub returns-in_err-bytes-clause-memory : goal.returns-in_err-bytes-clause-memory
returns-in_err-bytes-clause-memory g c is = (
  c.into_iter-ty-iterator.result,
  c.loop-ty.ty-iterator,
  c.loop-ty.yielded,
  search rules,
  search rules,
  (map pair_of c.loop-ty.runs.items, c.loop-ty.invariant.runs, c.loop-ty.invariant.writable),
)
