use Rattle.std.proofs.Common.{rules, [], ◌∷◌, ◌++◌}
use Rattle.wasm_encoder_bodies.proofs.EncodingLists.{one_short, one_taken}
use Rattle.wasm_encoder_bodies.proofs.encodings.encodings_of.Goals as goal

pub returns-in_err-encode_alone-clause-too_long : goal.returns-in_err-encode_alone-clause-too_long
returns-in_err-encode_alone-clause-too_long g c is = (
  c.next.new.self,
  c.loop-item.yielded,
  c.in-Some.item,
  (c.loop-item.item-iterator, search rules, search rules),
  c.loop-item.invariant.short,
  search rules,
)

pub returns-in_err-encode_alone-clause-memory : goal.returns-in_err-encode_alone-clause-memory
returns-in_err-encode_alone-clause-memory g c is = (
  c.next.new.self,
  c.loop-item.yielded ++ c.in-Some.item ∷ [],
  one_taken g.I.Iterator.next_gives c.loop-item.yielded c.in-Some.item c.args.items c.loop-item.item-iterator c.next.new.self (search rules) (search rules),
  one_short g.T.Encoding.encoding c.loop-item.yielded c.in-Some.item c.loop-item.invariant.short (search rules),
)
