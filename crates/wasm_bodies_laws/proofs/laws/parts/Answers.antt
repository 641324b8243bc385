use Rattle.wasm_bodies_laws.proofs.Whole.{one_place, each_part, no_more}
use Rattle.wasm_bodies_laws.proofs.laws.parts.Goals as goal

pub returns : goal.returns
returns c start = record {
  one_place = λ cx type signature operators at labels last s named gives. one_place cx type signature named gives operators at labels last s;
  each_begun = λ cx type signature operators operator rest named gives. each_part cx type signature named gives operators operator rest;
  no_more = λ cx type signature operators others named gives. no_more cx type signature named gives operators others;
}
