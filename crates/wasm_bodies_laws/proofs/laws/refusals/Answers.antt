use Rattle.wasm_bodies_laws.proofs.Whole.{no_body, never_follows, not_begun, not_closed}
use Rattle.wasm_bodies_laws.proofs.laws.refusals.Goals as goal

pub returns : goal.returns
returns c start = record {
  no_body = λ cx type signature operators named gives. no_body cx type signature named gives operators;
  never_follows = λ cx type signature operators operator rest m named gives. never_follows cx type signature named gives operators operator rest m;
  no_beginning = λ cx type signature operators labels s named gives. not_begun cx type signature named gives operators labels s;
  left_open = λ cx type signature operators m named gives. not_closed cx type signature named gives operators m;
}
