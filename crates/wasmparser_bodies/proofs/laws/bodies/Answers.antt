use Rattle.wasmparser_bodies.proofs.BodyLaws.{body_again, body_found, broken_if, broken_is, many_again, many_found, operator_again, operator_found}
use Rattle.wasmparser_bodies.proofs.laws.bodies.Goals as goal

pub returns : goal.returns
returns c start = record {
  fine = λ features items index type bytes named are. (body_found features items index type named bytes are, body_again features items index type named bytes);
  many_locals = λ features items index type bytes named are. (many_found features items index type named bytes are, many_again features items index type named bytes);
  other_operator = λ features items index type bytes named are. (operator_found features items index type named bytes are, operator_again features items index type named bytes);
  broken = λ features items index type bytes named are.
      (broken_is features items index type named bytes, λ all. broken_if features items index type named bytes are all.0 all.1 all.2);
}
