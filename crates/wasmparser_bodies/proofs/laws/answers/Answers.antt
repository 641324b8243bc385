use Rattle.std.specs.Prelude.{⊤}
use Rattle.wasmparser_bodies.proofs.BodyLaws.{right_so_far, validated}
use Rattle.wasmparser_bodies.proofs.laws.answers.Goals as goal

pub returns : goal.returns
returns c start = record {
  validated = λ features items index type body answer named are. validated features items index type named (λ left. ⊤) body answer are;
  so_far = λ features items index type body answer named are. right_so_far features items index type named body answer are;
}
