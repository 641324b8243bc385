-- Worked examples of bodies are worked out.
use Rattle.std.proofs.Common.{true, false, ◌≡◌}
use Rattle.wasm_bodies.specs.Bodies.{Code}
use Rattle.wasm_bodies.specs.BodyContext.{BodyContext}
use Rattle.wasm_bodies.proofs.Judging.{is_typed, is_kept, is_broken}
use Rattle.wasm_spec_examples.specs.BodyExamples.{IsRight, IsWrong}

pub right : {R : Type 0} {cx : BodyContext R} {code : Code} → is_typed cx code ≡ true → IsRight cx code
right {R} {cx} {code} e = record { typed = is_kept cx code e }

pub wrong : {R : Type 0} {cx : BodyContext R} {code : Code} → is_typed cx code ≡ false → IsWrong cx code
wrong {R} {cx} {code} e = record { broken = is_broken cx code e }
