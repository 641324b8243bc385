use Rattle.wasmparser_bodies.proofs.BodySteps.{from_start}
use Rattle.wasmparser_bodies.proofs.laws.starts.Goals as goal

pub returns : goal.returns
returns c = λ state bytes at. from_start state bytes at
