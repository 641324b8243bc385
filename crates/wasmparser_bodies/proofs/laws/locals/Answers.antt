use Rattle.wasmparser_bodies.proofs.LocalsMeaning.{locals_again, locals_found, past_again, past_found}
use Rattle.wasmparser_bodies.proofs.laws.locals.Goals as goal

pub returns : goal.returns
returns c start = record {
  found = λ features items type encoding rest runs are. locals_again features items type encoding rest runs are;
  declared = λ features items type bytes locals rest are. locals_found features items type bytes locals rest are;
  past = λ features items type bytes are. (past_found features items type bytes are, past_again features items type bytes);
}
