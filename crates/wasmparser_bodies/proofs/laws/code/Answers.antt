use Rattle.wasmparser_bodies.proofs.CodeMeaning.{code_few, fine_code, has_other, is_code, other_code}
use Rattle.wasmparser_bodies.proofs.laws.code.Goals as goal

pub returns : goal.returns
returns c start = record {
  fine = λ cx index type bytes named gives are. (is_code cx index type named gives bytes are, fine_code cx index type named gives bytes);
  other_operator = λ cx index type bytes named gives are. (has_other cx index type named gives bytes are, other_code cx index type named gives bytes);
  no_locals = λ cx m bytes are. code_few cx m bytes are;
}
