use Rattle.wasm_gen_view.proofs.WrittenSpaces.{spaces_written, views_written}
use Rattle.wasm_gen_view.proofs.laws.written_spaces.Goals as goal

pub returns-clause-spaces : goal.returns-clause-spaces
returns-clause-spaces c = spaces_written

pub returns-clause-views : goal.returns-clause-views
returns-clause-views c = views_written
