use Rattle.wasm_core.proofs.WritingLaws.{read_back, positive_back, negative_back}
use Rattle.wasm_core.proofs.laws.numbers_read_back.Goals as goal

pub returns : goal.returns
returns c = record { unsigned = read_back; not_negative = positive_back; negative = negative_back }
