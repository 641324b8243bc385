use Rattle.wasm_spec.specs.TypeEncodings.{rec_groups_encoding}
use Rattle.wasm_spec.specs.Syntax.{TypeSection}
use Rattle.wasm_spec.proofs.ShortestTypes.{section}
use Rattle.wasm_core_read.proofs.ReadingLaws.{content_again}
use Rattle.wasm_core.proofs.WritingLaws.{size_back}
use Rattle.wasm_core.proofs.laws.type_sections_read_back.Goals as goal

pub returns : goal.returns
returns c = record {
  sizes = λ groups rest fits. size_back (rec_groups_encoding groups) rest fits;
  entries = λ compact groups small fits. content_again compact (rec_groups_encoding groups) (TypeSection groups) (section compact groups small fits).encodes;
}
