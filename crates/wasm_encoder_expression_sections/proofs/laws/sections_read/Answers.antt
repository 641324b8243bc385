use Rattle.wasm_encoder_expression_sections.proofs.ReadLists.{list}
use Rattle.wasm_encoder_expression_sections.proofs.laws.sections_read.Goals as goal
use Rattle.wasm_spec.specs.ModuleParts.{IsTable, IsGlobal, IsElementSegment, IsDataSegment}

pub returns : goal.returns
returns c = record {
  tables = λ compact items tables few h. list IsTable (λ item. item) items tables few h;
  globals = λ compact items globals few h. list IsGlobal (λ item. item) items globals few h;
  elements = λ compact items segments few h. list IsElementSegment (λ item. item) items segments few h;
  segments = λ compact items segments few h. list IsDataSegment (λ item. item) items segments few h;
}
