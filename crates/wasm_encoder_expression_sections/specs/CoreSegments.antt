-- Segments of the code, as they are lent and as they are kept.
use Rattle.std.specs.Prelude.{ℕ, List}
use Rattle.wasm_encoder_expression_sections.specs.ItemEncodings.{form_encoding, ElementMode, Active, Passive, Declared, Elements, Functions, Expressions, DataMode, ActiveData, PassiveData}
use Rattle.wasm_encoder_expression_sections.specs.declared.data_segment.DataSegmentMode as lent_data
use Rattle.wasm_encoder_expression_sections.specs.declared.data_segment.DataSegmentMode.TheVariants as lent_data_cases
use Rattle.wasm_encoder_expression_sections.specs.declared.element_segment.ElementMode as lent_modes
use Rattle.wasm_encoder_expression_sections.specs.declared.element_segment.ElementMode.TheVariants as lent_mode_cases
use Rattle.wasm_encoder_expression_sections.specs.declared.element_segment.Elements as lent_lists
use Rattle.wasm_encoder_expression_sections.specs.declared.element_segment.Elements.TheVariants as lent_list_cases
use Rattle.wasm_encoder_expression_sections.specs.declared.kept_elements.KeptElements.{KeptElements}
use Rattle.wasm_encoder_expression_sections.specs.declared.kept_elements.KeptElements.TheVariants as kept_list_cases
use Rattle.wasm_encoder_expression_sections.specs.declared.kept_elements.KeptMode.{KeptMode}
use Rattle.wasm_encoder_expression_sections.specs.declared.kept_elements.KeptMode.TheVariants as kept_mode_cases
use Rattle.wasm_encoder_sections.specs.CoreItems.{ref_type}

abbrev pub lent_mode : lent_modes.ElementMode → ElementMode
lent_mode (lent_mode_cases.Active table offset) = Active table offset.now
lent_mode lent_mode_cases.Passive = Passive
lent_mode lent_mode_cases.Declared = Declared

abbrev pub lent_elements : lent_lists.Elements → Elements
lent_elements (lent_list_cases.Functions functions) = Functions functions.now
lent_elements (lent_list_cases.Expressions type expressions) = Expressions (ref_type type) expressions.now

abbrev pub kept_mode : KeptMode → ElementMode
kept_mode (kept_mode_cases.Active table offset) = Active table offset
kept_mode kept_mode_cases.Passive = Passive
kept_mode kept_mode_cases.Declared = Declared

abbrev pub kept_elements : KeptElements → Elements
kept_elements (kept_list_cases.Functions functions) = Functions functions.items
kept_elements (kept_list_cases.Expressions type expressions) = Expressions (ref_type type) expressions.items

-- The mode that is kept writes its table, where the segment needs one.
abbrev pub segment_bytes : KeptMode → KeptElements → List ℕ
segment_bytes mode elements = form_encoding (kept_mode mode) (kept_elements elements)

abbrev pub lent_data_mode : lent_data.DataSegmentMode → DataMode
lent_data_mode (lent_data_cases.Active memory offset) = ActiveData memory offset.now
lent_data_mode lent_data_cases.Passive = PassiveData
