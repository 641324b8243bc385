use Rattle.std.proofs.Common.{◌∙◌, map, sym, rules, tests}
use Rattle.std.proofs.lemmas.Iterator.{YieldsList-from_slice}
use Rattle.std.proofs.lemmas.Iterator.Search.{any_from_yields_List}
use Rattle.std.specs.String.{string_bytes}
use Rattle.wasm_smith_definitions.specs.Items.{export}
use Rattle.wasm_smith_module.proofs.NameLaws.{any_mapped}
use Rattle.wasm_smith_module.proofs.names.has_long_export.Goals as goal
use Rattle.wasm_smith_module.specs.Measured.{is_long_name}
use Rattle.wasm_spec.specs.Syntax.{Export}

pub returns : goal.returns
returns c =
    let exports = c.args.exports.now in
    any_from_yields_List (λ item. is_long_name (string_bytes item.name)) _ _ _ c.any.ensures.ran (YieldsList-from_slice exports cc) (λ x b q k. search (rules, tests))
    ∙ sym (any_mapped is_long_name (λ (item : Export). item.name) (map export exports) ∙ any_mapped (λ (item : Export). is_long_name item.name) export exports)
