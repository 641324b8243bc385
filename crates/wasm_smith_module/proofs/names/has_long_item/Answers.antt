use Rattle.std.proofs.Common.{◌∙◌, map, sym, rules, tests}
use Rattle.std.proofs.lemmas.Iterator.{YieldsList-from_slice}
use Rattle.std.proofs.lemmas.Iterator.Search.{any_from_yields_List}
use Rattle.std.specs.String.{string_bytes}
use Rattle.wasm_smith_module.proofs.NameLaws.{any_mapped}
use Rattle.wasm_smith_module.proofs.names.has_long_item.Goals as goal
use Rattle.wasm_smith_module.specs.Measured.{is_long_name}
use Rattle.wasm_smith_shapes.specs.Imports.{import_item}
use Rattle.wasm_spec.specs.Syntax.{ImportItem}

pub returns : goal.returns
returns c =
    let items = c.args.items.now in
    any_from_yields_List (λ item. is_long_name (string_bytes item.name)) _ _ _ c.any.ensures.ran (YieldsList-from_slice items cc) (λ x b q k. search (rules, tests))
    ∙ sym (any_mapped is_long_name (λ (item : ImportItem). item.name) (map import_item items) ∙ any_mapped (λ (item : ImportItem). is_long_name item.name) import_item items)
