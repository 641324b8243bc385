use Rattle.std.proofs.Common.{◌∙◌, map, sym, rules, tests}
use Rattle.std.proofs.lemmas.Iterator.{YieldsList-from_slice}
use Rattle.std.proofs.lemmas.Iterator.Search.{any_from_yields_List}
use Rattle.std.specs.List.{list_any}
use Rattle.wasm_smith_module.proofs.NameLaws.{any_joined, any_mapped}
use Rattle.wasm_smith_module.proofs.names.has_long_import.Goals as goal
use Rattle.wasm_smith_module.specs.Measured.{is_long_name}
use Rattle.wasm_smith_shapes.specs.Imports.{import_entry}
use Rattle.wasm_validity.specs.Rules.{import_names}

pub returns : goal.returns
returns c =
    let imports = c.args.imports.now in
    any_from_yields_List (λ entry. list_any is_long_name (import_names (import_entry entry))) _ _ _ c.any.ensures.ran (YieldsList-from_slice imports cc)
    (λ x b q k. search (rules, tests))
    ∙ sym (any_joined is_long_name import_names (map import_entry imports) ∙ any_mapped (λ entry. list_any is_long_name (import_names entry)) import_entry imports)
