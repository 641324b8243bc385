use Rattle.std.proofs.Common.{◌∙◌, sym, rules, tests}
use Rattle.std.proofs.lemmas.Iterator.{YieldsList-from_slice}
use Rattle.std.proofs.lemmas.Iterator.Search.{any_from_yields_List}
use Rattle.std.specs.String.{string_bytes}
use Rattle.wasm_smith_module.proofs.NameLaws.{any_mapped}
use Rattle.wasm_smith_module.proofs.names.has_long.Goals as goal
use Rattle.wasm_smith_module.specs.Measured.{is_long_name}

pub returns : goal.returns
returns c =
    let names = c.args.names.now in
    any_from_yields_List (λ name. is_long_name (string_bytes name)) _ _ _ c.any.ensures.ran (YieldsList-from_slice names cc) (λ x b q k. search (rules, tests))
    ∙ sym (any_mapped is_long_name string_bytes names)
