use Rattle.std.proofs.Common.{rules, tests, ◌∙◌}
use Rattle.std.specs.Str.{bytes_eq}
use Rattle.std.proofs.lemmas.Iterator.{YieldsList-from_slice}
use Rattle.std.proofs.lemmas.Iterator.Search.{any_from_yields_List}
use Rattle.wasm_gen_config.proofs.FieldLaws.{among}
use Rattle.wasm_gen_config.proofs.fields.is_among.Goals as goal

pub returns : goal.returns
returns c =
    any_from_yields_List (λ name. bytes_eq name.now c.args.key.now) _ _ c.any.result c.any.ensures.ran (YieldsList-from_slice c.args.names.now cc) (λ x b q k. search (rules, tests))
    ∙ among c.args.key.now c.args.names.now
