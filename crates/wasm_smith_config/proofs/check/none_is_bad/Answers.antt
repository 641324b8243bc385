use Rattle.std.proofs.Common.{rules, tests, sym, ◌∙◌, ap}
use Rattle.std.specs.Option.{option_map}
use Rattle.std.proofs.lemmas.Iterator.{YieldsList-from_slice}
use Rattle.std.proofs.lemmas.Iterator.Search.{find_from_yields_List}
use Rattle.wasm_smith_config.proofs.TableLaws.{none_bad, some_bad}
use Rattle.wasm_smith_config.proofs.check.none_is_bad.Goals as goal

pub returns-in-Some-clause-bad : goal.returns-in-Some-clause-bad
returns-in-Some-clause-bad c =
    let found = find_from_yields_List (λ f. f.is_bad) _ _ c.find.result c.find.ensures.ran (YieldsList-from_slice c.args.fields.now cc) (λ x b q k. search (rules, tests)) in
    some_bad c.args.fields.now c.in-Some.field.now (sym found ∙ ap (option_map (λ y. y.now)) c.in-Some.is)

pub returns-in-None-clause-good : goal.returns-in-None-clause-good
returns-in-None-clause-good c =
    let found = find_from_yields_List (λ f. f.is_bad) _ _ c.find.result c.find.ensures.ran (YieldsList-from_slice c.args.fields.now cc) (λ x b q k. search (rules, tests)) in
    none_bad c.args.fields.now (sym found ∙ ap (option_map (λ y. y.now)) c.in-None.is)
