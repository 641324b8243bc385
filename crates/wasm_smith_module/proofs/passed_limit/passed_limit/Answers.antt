use Rattle.std.proofs.Common.{ap, sym, ◌∙◌, inl}
use Rattle.std.proofs.lemmas.Option.{IfSome_then}
use Rattle.wasm_core_types.specs.Limits.{limit}
use Rattle.wasm_smith_module.proofs.CountLaws.{all_within, count_passed, size_passed, types_are}
use Rattle.wasm_smith_module.proofs.PassedLaws.{none_then}
use Rattle.wasm_smith_module.proofs.passed_limit.passed_limit.Goals as goal
use Rattle.wasm_smith_module.specs.Measures.{imported_items}
use Rattle.wasm_smith_sections.specs.ModuleItems.{made_of}
use Rattle.wasm_smith_validity.specs.Spaces.{spaces_of_types, with_items}

pub passed_count-requires-clause-exact : goal.passed_count-requires-clause-exact
passed_count-requires-clause-exact c =
    let items = c.args.items.now in
    c.in_ok-spaces.ensures.exact ∙ ap (λ types. with_items (spaces_of_types types) (imported_items (made_of items))) (sym (types_are items c.requires.whole))

pub returns-in-Some-clause-passed : goal.returns-in-Some-clause-passed
returns-in-Some-clause-passed c = inl (λ bodies. count_passed (made_of c.args.items.now) bodies (limit c.in-Some.limit) c.in-Some.ensures)

pub returns-clause-passed : goal.returns-clause-passed
returns-clause-passed c =
    IfSome_then c.passed_size.result c.passed_size.ensures.passed (λ l p. inl (λ bodies. size_passed (made_of c.args.items.now) bodies (limit l) (p bodies)))

pub returns-clause-within : goal.returns-clause-within
returns-clause-within c =
    none_then c.passed_size.result c.passed_size.ensures.within
    (λ sizes bodies short. all_within (made_of c.args.items.now) bodies c.in_default.ensures (sizes bodies short))
