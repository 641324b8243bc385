use Rattle.std.proofs.Common.{ap, sym, ◌∙◌, subst}
use Rattle.std.proofs.lemmas.Option.{IfSome_then}
use Rattle.wasm_core_types.specs.Limits.{limit}
use Rattle.wasm_smith_module.proofs.CountLaws.{export_passed, import_passed, segment_passed, sizes_within, type_passed, types_are}
use Rattle.wasm_smith_module.proofs.PassedLaws.{none_then}
use Rattle.wasm_smith_module.proofs.passed_limit.passed_size.Goals as goal
use Rattle.wasm_smith_module.proofs.passed_limit.passed_size.Goals.{then-has_long_import-via-then-has_long_import, then-has_long_import-via-else-has_long_import+then-has_long_export}
use Rattle.wasm_smith_module.specs.Measures.{type_measures}
use Rattle.wasm_smith_sections.specs.ModuleItems.{made_of}
use Rattle.wasm_validity.specs.Rules.{Passes, are_within}

pub returns-in-Some-clause-passed : goal.returns-in-Some-clause-passed
returns-in-Some-clause-passed c = λ bodies.
    let items = c.args.items.now in
    let found = limit c.in-Some.limit in
    type_passed (made_of items) bodies found
    (subst (λ types. Passes found (type_measures types)) (sym (types_are items c.requires.whole)) c.in-Some.ensures.passed)

pub returns-then-has_long_import-clause-passed : goal.returns-then-has_long_import-clause-passed
returns-then-has_long_import-clause-passed c = λ bodies.
    let m = made_of c.args.items.now in
    elim c.then-has_long_import.branch [
      | then-has_long_import-via-then-has_long_import w ↦ import_passed m bodies (sym c.has_long_import.ensures ∙ w.if-has_long_import.true)
      | then-has_long_import-via-else-has_long_import+then-has_long_export w ↦ export_passed m bodies (sym w.has_long_export.ensures ∙ w.if-has_long_export.true)
    ]

pub returns-clause-passed : goal.returns-clause-passed
returns-clause-passed c =
    IfSome_then c.passed_segment.result c.passed_segment.ensures.passed (λ l p bodies. segment_passed (made_of c.args.items.now) bodies (limit l) p)

pub returns-clause-within : goal.returns-clause-within
returns-clause-within c =
    let items = c.args.items.now in
    let types = ap (λ types. are_within (type_measures types)) (types_are items c.requires.whole) ∙ c.in_default.ensures.within in
    none_then c.passed_segment.result c.passed_segment.ensures.within
    (λ segments bodies short. sizes_within (made_of items) bodies types (sym c.has_long_import.ensures ∙ c.if-has_long_import.false)
    (sym c.has_long_export.ensures ∙ c.if-has_long_export.false) segments short)
