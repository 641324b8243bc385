use Rattle.std.proofs.Common.{◌≡◌, IfSome, Some, ap, subst, ◌∙◌}
use Rattle.wasm_spec.specs.Trees.{type_at, unrolled}
use Rattle.wasm_spec.specs.TypeReferences.{sub_map, sub_refs}
use Rattle.wasmparser_module_types.specs.ModuleTypes.{AreIds, KnownTypes, stands_for}
use Rattle.wasmparser_types.specs.SubTypes.{sub_type}
use Rattle.wasmparser_module_state.specs.declared.module_state.ModuleState.{ModuleState}
use Rattle.wasmparser_validator.proofs.types.TypesRef.get.Goals as goal

pub returns-clause-unrolled : goal.returns-clause-unrolled
returns-clause-unrolled c =
    subst (λ (known : KnownTypes). IfSome c.get.result (λ ty. unrolled (type_at known.interned c.args.id) ≡ Some (sub_map (stands_for known) (sub_type ty.now))))
    (c.types.ensures ∙ ap (λ (s : ModuleState). s.types) c.state.ensures.same) c.get.ensures.unrolled

pub returns-clause-ids : goal.returns-clause-ids
returns-clause-ids c =
    subst (λ (known : KnownTypes). IfSome c.get.result (λ ty. AreIds known (sub_refs (sub_type ty.now)))) (c.types.ensures ∙ ap (λ (s : ModuleState). s.types) c.state.ensures.same) c.get.ensures.ids
