use Rattle.std.proofs.Common.{◌≡◌, option_map, ap, subst, ◌∙◌}
use Rattle.wasm_spec.specs.Trees.{type_at}
use Rattle.wasmparser_module_state.specs.declared.module_state.ModuleState.{ModuleState}
use Rattle.wasmparser_module_types.specs.ModuleTypes.{KnownTypes}
use Rattle.wasmparser_types.specs.SubTypes.{sub_type}
use Rattle.wasmparser_validator.proofs.SpaceLaws.{supertype_same}
use Rattle.wasmparser_validator.specs.Shown.{declared_supertype}
use Rattle.wasmparser_validator.proofs.types.TypesRef.supertype_of.Goals as goal

pub returns-clause-same : goal.returns-clause-same
returns-clause-same c =
    subst (λ (known : KnownTypes). option_map (type_at known.interned) c.supertype_in.result ≡ declared_supertype (type_at known.interned c.args.id))
    (c.types.ensures ∙ ap (λ (s : ModuleState). s.types) c.state.ensures.same)
    (supertype_same c.types.result.now c.args.id (sub_type c.sub_type.result.now) c.supertype_in.result c.supertype_in.ensures c.sub_type.ensures.unrolled c.sub_type.ensures.ids)
