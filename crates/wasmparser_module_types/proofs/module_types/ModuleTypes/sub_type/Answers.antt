use Rattle.std.proofs.Common.{◌≡◌, Some, subst}
use Rattle.wasm_spec.specs.Trees.{type_at, unrolled}
use Rattle.wasm_spec.specs.TypeReferences.{sub_map, sub_refs}
use Rattle.wasmparser_module_types.specs.ModuleTypes.{AreIds, KnownTypes, stands_for}
use Rattle.wasmparser_types.specs.SubTypes.{sub_type}
use Rattle.wasmparser_module_types.proofs.module_types.ModuleTypes.sub_type.Goals as goal

pub returns-clause-unrolled : goal.returns-clause-unrolled
returns-clause-unrolled c =
    let type = sub_type c.sub_type_in.result.now in
    subst (λ (known : KnownTypes). unrolled (type_at known.interned c.args.id) ≡ Some (sub_map (stands_for known) type)) c.self.view_is c.sub_type_in.ensures.unrolled

pub returns-clause-ids : goal.returns-clause-ids
returns-clause-ids c = subst (λ (known : KnownTypes). AreIds known (sub_refs (sub_type c.sub_type_in.result.now))) c.self.view_is c.sub_type_in.ensures.ids
