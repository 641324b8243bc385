-- The types that are known of a valid module are those of the groups of its entries.
use Rattle.std.proofs.Common.{ap, ◌∙◌}
use Rattle.wasm_validity.specs.Context.{Context}
use Rattle.wasm_validity_laws.proofs.WrittenTypes.{group_rules, known_types}
use Rattle.wasm_validity_laws.specs.Written.{groups_in}
use Rattle.wasmparser_module_state.specs.State.{context, features_of}
use Rattle.wasmparser_module_state.specs.declared.module_state.ModuleState.{ModuleState}
use Rattle.wasmparser_validator.specs.KnownSpaces.{IsReached}
use Rattle.wasmparser_validator.specs.TypeGroups.{AreOfGroups}

pub of_groups : (state : ModuleState) → IsReached state → AreOfGroups (features_of state) (context state).types
of_groups state reached = record {
  groups = groups_in reached.entries;
  rules = group_rules (features_of state) reached.entries reached.rules;
  types = ap (λ (cx : Context). cx.types) reached.known ∙ known_types reached.entries;
}
