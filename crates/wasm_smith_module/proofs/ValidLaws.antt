-- A finished module is valid by index.
use Rattle.std.proofs.Common.{◌≡◌, ℕ, true, List, length, sym, ap, ◌∙◌, subst}
use Rattle.std.specs.List.{AllByRecursion}
use Rattle.wasm_spec.specs.Features.{Features}
use Rattle.wasm_smith_config.proofs.UnionLaws.{flags, grown_by}
use Rattle.wasm_smith_config.specs.Config.{AreFeaturesOf}
use Rattle.wasm_smith_config.specs.Rows.{switches}
use Rattle.wasm_smith_config.specs.declared.config.Config.{Config}
use Rattle.wasm_smith_externs.specs.declared.names.DuplicateImportsBehavior.{DuplicateImportsBehavior}
use Rattle.wasm_smith_validity.proofs.GroupLaws.{all_rules}
use Rattle.wasm_smith_types.specs.Offering.{offers}
use Rattle.wasm_smith_validity.specs.ValidGroups.{AllKeepTypeRules, types_of}
use Rattle.wasm_smith_validity.specs.Made.{MadeBody}
use Rattle.wasm_smith_validity.specs.Spaces.{is_value}
use Rattle.wasm_smith_validity.specs.Validity.{IsValidByIndex}
use Rattle.wasm_smith_validity.proofs.MadeSections.{made_rules}
use Rattle.wasm_spec.specs.Types.{RecGroup}
use Rattle.wasm_smith_module.proofs.CodeLaws.{code_many, code_valid}
use Rattle.wasm_smith_module.proofs.StepLaws.{leads_all}
use Rattle.wasm_smith_module.specs.Building.{AreGroups, IsBuilt}
use Rattle.wasm_smith_module.specs.Code.{code_at}
use Rattle.wasm_smith_module.specs.ModuleValue.{ModuleValue}

-- the types of groups that are made keep the rules on types
pub type_rules : (c : Config) (old new : List ℕ) (groups : List (RecGroup ℕ)) → AreGroups c old new groups → AllKeepTypeRules (types_of groups)
type_rules c old new groups h = let features = grown_by 0 (switches c) in all_rules features groups (h.valid features (flags c))

pub valid_for : (c : Config) (duplicates : DuplicateImportsBehavior) (old new : List ℕ) (m : ModuleValue) → IsBuilt c duplicates old new m
    → (features : Features) → AreFeaturesOf c features → IsValidByIndex features m.made
valid_for c duplicates old new m h features are =
    let types = types_of m.made.groups in
    let finished = h.finished in
    let code = code_at c.allow_invalid_funcs (offers c) (length types) (length m.made.funcs) finished.after_items in
    let bodies : code.0 ≡ m.made.bodies = ap (λ (d : List MadeBody × List ℕ). d.0) finished.code in
    record {
      rules =
          made_rules features m.made
          (record { valid = h.groups.valid features are; behind_types = (leads_all c duplicates m.made h.after finished.after_items finished.items).keep features are });
      bodies = ap length (sym bodies) ∙ code_many c.allow_invalid_funcs (offers c) (length types) (length m.made.funcs) finished.after_items;
      locals =
          subst (AllByRecursion (λ (body : MadeBody). AllByRecursion (λ type. is_value features types type ≡ true) body.locals)) bodies
          (code_valid c features are types c.allow_invalid_funcs (length m.made.funcs) finished.after_items);
    }
