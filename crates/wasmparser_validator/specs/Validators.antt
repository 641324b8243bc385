-- A validator as contracts see it.
use Rattle.std.specs.Coded.{Coded, code_by, coded×, coded_ℕ, coded_option}
use Rattle.std.specs.Prelude.{◌≡◌, ℕ, zero, suc, true, IfSome, Option, refl}
use Rattle.wasm_validity.specs.Context.{at_first}
use Rattle.wasmparser_module_state.specs.History.{grows}
use Rattle.wasmparser_module_state.specs.State.{context}
use Rattle.wasmparser_module_state.specs.StateResources.{state_resources}
use Rattle.wasmparser_module_state.specs.declared.module_state.ModuleState.{ModuleState}
use Rattle.wasmparser_validator.specs.Functions.{resources_of}
use Rattle.wasmparser_validator.specs.KnownSpaces.{KnownModule, known_module_code}
use Rattle.wasmparser_validator.specs.Stages.{may_begin, stage_code}
use Rattle.wasmparser_validator.specs.declared.resources.ValidatorResources.{ValidatorResources}
use Rattle.wasmparser_validator.specs.declared.validator.Stage.{Stage}

-- the module so far, the stage that it is in, the number of bodies that were handed in, and the data count that was stated
pub record ValidatorState : Type 0 where
  pub types : KnownModule
  pub stage : Stage
  pub bodies : ℕ
  pub data_count : Option ℕ

abbrev pub validator_code : Coded ModuleState → Coded ValidatorState
validator_code state_code =
    code_by (KnownModule × (Stage × (ℕ × Option ℕ))) (coded× (known_module_code state_code) (coded× stage_code (coded× coded_ℕ (coded_option coded_ℕ))))
    (λ v. (v.types, (v.stage, (v.bodies, v.data_count)))) (λ p. record { types = p.0; stage = p.1.0; bodies = p.1.1.0; data_count = p.1.1.1 }) (λ _. refl)

-- Groups can be added to the list, a module that may begin has no entries, and the resources that are kept for bodies are those of the module.
pub record IsWellFormed (known : KnownModule) (stage : Stage) (kept : Option ValidatorResources) : Type 0 where
  pub growing : grows known.state ≡ true
  pub nothing : may_begin stage ≡ true → context known.state ≡ at_first
  pub asks : IfSome kept (λ r. resources_of r ≡ state_resources known.state)
