-- Promises on a module that is made for a configuration that is drawn first, and on refusals.
use Rattle.std.specs.Prelude.{◌≡◌, ℕ, List, IfSome}
use Rattle.wasm_smith_config.specs.Arbitrary.{IsArbitrary}
use Rattle.wasm_smith_config.specs.declared.config.Config.{Config}
use Rattle.wasm_smith_unstructured.specs.declared.error.Error.{Error}
use Rattle.wasm_smith_module.specs.Generating.{HasFront, front_at}
use Rattle.wasm_smith_module.specs.ModuleValue.{ModuleValue}
use Rattle.wasm_smith_module.specs.Promise.{IsBadConfig, IsMadeFor, IsReason}

-- A module's configuration is drawn from bytes, and then the module, for this configuration.
pub record IsArbitraryModule (s left : List ℕ) (m : ModuleValue) : Type 0 where
  pub after : List ℕ
  pub config : IsArbitrary s m.config after
  pub made : IsMadeFor m.config m
  pub drawn : IfSome (front_at m.config after) (λ drawn. HasFront m.config drawn m.made left)

-- A configuration is drawn from bytes for which no module is made. Where it is bad, nothing else is drawn.
pub record IsArbitraryReason (s left : List ℕ) (e : Error) : Type 0 where
  pub config : Config
  pub after : List ℕ
  pub drawn : IsArbitrary s config after
  pub reason : IsReason config e
  pub unread : IsBadConfig e → left ≡ after
