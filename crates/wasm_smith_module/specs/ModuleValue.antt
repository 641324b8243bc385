-- A made module with the configuration that it is made for.
use Rattle.wasm_smith_config.specs.declared.config.Config.{Config}
use Rattle.wasm_smith_validity.specs.Made.{Made}

pub record ModuleValue : Type 0 where
  pub config : Config
  pub made : Made
