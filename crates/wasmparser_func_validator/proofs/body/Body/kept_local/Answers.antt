use Rattle.std.proofs.Common.{Option, Some, None}
use Rattle.std.specs.Prelude.{IfSome, MatchOption}
use Rattle.wasmparser_func_validator.specs.Steps.{locals_in_body, params_in}
use Rattle.wasmparser_func_validator.proofs.body.Body.kept_local.Goals as goal

if_some : {X : Type 0} (N : Type 0) (P : X → Type 0) (o : Option X) → MatchOption o N P → IfSome o P
if_some N P None h = tt
if_some N P (Some x) h = h

pub returns : goal.returns
unfolding locals_in_body
returns g c = if_some _ _ c.get.result (c.get.ensures (params_in g.R.WasmModuleResources.resources c.args.self.now))
