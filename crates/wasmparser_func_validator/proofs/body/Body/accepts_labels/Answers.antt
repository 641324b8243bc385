use Rattle.std.proofs.Common.{rules, tests}
use Rattle.std.specs.Prelude.{slice_get}
use Rattle.std.proofs.lemmas.Iterator.Search.{all_from_yields_List}
use Rattle.wasm_bodies.specs.Effects.{accepts}
use Rattle.wasm_bodies_laws.specs.Machine.{labels_of}
use Rattle.wasmparser_bodies.specs.StackChanges.{lowered}
use Rattle.wasmparser_func_validator.proofs.BranchLaws.{labels_yield}
use Rattle.wasmparser_func_validator.proofs.body.Body.accepts_labels.Goals as goal
use Rattle.wasmparser_func_validator.specs.Steps.{items_in}

pub returns : goal.returns
returns g c =
    let items = items_in g.R.WasmModuleResources.resources c.args.self.now in
    all_from_yields_List (λ label. accepts items c.args.arity (lowered 1 c.args.stacks.now.now) (slice_get (labels_of items c.args.stacks.now.frames) label)) _ _ _ c.all.ensures.ran (labels_yield c.args.targets.now.labels c.targets.ensures) (λ x b q k. search (rules, tests))
