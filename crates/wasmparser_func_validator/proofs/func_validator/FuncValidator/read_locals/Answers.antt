use Rattle.std.proofs.Common.{sym, ◌∙◌}
use Rattle.wasm_core_types.specs.Features.{feature_set}
use Rattle.wasmparser_func_validator.specs.FromBytes.{state_of}
use Rattle.wasmparser_func_validator.proofs.ReadBodies.{reads_declared, refused_anywhere, right_locals}
use Rattle.wasmparser_func_validator.proofs.func_validator.FuncValidator.read_locals.Goals as goal
use Rattle.wasmparser_func_validator.specs.Steps.{items_in, locals_in_body}

pub returns-then-self-2-clause-declared : goal.returns-then-self-2-clause-declared
returns-then-self-2-clause-declared g c = λ ready few type params.
    let v = c.args.self.now in
    let w = c.read_locals-result.new.body in
    let f = feature_set v.body.features in
    let items = items_in g.T.WasmModuleResources.resources v.body in
    let new = state_of (feature_set w.body.features) (items_in g.T.WasmModuleResources.resources w.body) w.body.ty (locals_in_body g.T.WasmModuleResources.resources w.body) w.stacks w.failed in
    refused_anywhere f items type few c.args.reader.now c.read_locals-result.new.reader c.fork-start.result (locals_in_body g.T.WasmModuleResources.resources w.body) c.read_locals-result.result (sym c.is_err-self.ensures.value ∙ c.if-self-2.true)
    (reads_declared f items type few v.body.ty (locals_in_body g.T.WasmModuleResources.resources v.body) v.stacks v.failed new c.args.reader.now c.read_locals-result.new.reader c.read_locals-result.result c.fork-start.ensures.are params c.read_locals-result.ensures.read)

pub returns-else-self-2-clause-declared : goal.returns-else-self-2-clause-declared
returns-else-self-2-clause-declared g c = λ ready few type params.
    let v = c.args.self.now in
    let w = c.read_locals-result.new.body in
    let f = feature_set v.body.features in
    let items = items_in g.T.WasmModuleResources.resources v.body in
    let new = state_of (feature_set w.body.features) (items_in g.T.WasmModuleResources.resources w.body) w.body.ty (locals_in_body g.T.WasmModuleResources.resources w.body) w.stacks w.failed in
    reads_declared f items type few v.body.ty (locals_in_body g.T.WasmModuleResources.resources v.body) v.stacks v.failed new c.args.reader.now c.read_locals-result.new.reader c.read_locals-result.result c.fork-start.ensures.are params c.read_locals-result.ensures.read

pub returns-then-self-2-clause-so_far : goal.returns-then-self-2-clause-so_far
returns-then-self-2-clause-so_far g c = λ ready type params.
    let v = c.args.self.now in
    let w = c.read_locals-result.new.body in
    let f = feature_set v.body.features in
    let items = items_in g.T.WasmModuleResources.resources v.body in
    let new = state_of (feature_set w.body.features) (items_in g.T.WasmModuleResources.resources w.body) w.body.ty (locals_in_body g.T.WasmModuleResources.resources w.body) w.stacks w.failed in
    right_locals f items type v.body.ty (locals_in_body g.T.WasmModuleResources.resources v.body) v.stacks v.failed new c.args.reader.now c.read_locals-result.new.reader c.read_locals-result.result c.fork-start.ensures.are params c.read_locals-result.ensures.read

pub returns-else-self-2-clause-so_far : goal.returns-else-self-2-clause-so_far
returns-else-self-2-clause-so_far g c = λ ready type params.
    let v = c.args.self.now in
    let w = c.read_locals-result.new.body in
    let f = feature_set v.body.features in
    let items = items_in g.T.WasmModuleResources.resources v.body in
    let new = state_of (feature_set w.body.features) (items_in g.T.WasmModuleResources.resources w.body) w.body.ty (locals_in_body g.T.WasmModuleResources.resources w.body) w.stacks w.failed in
    right_locals f items type v.body.ty (locals_in_body g.T.WasmModuleResources.resources v.body) v.stacks v.failed new c.args.reader.now c.read_locals-result.new.reader c.read_locals-result.result c.fork-start.ensures.are params c.read_locals-result.ensures.read
