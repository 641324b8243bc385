use Rattle.std.proofs.Common.{◌-◌, ◌+◌, sym, arith, get_or}
use Rattle.std.proofs.lemmas.Option.{slice_get-get_or}
use Rattle.wasm_bodies.specs.Operands.{fits}
use Rattle.wasm_spec.specs.Types.{I32}
use Rattle.wasmparser_func_validator.specs.Steps.{items_in}
use Rattle.wasmparser_types.specs.ValTypes.{val_type}
use Rattle.wasmparser_bodies.specs.StackViews.{operand}
use Rattle.wasmparser_func_validator.proofs.Taking.{goes_on, stops, past_known, none_below, unfit_below}
use Rattle.wasmparser_func_validator.proofs.body.Body.accepts.Goals as goal

pub returns-then-depth-known_len : goal.returns-then-depth-known_len
returns-then-depth-known_len g c =
    past_known (items_in g.R.WasmModuleResources.resources c.args.self.now) (g.L.TypeList.types c.args.types.now) c.args.above c.args.stacks.now.now c.count-count.result c.loop-left.left
    c.count-count.ensures (omega arith) c.loop-left.invariant.within c.loop-left.invariant.same (operand c.in-Some.x) c.in-Some.ensures (omega (arith, c.known_len.ensures))

pub returns-in_default : goal.returns-in_default
returns-in_default g c =
    let items = items_in g.R.WasmModuleResources.resources c.args.self.now in
    let types = g.L.TypeList.types c.args.types.now in
    stops items types c.args.above c.args.stacks.now.now c.count-count.result c.loop-left.left
    c.count-count.ensures (omega arith) c.loop-left.invariant.within c.loop-left.invariant.same
    (get_or types (c.loop-left.left - 1) I32) (sym (slice_get-get_or types (c.loop-left.left - 1) I32 (omega (arith, c.loop-left.invariant.within))))
    (none_below items (get_or types (c.loop-left.left - 1) I32) c.args.stacks.now.now (c.args.above + (c.count-count.result - c.loop-left.left)) c.in_default.ensures)

pub returns-then-not-fits : goal.returns-then-not-fits
returns-then-not-fits g c =
    let items = items_in g.R.WasmModuleResources.resources c.args.self.now in
    let types = g.L.TypeList.types c.args.types.now in
    stops items types c.args.above c.args.stacks.now.now c.count-count.result c.loop-left.left
    c.count-count.ensures (omega arith) c.loop-left.invariant.within c.loop-left.invariant.same
    (val_type c.type_at.result) c.type_at.ensures
    (unfit_below items (val_type c.type_at.result) c.args.stacks.now.now (c.args.above + (c.count-count.result - c.loop-left.left)) (operand c.in-Some.x) c.in-Some.ensures (sym {b = fits items (val_type c.type_at.result) (operand c.in-Some.x)} c.if-not-fits.ensures))

pub loop-left-preserved : goal.loop-left-preserved
loop-left-preserved g c =
    let items = items_in g.R.WasmModuleResources.resources c.args.self.now in
    let types = g.L.TypeList.types c.args.types.now in
    record {
      within = omega (arith, c.loop-left.invariant.within);
      same = goes_on items types c.args.above c.args.stacks.now.now c.count-count.result c.loop-left.left
          c.count-count.ensures (omega arith) c.loop-left.invariant.within c.loop-left.invariant.same
          (val_type c.type_at.result) (operand c.in-Some.x) c.type_at.ensures c.in-Some.ensures (sym {b = fits items (val_type c.type_at.result) (operand c.in-Some.x)} c.if-not-fits.ensures);
    }
