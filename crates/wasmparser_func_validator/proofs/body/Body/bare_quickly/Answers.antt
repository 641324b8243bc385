use Rattle.std.proofs.Common.{Some, true, refl, sym, ap}
use Rattle.wasm_bodies.specs.Operators.{Unreachable, Drop}
use Rattle.wasm_bodies_laws.specs.Machine.{Machine}
use Rattle.wasmparser_types.specs.Index.{Index}
use Rattle.wasmparser_func_validator.specs.Steps.{body_context}
use Rattle.wasmparser_func_validator.proofs.PlainCodes.{drop_coded, unreachable_coded}
use Rattle.wasmparser_func_validator.proofs.PlainLaws.{bare_tried, tried}
use Rattle.wasmparser_func_validator.proofs.body.Body.bare_quickly.Goals as goal

pub returns-in-0 : goal.returns-in-0
returns-in-0 g c =
    let cx = body_context g.R.WasmModuleResources.resources c.args.self.now in
    rw c.in-0.is (bare_tried cx c.args.stacks.now c.mark_unreachable.new.self 0 Unreachable true unreachable_coded refl refl c.requires.inside (ap (λ (m : Machine Index). Some m.now) (sym c.mark_unreachable.ensures), ap (λ (m : Machine Index). m.frames) c.mark_unreachable.ensures))

pub returns-in-26 : goal.returns-in-26
returns-in-26 g c =
    let cx = body_context g.R.WasmModuleResources.resources c.args.self.now in
    rw c.in-26.is (bare_tried cx c.args.stacks.now c.drop_one.new.stacks 26 Drop c.is_ok.result drop_coded refl refl c.requires.inside (tried _ _ _ c.drop_one.result c.is_ok.result c.is_ok.ensures.value c.drop_one.ensures))
