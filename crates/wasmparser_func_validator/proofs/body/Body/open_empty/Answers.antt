use Rattle.std.proofs.Common.{Ok, refl}
use Rattle.wasm_bodies.specs.Operators.{Empty, Block, Loop}
use Rattle.wasm_bodies.specs.OperatorRows.{Int32}
use Rattle.wasm_bodies_laws.specs.Machine.{BlockFrame, LoopFrame}
use Rattle.wasmparser_func_validator.specs.Steps.{body_context}
use Rattle.wasmparser_func_validator.proofs.EmptyBlocks.{empty_if_opened, empty_opened}
use Rattle.wasmparser_func_validator.proofs.PlainCodes.{block_coded, loop_coded}
use Rattle.wasmparser_func_validator.proofs.Stepping.{in_block, in_loop}
use Rattle.wasmparser_func_validator.proofs.body.Body.open_empty.Goals as goal

pub returns-in-2 : goal.returns-in-2
returns-in-2 g c =
    let cx = body_context g.R.WasmModuleResources.resources c.args.self.now in
    let new = c.enter_within_capacity.new.self in
    rw c.in-2.is (empty_opened cx c.args.stacks.now new 2 BlockFrame (λ t. Block t) c.enter_within_capacity.result block_coded refl (λ e. absurd cc) (λ e. absurd cc)
    (in_block cx c.args.stacks.now new Empty (Ok tt) c.requires.inside refl) c.enter_within_capacity.ensures.ok c.enter_within_capacity.ensures.full)

pub returns-in-3 : goal.returns-in-3
returns-in-3 g c =
    let cx = body_context g.R.WasmModuleResources.resources c.args.self.now in
    let new = c.enter_within_capacity-in-3.new.self in
    rw c.in-3.is (empty_opened cx c.args.stacks.now new 3 LoopFrame (λ t. Loop t) c.enter_within_capacity-in-3.result loop_coded refl (λ e. absurd cc) (λ e. absurd cc)
    (in_loop cx c.args.stacks.now new Empty (Ok tt) c.requires.inside refl) c.enter_within_capacity-in-3.ensures.ok c.enter_within_capacity-in-3.ensures.full)

pub returns-then-are_known : goal.returns-then-are_known
returns-then-are_known g c =
    let cx = body_context g.R.WasmModuleResources.resources c.args.self.now in
    let entered = c.enter_within_capacity-then-are_known in
    rw c.in-4.is (empty_if_opened cx c.args.stacks.now entered.new.self entered.result c.requires.inside (c.requires.fit Int32) (c.if-are_known.ensures.exact.0 refl) entered.ensures.ok entered.ensures.full)
