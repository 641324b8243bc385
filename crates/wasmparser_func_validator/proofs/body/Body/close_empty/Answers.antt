use Rattle.std.proofs.Common.{◌≡◌, ◌<◌, [], length, ap, sym, ◌∙◌, Some, arith}
use Rattle.std.proofs.lemmas.List.{nil_from_length}
use Rattle.std.specs.Option.{option_map}
use Rattle.std.specs.Prelude.{slice_get}
use Rattle.wasm_bodies.specs.Operators.{Empty}
use Rattle.wasmparser_bodies.specs.StackViews.{block_seen, block_with_ids, frame_kind}
use Rattle.wasmparser_func_validator.specs.Steps.{body_context}
use Rattle.wasmparser_func_validator.proofs.EmptyBlocks.{empty_closed}
use Rattle.wasmparser_func_validator.proofs.body.Body.close_empty.Goals as goal

pub returns : goal.returns
returns g c =
    let cx = body_context g.R.WasmModuleResources.resources c.args.self.now in
    let f = c.in-Some.frame.now in
    let at : Some (frame_kind f.kind, Empty) ≡ option_map block_seen (slice_get c.args.stacks.now.frames 0) = ap (λ t. Some (frame_kind f.kind, block_with_ids t)) (sym c.in-Empty.is) ∙ c.in-Some.ensures.block in
    let none : c.args.stacks.now.now.known ≡ [] = nil_from_length c.args.stacks.now.now.known (omega (arith, c.known_len.ensures, c.if-known_len-gt0.false)) in
    let more : 1 < length c.args.stacks.now.frames = omega (arith, c.frame_count.ensures, c.if-frame_count-lt2.false) in
    empty_closed cx c.args.stacks.now c.leave_empty.new.self (frame_kind f.kind) at none more c.leave_empty.ensures
