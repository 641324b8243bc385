use Rattle.std.proofs.Common.{◌≡◌, ◌+◌, ◌++◌, Some, map, drop, length, ap, sym, ◌∙◌, arith}
use Rattle.std.proofs.lemmas.List.{length-map}
use Rattle.wasm_gen_view.specs.Views.{memory_type}
use Rattle.wasmparser_validator.specs.Shown.{spaces}
use Rattle.wasm_gen_view.proofs.ItemLoops.{all_kept, mapped_at, one_kept}
use Rattle.wasm_gen_view.proofs.known_items.memories.Goals as goal

pub loop-index-preserved : goal.loop-index-preserved
loop-index-preserved c =
    let all = (spaces c.args.types.now).memories in
    let there = c.memory_at.ensures ∙ ap Some (sym c.known_memory.ensures) in
    record { kept = ap (λ kept. map memory_type kept ++ drop (c.loop-index.index + 1) all) c.in_ok-push.ensures.items ∙ one_kept memory_type c.loop-index.items.items all c.loop-index.index _ there c.loop-index.invariant.kept }

pub returns : goal.returns
returns c =
    let all = (spaces c.args.types.now).memories in
    all_kept memory_type c.loop-index.items.items all c.loop-index.index (omega (arith, c.loop-index-test.false, c.memory_count-index-end.ensures)) c.loop-index.invariant.kept
