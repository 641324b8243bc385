use Rattle.std.proofs.Common.{◌≡◌, ◌+◌, ◌++◌, Some, map, drop, length, ap, sym, ◌∙◌, arith}
use Rattle.std.proofs.lemmas.List.{length-map}
use Rattle.wasm_gen_view.specs.ItemReferences.{refer}
use Rattle.wasm_gen_view.specs.Views.{table_type}
use Rattle.wasm_spec.specs.TypeReferences.{table_map}
use Rattle.wasmparser_validator.specs.Shown.{spaces}
use Rattle.wasm_gen_view.proofs.ItemLoops.{all_kept, mapped_at, one_kept}
use Rattle.wasm_gen_view.proofs.known_items.tables.Goals as goal

pub loop-index-preserved : goal.loop-index-preserved
loop-index-preserved c =
    let all = map (table_map (refer c.args.numbers.now)) (spaces c.args.types.now).tables in
    let there = mapped_at (table_map (refer c.args.numbers.now)) (spaces c.args.types.now).tables c.loop-index.index _ c.written_table_at.ensures ∙ ap Some (sym c.known_table.ensures) in
    record { kept = ap (λ kept. map table_type kept ++ drop (c.loop-index.index + 1) all) c.in_ok-push.ensures.items ∙ one_kept table_type c.loop-index.items.items all c.loop-index.index _ there c.loop-index.invariant.kept }

pub returns : goal.returns
returns c =
    let all = map (table_map (refer c.args.numbers.now)) (spaces c.args.types.now).tables in
    all_kept table_type c.loop-index.items.items all c.loop-index.index (omega (arith, c.loop-index-test.false, c.table_count-index-end.ensures, length-map ((spaces c.args.types.now).tables) (table_map (refer c.args.numbers.now)))) c.loop-index.invariant.kept
