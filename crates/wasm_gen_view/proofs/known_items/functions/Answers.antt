use Rattle.std.proofs.Common.{◌≡◌, ◌+◌, ◌++◌, Some, map, drop, length, ap, sym, ◌∙◌, arith}
use Rattle.std.proofs.lemmas.List.{length-map}
use Rattle.wasm_gen_view.specs.ItemReferences.{refer}
use Rattle.wasm_gen_view.specs.declared.types.TypePlace.{TypePlace}
use Rattle.wasm_gen_view.specs.declared.types.TypeReference.{TypeReference}
use Rattle.wasm_gen_view.specs.declared.types.TypeReference.TheVariants.{Other}
use Rattle.wasmparser_validator.specs.Shown.{spaces}
use Rattle.wasm_gen_view.proofs.ItemLoops.{all_kept, mapped_at, one_kept}
use Rattle.wasm_gen_view.proofs.known_items.functions.Goals as goal

pub loop-index-preserved : goal.loop-index-preserved
loop-index-preserved c =
    let all = map (refer c.args.numbers.now) (spaces c.args.types.now).functions in
    let there = mapped_at (refer c.args.numbers.now) (spaces c.args.types.now).functions c.loop-index.index _ c.type_index_of_function.ensures ∙ ap Some (sym c.place.ensures) in
    record { kept = ap (λ kept. map (λ (place : TypePlace). Other place) kept ++ drop (c.loop-index.index + 1) all) c.in_ok-push.ensures.items ∙ one_kept (λ (place : TypePlace). Other place) c.loop-index.items.items all c.loop-index.index _ there c.loop-index.invariant.kept }

pub returns : goal.returns
returns c =
    let all = map (refer c.args.numbers.now) (spaces c.args.types.now).functions in
    all_kept (λ (place : TypePlace). Other place) c.loop-index.items.items all c.loop-index.index (omega (arith, c.loop-index-test.false, c.function_count-index-end.ensures, length-map ((spaces c.args.types.now).functions) (refer c.args.numbers.now))) c.loop-index.invariant.kept
