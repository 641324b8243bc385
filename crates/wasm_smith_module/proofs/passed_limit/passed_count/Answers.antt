use Rattle.std.proofs.Common.{ap, ◌∙◌}
use Rattle.wasm_core_types.specs.Limits.{limit}
use Rattle.wasm_smith_definitions.specs.Kinds.{count_of}
use Rattle.wasm_smith_module.proofs.CountLaws.{IsComputed, computed, counts_alike, size_counted}
use Rattle.wasm_smith_module.proofs.PassedLaws.{found_then, passes_alike, within_alike}
use Rattle.wasm_smith_module.proofs.passed_limit.passed_count.Goals as goal
use Rattle.wasm_smith_module.specs.Measured.{saturated}
use Rattle.wasm_smith_module.specs.Measures.{counts_of, with_own}
use Rattle.wasm_smith_sections.specs.ModuleItems.{made_of}
use Rattle.wasm_spec.specs.Types.{FuncKind, TableKind, MemoryKind, GlobalKind, TagKind}

pub returns : goal.returns
returns c =
    let items = c.args.items.now in
    let m = made_of items in
    let spaces = ap (λ k. with_own k m) c.requires.exact in
    let functions = c.count_of.result in
    let tables = c.count_of-2.result in
    let memories = c.count_of-3.result in
    let tags = c.count_of-4.result in
    let globals = c.count_of-5.result in
    let size = c.saturating_add.result in
    let all : IsComputed items functions tables memories tags globals size = record {
      whole = c.requires.whole;
      functions_are = c.count_of.ensures ∙ ap (λ k. saturated (count_of k FuncKind)) spaces;
      tables_are = c.count_of-2.ensures ∙ ap (λ k. saturated (count_of k TableKind)) spaces;
      memories_are = c.count_of-3.ensures ∙ ap (λ k. saturated (count_of k MemoryKind)) spaces;
      tags_are = c.count_of-4.ensures ∙ ap (λ k. saturated (count_of k TagKind)) spaces;
      globals_are = c.count_of-5.ensures ∙ ap (λ k. saturated (count_of k GlobalKind)) spaces;
      size_is = size_counted items c.args.spaces.now c.imports_size-imported.result c.exports_size-exported.result c.saturating_add-size.result size c.requires.whole spaces
          c.imports_size-imported.ensures c.exports_size-exported.ensures c.saturating_add-size.ensures c.saturating_add.ensures;
    } in
    let alike = counts_alike items functions tables memories tags globals size all in
    found_then c.first_passed.result c.first_passed.ensures.passed c.first_passed.ensures.within
    (λ l p. passes_alike (limit l) (computed items functions tables memories tags globals size) (counts_of m) alike p)
    (within_alike (computed items functions tables memories tags globals size) (counts_of m) alike)
