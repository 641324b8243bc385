use Rattle.std.proofs.Common.{◌≡◌, ◌+◌, ◌-◌, ◌^◌, ◌≤◌, drop}
use Rattle.std.specs.List.{sum_by}
use Rattle.wasm_smith_definitions.specs.Items.{export}
use Rattle.wasm_smith_module.proofs.counts.exports_size.Given as goal
use Rattle.wasm_smith_module.specs.Measured.{saturated}
use Rattle.wasm_smith_module.specs.Measures.{size_of_export, with_own}
use Rattle.wasm_smith_sections.specs.ModuleItems.{made_of}

abbrev pub invariant-loop-item : goal.invariant-loop-item
invariant-loop-item l = record {
  sum : saturated (l.size + sum_by (λ item. size_of_export (with_own l.imported (made_of l.items)) (export item)) (drop l.item-index l.item-items))
      ≡ saturated (sum_by (λ item. size_of_export (with_own l.imported (made_of l.items)) (export item)) l.item-items);
  fits : l.size ≤ 2 ^ 64 - 1;
}
