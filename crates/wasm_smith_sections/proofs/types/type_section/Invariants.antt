use Rattle.std.proofs.Common.{◌≡◌, ◌+◌, ◌++◌, length, map, drop}
use Rattle.wasm_core_types.specs.SubTypes.{sub_type}
use Rattle.wasm_smith_types.specs.Drawing.{total}
use Rattle.wasm_smith_types.specs.Grouped.{grouped}
use Rattle.wasm_smith_sections.proofs.types.type_section.Given as goal

-- what is kept, and the groups that are left, are all groups; and the types that are left are as many as these groups say
abbrev pub invariant-loop-size : goal.invariant-loop-size
invariant-loop-size l = record {
  kept : l.section ++ grouped (drop l.size-index l.sizes) (map sub_type (drop l.start l.types)) ≡ grouped l.sizes (map sub_type l.types);
  left : l.start + total (drop l.size-index l.sizes) ≡ length l.types;
  counted : length l.section + length (drop l.size-index l.sizes) ≡ length l.sizes;
}
