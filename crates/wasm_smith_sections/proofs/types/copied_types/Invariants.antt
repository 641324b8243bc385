use Rattle.std.proofs.Common.{◌≡◌, ◌++◌, map, drop}
use Rattle.wasm_core_types.specs.SubTypes.{sub_type}
use Rattle.wasm_smith_sections.proofs.types.copied_types.Given as goal

abbrev pub invariant-loop-ty : goal.invariant-loop-ty
invariant-loop-ty l = record {
  copied : map sub_type l.copies.items ++ map sub_type (drop l.ty-index l.types) ≡ map sub_type l.types;
}
