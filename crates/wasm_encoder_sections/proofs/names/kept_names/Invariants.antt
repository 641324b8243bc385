use Rattle.std.proofs.Common.{◌≡◌, ◌++◌, map, drop}
use Rattle.wasm_encoder_sections.specs.CoreItems.{name_of}
use Rattle.wasm_encoder_sections.proofs.names.kept_names.Given as goal

abbrev pub invariant-loop-name : goal.invariant-loop-name
invariant-loop-name l = record {
  copied : map name_of l.kept.items ++ map (λ name. name.now) (drop l.name-index l.names) ≡ map (λ name. name.now) l.names;
}
