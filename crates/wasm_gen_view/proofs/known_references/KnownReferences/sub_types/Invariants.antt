use Rattle.std.proofs.Common.{◌≡◌, ◌++◌, map}
use Rattle.std.specs.List.{range_with_len}
use Rattle.wasm_gen_view.specs.KnownReferences.{referring}
use Rattle.wasm_gen_view.specs.Types.{sub_type}
use Rattle.wasm_gen_view.proofs.known_references.KnownReferences.sub_types.Given as goal

abbrev pub invariant-loop-id : goal.invariant-loop-id
invariant-loop-id l = record {
  kept : map sub_type l.types.items ≡ map (referring l.self) l.yielded;
  left : l.yielded ++ l.id-iterator ≡ range_with_len l.self.group.now.first l.self.group.now.count;
}
