use Rattle.std.proofs.Common.{◌≡◌, ◌≤◌, [], drop, length, map}
use Rattle.wasm_encoder_sections.specs.CoreItems.{global_type}
use Rattle.wasm_smith_definitions.specs.Items as items
use Rattle.wasm_smith_definitions.specs.Kinds.{of_global}
use Rattle.wasm_smith_definitions.proofs.OwnStepLaws.{AreMade, MayHoldGlobals}
use Rattle.wasm_smith_definitions.proofs.globals.shape_globals.Given as goal

abbrev pub invariant-loop-ty : goal.invariant-loop-ty
invariant-loop-ty l = record {
  may_hold : MayHoldGlobals l.config l.spaces (map global_type (drop l.ty-index l.types));
  made : AreMade l.config of_global (λ g. g.type) (map global_type l.types) l.fn.spaces l.spaces (map items.global l.own.items) (map global_type (drop l.ty-index l.types));
  unread : l.types ≡ [] → l.unstructured ≡ l.fn.unstructured;
  taken : length l.unstructured ≤ length l.fn.unstructured;
}
