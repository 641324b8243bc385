use Rattle.std.proofs.Common.{◌-◌, ◌≤◌, length, vec_len}
use Rattle.std.specs.List.{AllByRecursion}
use Rattle.wasm_core_types.specs.CoreTypes.{val_type}
use Rattle.wasm_core_types.specs.declared.types.ValType.TheVariants.{Ref}
use Rattle.wasm_smith_definitions.specs.Constants.{Gives}
use Rattle.wasm_smith_definitions.specs.Items.{expression}
use Rattle.wasm_smith_module.proofs.element_segments.draw_constants.Given as goal

abbrev pub invariant-grow : goal.invariant-grow
invariant-grow l = record {
  taken : length l.unstructured ≤ length l.fn.unstructured;
  few : length l.items.items ≤ l.bounds.most;
  given : AllByRecursion (λ constant. Gives l.config l.spaces (val_type (Ref l.ty)) (expression constant)) l.items.items;
}

abbrev pub decreases-grow : goal.decreases-grow
decreases-grow l = l.bounds.most - vec_len l.items
