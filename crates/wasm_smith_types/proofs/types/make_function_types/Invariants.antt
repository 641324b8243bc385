use Rattle.std.proofs.Common.{◌≡◌, ◌<◌, ◌≤◌, ◌-◌, length, map, vec_len}
use Rattle.std.specs.List.{AllByRecursion}
use Rattle.wasm_spec.specs.Features.{Features}
use Rattle.wasm_spec.specs.Types as spec
use Rattle.wasm_smith_types.specs.Drawing.{function_type_at}
use Rattle.wasm_smith_types.specs.Permitted.{SuitsValues}
use Rattle.wasm_smith_types.specs.Grouped.{groups, AreWhole, AreDone}
use Rattle.wasm_smith_types.specs.Growing.{grow_at, with_front}
use Rattle.wasm_smith_types.specs.Making.{made, AreCandidates}
use Rattle.wasm_smith_types.proofs.types.make_function_types.Given as goal

abbrev pub invariant-grow : goal.invariant-grow
invariant-grow l = record {
  few : length (made l.made) ≤ l.max;
  within : length (made l.made) ≤ l.most;
  some : AllByRecursion (λ size. 0 < size) l.made.sizes.items;
  whole : AreWhole l.made;
  candidates : AreCandidates (made l.made) l.made.candidates.items;
  done : (features : Features) → SuitsValues features l.offers → AreDone features l.made;
  drawn : with_front (made l.made) (grow_at (function_type_at l.offers) l.min l.max (vec_len l.made.types) l.unstructured) ≡ grow_at
      (function_type_at l.offers) l.min l.max 0 l.fn.unstructured;
  taken : length l.unstructured ≤ length l.fn.unstructured;
  singles : groups l.made ≡ map spec.Single (made l.made);
}

abbrev pub decreases-grow : goal.decreases-grow
decreases-grow l = l.max - vec_len l.made.types
