use Rattle.std.proofs.Common.{◌≡◌, ◌<◌, ◌≤◌, ◌-◌, ◌+◌, IfSome, length, vec_len}
use Rattle.std.specs.List.{AllByRecursion}
use Rattle.wasm_spec.specs.Features.{Features}
use Rattle.wasm_smith_types.specs.Drawing.{groups_at, no_groups}
use Rattle.wasm_smith_types.specs.Fitting.{AreFitting}
use Rattle.wasm_smith_types.specs.Permitted.{Suits}
use Rattle.wasm_smith_types.specs.Grouped.{AreWhole, AreDone, AreLeft}
use Rattle.wasm_smith_types.specs.Making.{made, AreCandidates}
use Rattle.wasm_smith_types.proofs.types.make_groups.Given as goal

abbrev pub invariant-grow : goal.invariant-grow
invariant-grow l = record {
  few : length (made l.made) ≤ l.max;
  within : length (made l.made) ≤ l.most;
  some : AllByRecursion (λ size. 0 < size) l.made.sizes.items;
  whole : AreWhole l.made;
  candidates : AreCandidates (made l.made) l.made.candidates.items;
  done : (features : Features) → Suits features l.offers → AreDone features l.made;
  drawn : l.min ≡ 0 → IfSome (groups_at l.offers l.max (l.max + 1) no_groups l.fn.unstructured) (λ drawn. AreLeft l.offers l.max drawn l.made l.unstructured);
  taken : length l.unstructured ≤ length l.fn.unstructured;
  fitting : AreFitting l.made.sizes.items (l.max - length (made l.made)) l.fitting;
}

abbrev pub decreases-grow : goal.decreases-grow
decreases-grow l = l.max - vec_len l.made.types
