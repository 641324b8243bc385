use Rattle.std.proofs.Common.{drop}
use Rattle.std.specs.List.{AllByRecursion}
use Rattle.wasm_smith_sections.proofs.small.are_small.Given as goal

abbrev pub invariant-loop-item : goal.invariant-loop-item
invariant-loop-item g l = record {
  so_far : AllByRecursion (g.T.Small.fits) (drop l.item-index l.items) → AllByRecursion (g.T.Small.fits) l.items;
}
