use Rattle.std.proofs.Common.{◌≡◌}
use Rattle.std.specs.List.{AllByRecursion}
use Rattle.wasmparser_types.proofs.Remapping.{FrontReplaced}
use Rattle.wasmparser_types.proofs.remap.remap_all.Given as goal

abbrev pub invariant-loop-item : goal.invariant-loop-item
invariant-loop-item g l =
    FrontReplaced
    (λ old new. (g.T.Part.meaning new ≡ g.T.Part.mapped (g.R.RemapIndex.remapped l.remap) (g.T.Part.meaning old)) × AllByRecursion (g.R.RemapIndex.accepts l.remap) (g.T.Part.refs (g.T.Part.meaning old)))
    l.item-index
    l.initial.items
    l.items
