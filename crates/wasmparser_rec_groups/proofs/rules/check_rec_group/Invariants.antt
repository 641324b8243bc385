use Rattle.wasmparser_rec_groups.specs.Rules.{IsWithinDepth, KeepsRules}
use Rattle.wasmparser_rec_groups.proofs.GroupLaws.{AllTo}
use Rattle.wasmparser_rec_groups.proofs.rules.check_rec_group.Given as goal

abbrev pub invariant-loop-index : goal.invariant-loop-index
invariant-loop-index l = AllTo (IsWithinDepth l.types) l.initial.index l.index

abbrev pub invariant-loop-index-2 : goal.invariant-loop-index-2
invariant-loop-index-2 l = AllTo (KeepsRules l.types) l.initial.index l.index
