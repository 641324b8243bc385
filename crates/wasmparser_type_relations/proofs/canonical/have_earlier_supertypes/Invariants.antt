use Rattle.wasmparser_type_relations.proofs.Earlier.{IsAsFar}
use Rattle.wasmparser_type_relations.proofs.canonical.have_earlier_supertypes.Given as goal

abbrev pub invariant-loop-place : goal.invariant-loop-place
invariant-loop-place l = IsAsFar l.types l.first l.place
