use Rattle.wasm_smith_types.proofs.GivenLaws.{bare_drawing, bare_given, bare_good, bare_made, bare_more, bare_small, bare_some}
use Rattle.wasm_smith_types.proofs.laws.groups_without_shapes.Goals as goal

pub returns-clause-given : goal.returns-clause-given
returns-clause-given c = bare_given

pub returns-clause-drawing : goal.returns-clause-drawing
returns-clause-drawing c = bare_drawing

pub returns-clause-made : goal.returns-clause-made
returns-clause-made c = λ config old new groups none imports exports made.
    (bare_made config none imports exports old new groups made, bare_small config none imports exports old new groups made, bare_some config none imports exports old new groups made)

pub returns-clause-more : goal.returns-clause-more
returns-clause-more c = λ config s most none imports exports. bare_more config none imports exports s most

pub returns-clause-good : goal.returns-clause-good
returns-clause-good c = bare_good
