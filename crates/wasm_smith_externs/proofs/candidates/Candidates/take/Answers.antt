use Rattle.std.proofs.Common.{◌-◌, ◌≤◌, ap, ◌∙◌, arith}
use Rattle.std.specs.List.{filter}
use Rattle.wasm_smith_externs.specs.Fitting.{fits, sized}
use Rattle.wasm_smith_externs.proofs.FittingLaws.{fewer_fit}
use Rattle.wasm_smith_externs.proofs.candidates.Candidates.take.Goals as goal

pub returns-clause-candidates : goal.returns-clause-candidates
returns-clause-candidates c = λ types functions tags it.
    let left = c.args.self.now.left - c.args.size in
    let few : left ≤ c.args.self.now.left = omega arith in
    record {
      of_functions = c.keep.ensures ∙ ap (filter (fits left)) it.of_functions ∙ fewer_fit c.args.self.now.left left (sized types 0 functions) few;
      of_tags = c.keep-2.ensures ∙ ap (filter (fits left)) it.of_tags ∙ fewer_fit c.args.self.now.left left (sized types 0 tags) few;
    }
