use Rattle.std.proofs.Common.{rules, leb}
use Rattle.std.proofs.lemmas.Fn.{filter_same}
use Rattle.wasm_smith_types.proofs.FittingLaws.{all_kept, some_kept}
use Rattle.wasm_smith_types.specs.declared.fitting.Span.{Span}
use Rattle.wasm_smith_types.proofs.fitting.Fitting.keep.Goals as goal

pub returns-then-self-left : goal.returns-then-self-left
returns-then-self-left c = λ sizes more le it. all_kept sizes more c.args.left c.args.self.now le c.if-self-left.true it

pub returns : goal.returns
returns c = λ sizes more le it.
    let kept = filter_same _ (λ (span : Span). leb span.size c.args.left) _ (λ x b f' k. search rules) _ _ c.retain.ensures.filtered in
    some_kept sizes more c.args.left c.args.self.now _ le kept (rw c.deref.ensures.value at c.greatest_size-self.ensures) it
