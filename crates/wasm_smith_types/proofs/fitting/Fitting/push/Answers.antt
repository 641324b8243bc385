use Rattle.std.proofs.Common.{arith}
use Rattle.wasm_smith_types.proofs.FittingLaws.{one_more_fits}
use Rattle.wasm_smith_types.proofs.fitting.Fitting.push.Goals as goal

pub returns : goal.returns
returns c =
    λ sizes left start it. one_more_fits sizes left c.args.self.now _ c.args.span start c.requires.some c.in_ok-push.ensures.items
    (omega (arith, c.max-self.ensures)) (omega (arith, c.max-self.ensures)) it
