use Rattle.std.proofs.Common.{◌<◌, ◌^◌, sym, subst, arith}
use Rattle.wasm_smith_config.proofs.UnionLaws.{all_grown, below, flags}
use Rattle.wasm_smith_config.specs.Config.{AreFeaturesOf}
use Rattle.wasm_smith_config.proofs.config.Config.features.Goals as goal

pub returns-clause-flags : goal.returns-clause-flags
returns-clause-flags c =
    let all = all_grown c.args.self.now c.switches-flag-items.result c.loop-flag.flag-index _ (omega arith) c.loop-flag.invariant c.switches-flag-items.ensures in
    subst (AreFeaturesOf c.args.self.now) (sym all) (flags c.args.self.now)

pub returns-clause-no_further_bits : goal.returns-clause-no_further_bits
returns-clause-no_further_bits c =
    let all = all_grown c.args.self.now c.switches-flag-items.result c.loop-flag.flag-index _ (omega arith) c.loop-flag.invariant c.switches-flag-items.ensures in
    subst (λ set. set < 2 ^ 22) (sym all) (below c.args.self.now)
