use Rattle.std.proofs.Common.{refl}
use Rattle.wasm_gen_config.specs.Filled.{with_minimums}
use Rattle.wasm_gen_config.proofs.values.set_minimums.Goals as goal

pub returns : goal.returns
unfolding with_minimums
returns c =
    rw (c.count-config.ensures, c.count-config-2.ensures, c.count-config-3.ensures, c.count-config-4.ensures, c.count-config-5.ensures, c.count-config-6.ensures, c.count-config-7.ensures, c.count-config-8.ensures, c.count-config-9.ensures, c.count-config-10.ensures, c.count-config-11.ensures) refl
