use Rattle.std.proofs.Common.{refl}
use Rattle.wasm_gen_config.specs.Filled.{with_maximums}
use Rattle.wasm_gen_config.proofs.values.set_maximums.Goals as goal

pub returns : goal.returns
unfolding with_maximums
returns c =
    rw (c.count-config.ensures, c.count-config-2.ensures, c.count-config-3.ensures, c.count-config-4.ensures, c.count-config-5.ensures, c.count-config-6.ensures, c.count-config-7.ensures, c.count-config-8.ensures, c.count-config-9.ensures, c.count-config-10.ensures, c.count-config-11.ensures, c.count-config-12.ensures, c.count-config-13.ensures) refl
