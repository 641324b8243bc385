use Rattle.std.proofs.Common.{refl}
use Rattle.wasm_gen_config.specs.Filled.{with_off}
use Rattle.wasm_gen_config.proofs.values.set_off.Goals as goal

pub returns : goal.returns
unfolding with_off
returns c =
    rw (c.switch-config.ensures, c.switch-config-2.ensures, c.switch-config-3.ensures, c.switch-config-4.ensures, c.switch-config-5.ensures, c.switch-config-6.ensures, c.switch-config-7.ensures, c.switch-config-8.ensures, c.switch-config-9.ensures, c.switch-config-10.ensures) refl
