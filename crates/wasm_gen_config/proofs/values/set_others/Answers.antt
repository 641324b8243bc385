use Rattle.std.proofs.Common.{refl}
use Rattle.wasm_gen_config.specs.Filled.{with_others}
use Rattle.wasm_gen_config.proofs.values.set_others.Goals as goal

pub returns : goal.returns
unfolding with_others
returns c =
    rw (c.switch-config.ensures, c.switch-config-2.ensures, c.size-config.ensures, c.size-config-2.ensures, c.wide_size-config.ensures, c.kinds_at-config.ensures, c.weights_at-config.ensures) refl
