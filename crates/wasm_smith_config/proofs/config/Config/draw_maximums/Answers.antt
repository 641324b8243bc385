use Rattle.std.proofs.Common.{refl}
use Rattle.wasm_smith_config.specs.Arbitrary.{maximums_at}
use Rattle.wasm_smith_config.proofs.config.Config.draw_maximums.Goals as goal

pub returns-clause-exact : goal.returns-clause-exact
unfolding maximums_at
returns-clause-exact c = rw (c.maximum-self.ensures.exact, c.maximum-self-2.ensures.exact, c.maximum-self-3.ensures.exact, c.maximum-self-4.ensures.exact, c.maximum-self-5.ensures.exact, c.maximum-self-6.ensures.exact, c.maximum-self-7.ensures.exact, c.maximum-self-8.ensures.exact, c.maximum-self-9.ensures.exact, c.maximum-self-10.ensures.exact, c.maximum-self-11.ensures.exact) refl

pub returns-clause-few : goal.returns-clause-few
returns-clause-few c = (c.maximum-self.ensures.few, (c.maximum-self-2.ensures.few, (c.maximum-self-3.ensures.few, (c.maximum-self-4.ensures.few, (c.maximum-self-5.ensures.few, (c.maximum-self-6.ensures.few, (c.maximum-self-7.ensures.few, (c.maximum-self-8.ensures.few, (c.maximum-self-9.ensures.few, (c.maximum-self-10.ensures.few, (c.maximum-self-11.ensures.few, tt)))))))))))
