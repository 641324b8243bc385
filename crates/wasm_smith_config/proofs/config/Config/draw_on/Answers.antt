use Rattle.std.proofs.Common.{refl}
use Rattle.wasm_smith_config.specs.Arbitrary.{on_at}
use Rattle.wasm_smith_config.proofs.config.Config.draw_on.Goals as goal

pub returns-clause-exact : goal.returns-clause-exact
unfolding on_at
returns-clause-exact c = rw (c.bool-self.ensures.exact, c.bool-self-2.ensures.exact, c.bool-self-3.ensures.exact, c.bool-self-4.ensures.exact, c.bool-self-5.ensures.exact, c.bool-self-6.ensures.exact, c.bool-self-7.ensures.exact, c.bool-self-8.ensures.exact, c.bool-self-9.ensures.exact, c.bool-self-10.ensures.exact, c.bool-self-11.ensures.exact, c.bool-self-12.ensures.exact, c.bool-self-13.ensures.exact, c.bool-self-14.ensures.exact) refl
