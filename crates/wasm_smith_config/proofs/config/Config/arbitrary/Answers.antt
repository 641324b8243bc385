use Rattle.std.proofs.Common.{ap, sym, subst, ◌∙◌}
use Rattle.wasm_smith_config.proofs.ArbitraryLaws.{IsKept, all_drawn, all_kept, good_fields}
use Rattle.wasm_smith_config.specs.Config as table
use Rattle.wasm_smith_config.specs.declared.config.Config.{Config}
use Rattle.wasm_smith_config.proofs.config.Config.arbitrary.Goals as goal

pub returns-clause-exact : goal.returns-clause-exact
returns-clause-exact c = record {
  default = c.default-config.result;
  is_default = c.default-config.ensures;
  drawn = all_drawn c.default-config.result c.draw_on.new.self c.draw_off.new.self c.draw_maximums.new.self c.args.unstructured.now c.draw_on.new.unstructured c.draw_off.new.unstructured c.draw_maximums.new.unstructured
      c.draw_on.ensures.exact c.draw_off.ensures.exact c.draw_maximums.ensures.exact ∙ ap (λ (config : Config). (config, c.draw_maximums.new.unstructured)) (sym c.sanitize.ensures.sanitized);
}

pub returns-clause-good : goal.returns-clause-good
returns-clause-good c =
    let kept : IsKept c.draw_maximums.new.self = all_kept c.default-config.result c.draw_on.new.self c.draw_off.new.self c.draw_maximums.new.self c.args.unstructured.now c.draw_on.new.unstructured c.draw_off.new.unstructured c.draw_maximums.new.unstructured
    c.default-config.ensures c.draw_on.ensures.exact c.draw_off.ensures.exact c.draw_maximums.ensures.exact in
    subst (λ (config : Config). table.IsGood config) (sym c.sanitize.ensures.sanitized) (good_fields c.draw_maximums.new.self kept c.draw_maximums.ensures.few)
