use Rattle.std.proofs.Common.{◌≡◌, false, refl, sym, ap, ◌∙◌}
use Rattle.wasmparser_payloads.specs.Parsing.{piece}
use Rattle.wasmparser_validator.specs.PieceJudging.{has_groups}
use Rattle.wasmparser_validator.specs.Stages.{may_begin}
use Rattle.wasmparser_validator.specs.Validators.{ValidatorState}
use Rattle.wasmparser_validator.proofs.JudgeLaws.{body_adds_nothing}
use Rattle.wasmparser_validator.proofs.ResourceLaws.{kept_asks}
use Rattle.wasmparser_validator.proofs.validator.Validator.add.Goals as goal

pub invariant_of-self-in-CodeSectionEntry-2 : goal.invariant_of-self-in-CodeSectionEntry-2
unfolding piece has_groups
invariant_of-self-in-CodeSectionEntry-2 c =
    let says = rw c.in-CodeSectionEntry.is at c.in_ok-add.ensures.added in
    let none : has_groups (piece c.args.payload.now) ≡ false = rw c.in-CodeSectionEntry.is refl in
    record {
      growing = c.add.ensures.grows;
      nothing = λ begins. let w = sym begins ∙ ap (λ (v : ValidatorState). may_begin v.stage) c.self.view_is ∙ c.requires in absurd cc;
      asks = kept_asks c.self.inside.types.state c.add.new.self.state c.take-resources.result c.self.inside.resources c.take-resources.ensures.value (c.in_ok-add.ensures.types none)
          (body_adds_nothing _ _ _ _ _ c.in-CodeSectionEntry.field-0 tt says) c.self.invariant.asks;
    }

pub invariant_of-self-in_default : goal.invariant_of-self-in_default
invariant_of-self-in_default c = record {
  growing = c.add.ensures.grows;
  nothing = λ begins. let w = sym begins ∙ ap (λ (v : ValidatorState). may_begin v.stage) c.self.view_is ∙ c.requires in absurd cc;
  asks = rw c.take-resources.ensures.after tt;
}
