use Rattle.std.proofs.Common.{ap, subst, sym, ◌∙◌, arith}
use Rattle.wasmparser_module_state.specs.History.{held}
use Rattle.wasmparser_module_state.specs.State.{context}
use Rattle.wasmparser_validator.specs.Judges.{Judge, judge}
use Rattle.wasmparser_validator.specs.Sections.{AreRead}
use Rattle.wasmparser_validator.specs.Stages.{may_begin}
use Rattle.wasmparser_validator.specs.Validators.{ValidatorState}
use Rattle.wasmparser_validator.proofs.CountLaws.{ended, paired}
use Rattle.wasmparser_validator.proofs.validator.Validator.validate_sections.Goals as goal

pub begin-requires : goal.begin-requires
begin-requires c = ap may_begin c.requires.header

pub returns-clause-sections : goal.returns-clause-sections
returns-clause-sections c =
    let begun = c.begin.ensures.begun in
    let read = subst (λ (v : ValidatorState). AreRead (judge c.begin.new.self).features c.args.bytes.now (judge c.begin.new.self).held (judge v).known (judge v).held c.read_sections.new.bodies.items (judge v).stated)
    (sym c.self.view_is) c.in_ok-read_sections.ensures.read in
    let read_here = subst (λ (j : Judge). AreRead j.features c.args.bytes.now j.held (context c.self.inside.types.state) (held c.self.inside.types.state) c.read_sections.new.bodies.items c.self.inside.data_count) begun read in
    ended _ _ _ _ _ _ _ c.end.result read_here (omega (arith, c.len-self-inside.ensures, c.read_sections.new.bodies.ok.0))
    (ap (λ (v : ValidatorState). (judge v).features) c.self.view_is ∙ c.in_ok-read_sections.ensures.features ∙ ap (λ (j : Judge). j.features) begun)
    (ap (λ (v : ValidatorState). v.stage) c.self.view_is ∙ c.in_ok-read_sections.ensures.stage ∙ ap (λ (j : Judge). j.stage) begun)
    c.end.ensures.ended c.end.ensures.shown

pub returns-clause-paired : goal.returns-clause-paired
returns-clause-paired c = paired _ _ _ _ c.end.result (omega (arith, c.len-self-inside.ensures, c.read_sections.new.bodies.ok.0)) c.end.ensures.ended
