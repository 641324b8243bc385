use Rattle.std.proofs.Common.{subst, sym, ◌∙◌}
use Rattle.wasmparser_validator.specs.Judges.{judge}
use Rattle.wasmparser_validator.specs.Sections.{AreAccepted}
use Rattle.wasmparser_validator.specs.declared.validator.Stage.TheVariants as stages
use Rattle.wasmparser_validator.proofs.EndedLaws.{bodies_validated, sections_refused, waiting_alike}
use Rattle.wasmparser_validator.proofs.validator.Validator.validate_module.Goals as goal

pub returns-in-Ok : goal.returns-in-Ok
returns-in-Ok c =
    bodies_validated (judge c.args.self.now) _ c.args.bytes.now c.in-Ok.ended c.deref.result.now c.with_valid_bodies.result c.known_spaces.ensures.own_functions c.bodies.ensures.judged c.bodies.ensures.functions
    (subst (AreAccepted (judge c.args.self.now).features (judge c.args.self.now).held c.args.bytes.now c.in-Ok.ended) (sym c.deref.ensures.value) c.in-Ok.ensures.sections)
    c.with_valid_bodies.ensures.known c.in-Ok.ensures.named c.in-Ok.ensures.ended c.with_valid_bodies.ensures.shown c.with_valid_bodies.ensures.fine c.with_valid_bodies.ensures.refused

pub returns : goal.returns
returns c =
    sections_refused (judge c.args.self.now) _ c.args.bytes.now c.in-Err.error c.fronts_of_modules.ensures c.entries_in_turn.ensures.rules c.entries_in_turn.ensures.limits c.entries_in_turn.ensures.within
    c.first_modules_find_room.ensures c.in-Err.ensures.sections
    (c.wait_for.ensures ∙ waiting_alike (judge c.validate_sections.new.self) (judge c.args.self.now) stages.Failed c.in-Err.ensures.id c.in-Err.ensures.features)
