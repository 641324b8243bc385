use Rattle.std.proofs.Common.{◌≡◌}
use Rattle.wasmparser_validator.specs.Judges.{judge}
use Rattle.wasmparser_validator.proofs.ReadPieces.{Progress}
use Rattle.wasmparser_validator.proofs.validator.Validator.read_sections.Given as goal

abbrev pub invariant-payloads : goal.invariant-payloads
invariant-payloads l =
    Progress (judge l.fn.self).features l.fn.bytes (judge l.fn.self).held (judge l.self).known (judge l.self).held l.bodies.items (judge l.self).stated l.payloads
    × ((judge l.self).features ≡ (judge l.fn.self).features) × ((judge l.self).stage ≡ (judge l.fn.self).stage) × ((judge l.self).id ≡ (judge l.fn.self).id)
