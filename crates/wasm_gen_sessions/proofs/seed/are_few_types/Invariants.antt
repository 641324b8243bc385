use Rattle.std.proofs.Common.{◌≡◌, ◌+◌, drop, length, map}
use Rattle.wasm_smith.specs.Family.{types_of}
use Rattle.wasm_smith.specs.Groups.{group_of}
use Rattle.wasm_spec.specs.Limits.{Types, most}
use Rattle.wasm_gen_sessions.proofs.seed.are_few_types.Given as goal

-- as many types came so far as there may be, less what is left
abbrev pub invariant-loop-group : goal.invariant-loop-group
invariant-loop-group l = record {
  so_far : length (types_of (map group_of l.groups)) + l.left ≡ most Types + length (types_of (map group_of (drop l.group-index l.groups)));
}
