use Rattle.std.proofs.Common.{◌≡◌, ◌==◌, drop, length, option_map}
use Rattle.std.specs.List.{slice_split}
use Rattle.wasm_smith_config.specs.Instructions as table
use Rattle.wasm_smith_config.proofs.instruction_kinds.InstructionKindsFromStr.from_str.Given as goal

abbrev pub invariant-loop-name : goal.invariant-loop-name
invariant-loop-name l =
    (goal.iterator-loop-name).can_next l.name-iterator ×
    (goal.iterator-loop-name).is_finite l.name-iterator ×
    (option_map (table.with_kinds l.kinds) (table.each_named (drop (length l.yielded) (slice_split (λ b. b == 44) l.text))) ≡ table.kinds_named l.text)
