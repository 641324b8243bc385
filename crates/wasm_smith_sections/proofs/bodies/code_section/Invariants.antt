use Rattle.std.proofs.Common.{◌≡◌, ℕ, ◌+◌, ◌++◌, List, length, map, drop}
use Rattle.wasm_smith_definitions.specs.Items.{made_body}
use Rattle.wasm_smith_sections.specs.ModuleEncoding.{AreBodyEncodings}
use Rattle.wasm_smith_sections.proofs.bodies.code_section.Given as goal

-- what is kept, and bodies of those that are left, are bodies of all
abbrev pub invariant-loop-own : goal.invariant-loop-own
invariant-loop-own l = record {
  kept : (rest : List (List ℕ)) → AreBodyEncodings (map made_body (drop l.own-index l.bodies)) rest → AreBodyEncodings (map made_body l.bodies) (l.section ++ rest);
  counted : length l.section + length (drop l.own-index l.bodies) ≡ length l.bodies;
}
