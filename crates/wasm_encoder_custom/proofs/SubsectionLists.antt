-- Lists of parts, and their encodings.
use Rattle.std.proofs.Common.{◌≡◌, ℕ, List, [], ◌∷◌, ◌++◌, map, refl, ap}
use Rattle.std.specs.List.{flat_map}
use Rattle.wasm_encoder_custom.specs.Subsections.{subsection_encoding}
use Rattle.wasm_encoder_custom.specs.KeptSubsections.{subsection, subsection_bytes}
use Rattle.wasm_encoder_custom.specs.declared.subsections.Subsection.{Subsection}

pub parts : (items : List Subsection) → flat_map subsection_bytes items ≡ flat_map subsection_encoding (map subsection items)
unfolding subsection_bytes
parts [] = refl
parts (x ∷ xs) = ap (λ (l : List ℕ). subsection_encoding (subsection x) ++ l) (parts xs)

pub ruleset steps = (parts)
