-- Distinct groups by their numbers.
use Rattle.std.specs.Prelude.{◌≡◌, ◌⊎◌, ℕ, List, [], ◌∷◌, ◌++◌, length, map, slice_get, Some}
use Rattle.std.specs.Global.{Vec}
use Rattle.wasm_spec.specs.Types as spec
use Rattle.wasm_gen_view.specs.Types.{sub_type}
use Rattle.wasm_gen_view.specs.declared.types.SubType.{SubType}
use Rattle.wasm_gen_view.specs.declared.types.TypeReference.{TypeReference}

abbrev pub group_types : Vec SubType → List (spec.SubType TypeReference)
group_types group = map sub_type group.items

-- The number of an item among others, and the items after it: one that is among them has its place there, and another comes last.
abbrev pub IsNumbered : {A : Type 0} → A → List A → ℕ → List A → Type 0
IsNumbered item old number new =
    ((slice_get old number ≡ Some item) × (new ≡ old))
    ⊎ (((other : ℕ) → slice_get old other ≡ Some item → ⊥) × (number ≡ length old) × (new ≡ old ++ item ∷ []))
