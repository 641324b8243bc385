-- Items that are owed, and why drawing ends.
use Rattle.std.proofs.Common.{◌≡◌, ℕ, ◌<◌, ◌≤◌, Bool, true, false, ◌||◌, List, is_some, refl, ◌⊎◌, inl, inr, if◌then◌else◌, arith}
use Rattle.wasm_spec.specs.Types.{TableType}
use Rattle.wasm_smith_config.specs.declared.config.Config.{Config}
use Rattle.wasm_smith_module.specs.Asked.{has_non_null}
use Rattle.wasm_smith_module.specs.Building.{IsEnd}
use Rattle.wasm_smith_module.specs.Elements.{AreNullable}
use Rattle.wasm_smith_module.specs.Promise.{least_exports}
use Rattle.wasm_smith_types.specs.Given.{export_shape}
use Rattle.wasm_smith_unstructured.specs.declared.error.Error.{Error}
use Rattle.wasm_smith_unstructured.specs.declared.error.Error.TheVariants as errors

-- ---- exports

pub fewer_exports : (c : Config) → least_exports c ≤ c.min_exports
fewer_exports c = go (is_some (export_shape c) || c.export_everything)
  where
    go : (none : Bool) → (if none then 0 else c.min_exports) ≤ c.min_exports
    go true = omega arith
    go false = omega arith

-- ---- refusals

-- where elements of a table can't be null, a shape says so
non_null_elements : (c : Config) (tables : List (TableType ℕ)) → (has_non_null c ≡ false → AreNullable tables) → ¬ (AreNullable tables) → has_non_null c ≡ true
non_null_elements c tables nullable not_all = go (has_non_null c) refl
  where
    go : (b : Bool) → has_non_null c ≡ b → has_non_null c ≡ true
    go true e = e
    go false e = absurd (not_all (nullable e))

pub elements_end : (c : Config) (tables : List (TableType ℕ)) (e : Error) → (has_non_null c ≡ false → AreNullable tables)
    → (e ≡ errors.Memory) ⊎ (((e ≡ errors.IncorrectFormat) × (0 < c.min_element_segments)) ⊎ ((e ≡ errors.EmptyChoose) × ¬ (AreNullable tables))) → IsEnd c e
elements_end c tables e nullable refused = elim refused [
  | inl memory ↦ rw memory tt
  | inr other ↦ elim other [
    | inl owed ↦ rw owed.0 (let some = owed.1 in omega (arith, some))
    | inr empty ↦ rw empty.0 (non_null_elements c tables nullable empty.1)
  ]
]
