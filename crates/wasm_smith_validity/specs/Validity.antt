-- Validity by index of a module made by the generator: the rules of validation over plain lists. It knows no bytes and no trees, so two equal types are
-- two here, and it knows fewer constants and no empty import entries: some modules are refused that the standard accepts. Limits but that on the depth of
-- types are asked elsewhere, and so is whether the module can be written. Core Specification 3.0, Validation, "Types" and "Modules".
use Rattle.std.specs.Prelude.{◌≡◌, true, false, List, [], length}
use Rattle.std.specs.List.{AllByRecursion}
use Rattle.wasm_spec.specs.Features.{Features}
use Rattle.wasm_validity.specs.Entries.{Entry, entries_of}
use Rattle.wasm_smith_validity.specs.ValidGroups.{types_of}
use Rattle.wasm_smith_validity.specs.Made.{Made}
use Rattle.wasm_smith_validity.specs.Rules.{KeepAll}
use Rattle.wasm_smith_validity.specs.Sections.{ordered_sections}
use Rattle.wasm_smith_validity.specs.Spaces.{is_value, spaces_of_types}

-- the entries of its sections, but for custom ones, the count of data segments and the bodies, on which there is no rule here
abbrev pub made_entries : Made → List Entry
made_entries m = entries_of (ordered_sections false [] m)

-- Each entry keeps its rule in the index spaces before it, and each function has a body with locals of value types that it may write (Modules, "Locals").
pub record IsValidByIndex (features : Features) (m : Made) : Type 0 where
  pub rules : KeepAll features (spaces_of_types []) (made_entries m)
  pub bodies : length m.bodies ≡ length m.funcs
  pub locals : AllByRecursion (λ body. AllByRecursion (λ type. is_value features (types_of m.groups) type ≡ true) body.locals) m.bodies
