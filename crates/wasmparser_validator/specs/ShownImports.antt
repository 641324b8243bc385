-- The imports that are shown of a module.
use Rattle.std.proofs.Common.{ap}
use Rattle.std.specs.Borrow.{Bor}
use Rattle.std.specs.Coded.{Coded, code_by, coded×, coded_ℕ, coded_list}
use Rattle.std.specs.Prelude.{◌≡◌, ℕ, List, [], ◌∷◌, Option, Some, None, option_map, refl, suc, zero}
use Rattle.wasm_spec.specs.Trees.{DefType, type_at}
use Rattle.wasm_spec.specs.TypeReferences.{external_map}
use Rattle.wasm_spec.specs.Types.{ExternalType, ExternalKind, FuncKind, TableKind, MemoryKind, GlobalKind, TagKind}
use Rattle.wasm_validity.specs.Context.{item_at}
use Rattle.wasm_validity.specs.ImportedItems.{Imported}
use Rattle.wasmparser_module_state.specs.Entities.{entity_refs, entity_type}
use Rattle.wasmparser_module_state.specs.State.{context}
use Rattle.wasmparser_module_state.specs.declared.entity_type.EntityType.{EntityType}
use Rattle.wasmparser_module_state.specs.declared.module_state.ModuleState.{ModuleState}
use Rattle.wasmparser_module_types.specs.ModuleTypes.{AreIds}

-- what the item of a kind with an index is, if there is one
abbrev pub shown_item : ModuleState → ExternalKind → ℕ → Option (ExternalType DefType)
shown_item state kind index = option_map (external_map (type_at (context state).types)) (item_at (context state) kind index)

-- the imports of a module that are still to come
pub record ImportsLeft : Type 0 where
  pub state : ModuleState
  pub left : List Imported

-- The next import is given: its two names, and what it is.
pub record IsImport (old : ImportsLeft) (origin name : List ℕ) (type : EntityType) (new : ImportsLeft) : Type 0 where
  pub import : Imported
  pub first : old.left ≡ import ∷ new.left
  pub origin_is : origin ≡ import.origin
  pub name_is : name ≡ import.name
  pub type_is : Some (entity_type old.state.types type) ≡ shown_item old.state import.kind import.index
  pub ids : AreIds old.state.types (entity_refs type)

abbrev pub GivesImport : ImportsLeft → Option (Bor (List ℕ) × Bor (List ℕ) × EntityType) → ImportsLeft → Type 0
GivesImport old None new = (old.left ≡ []) × (new.left ≡ [])
GivesImport old (Some given) new = IsImport old given.0.now given.1.now given.2 new × (new.state ≡ old.state)

-- ---- codes

abbrev number_of_kind : ExternalKind → ℕ
number_of_kind FuncKind = 0
number_of_kind TableKind = 1
number_of_kind MemoryKind = 2
number_of_kind GlobalKind = 3
number_of_kind TagKind = 4

abbrev kind_of_number : ℕ → ExternalKind
kind_of_number zero = FuncKind
kind_of_number (suc zero) = TableKind
kind_of_number (suc (suc zero)) = MemoryKind
kind_of_number (suc (suc (suc zero))) = GlobalKind
kind_of_number (suc (suc (suc (suc n)))) = TagKind

pub same_kind : (kind : ExternalKind) → kind_of_number (number_of_kind kind) ≡ kind
same_kind FuncKind = refl
same_kind TableKind = refl
same_kind MemoryKind = refl
same_kind GlobalKind = refl
same_kind TagKind = refl

abbrev imported_code : Coded Imported
imported_code =
    code_by (List ℕ × (List ℕ × (ℕ × ℕ))) (coded× (coded_list coded_ℕ) (coded× (coded_list coded_ℕ) (coded× coded_ℕ coded_ℕ)))
    (λ it. (it.origin, (it.name, (number_of_kind it.kind, it.index))))
    (λ p. record { origin = p.0; name = p.1.0; kind = kind_of_number p.1.1.0; index = p.1.1.1 })
    (λ it. ap (λ kind. record { origin = it.origin; name = it.name; kind = kind; index = it.index }) (same_kind it.kind))

abbrev pub imports_left_code : Coded ModuleState → Coded ImportsLeft
imports_left_code state_code = code_by (ModuleState × List Imported) (coded× state_code (coded_list imported_code)) (λ it. (it.state, it.left)) (λ p. record { state = p.0; left = p.1 }) (λ _. refl)
