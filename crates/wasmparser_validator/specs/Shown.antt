-- The index spaces that are shown of a module.
use Rattle.std.specs.Prelude.{◌≡◌, ◌<◌, ℕ, List, [], ◌∷◌, Option, Some, None, drop, length, option_and_then, slice_get}
use Rattle.wasm_spec.specs.Syntax.{Export}
use Rattle.wasm_spec.specs.Trees.{DefType, type_at, unrolled}
use Rattle.wasm_spec.specs.TypeReferences.{sub_map, sub_refs}
use Rattle.wasm_spec.specs.Types.{ExternalType, SubType}
use Rattle.wasm_validity.specs.Context.{item_at}
use Rattle.wasm_validity.specs.IndexSpaces.{Spaces, spaces_in}
use Rattle.wasmparser_readers.specs.declared.type_ref.TypeRef.{TypeRef}
use Rattle.wasmparser_readers.specs.declared.type_ref.TypeRef.TheVariants as refs
use Rattle.wasmparser_module_state.specs.State.{context}
use Rattle.wasmparser_module_state.specs.declared.entity_type.EntityType.{EntityType}
use Rattle.wasmparser_module_state.specs.declared.entity_type.EntityType.TheVariants as entities
use Rattle.wasmparser_module_types.specs.ModuleTypes.{AreIds, KnownTypes, stands_for}
use Rattle.wasmparser_types.specs.Index.{Index, core_type_id}
use Rattle.wasmparser_validator.specs.declared.types.CoreExports.{CoreExports}
use Rattle.wasmparser_validator.specs.declared.types.TypesRef.{TypesRef}

-- the index spaces that a borrowed view shows
abbrev pub spaces : TypesRef → Spaces
spaces types = spaces_in (context types.types.now.state)

-- its types, and what ids stand for
abbrev pub known : TypesRef → KnownTypes
known types = types.types.now.state.types

-- an id stands for this sub type, in which others are named by ids
pub record StandsFor (known : KnownTypes) (id : ℕ) (type : SubType Index) : Type 0 where
  pub same : unrolled (type_at known.interned id) ≡ Some (sub_map (stands_for known) type)
  pub ids : AreIds known (sub_refs type)

-- the first of some types, if there is one
abbrev pub first_of : {A : Type 0} → List A → Option A
first_of [] = None
first_of (x ∷ xs) = Some x

-- the id that a type has for its supertype, if it declares one
abbrev pub supertype_in : SubType Index → Option ℕ
supertype_in type = option_and_then core_type_id (first_of type.supertypes)

-- the supertype that a defined type declares, if it does
abbrev pub declared_supertype : DefType → Option DefType
declared_supertype type = option_and_then (λ (sub : SubType DefType). first_of sub.supertypes) (unrolled type)

-- the item that is exported, if there is one
abbrev pub exported : TypesRef → Export → Option (ExternalType ℕ)
exported types export = item_at (context types.types.now.state) export.kind export.index

-- what is made of the id of the type with an index, if there is that type
abbrev pub IsOfType : KnownTypes → ℕ → (ℕ → EntityType) → Option EntityType → Type 0
IsOfType known index make None = slice_get known.types index ≡ None
IsOfType known index make (Some entity) = (id : ℕ) × (entity ≡ make id) × (id < length known.interned) × (slice_get known.types index ≡ Some (type_at known.interned id))

-- The entity of an import: the types of tables and globals stay as they are written.
abbrev pub IsImported : KnownTypes → TypeRef → Option EntityType → Type 0
IsImported known (refs.Func index) found = IsOfType known index (λ id. entities.Func id) found
IsImported known (refs.Table type) found = found ≡ Some (entities.Table type)
IsImported known (refs.Memory type) found = found ≡ Some (entities.Memory type)
IsImported known (refs.Global type) found = found ≡ Some (entities.Global type)
IsImported known (refs.Tag type) found = IsOfType known type.func_type_idx (λ id. entities.Tag id) found

-- ---- exports

-- the exports that are still to come
abbrev pub exports_left : CoreExports → List Export
exports_left it = drop it.place it.exports.now
