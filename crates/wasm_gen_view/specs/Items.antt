-- The items of a module as those of its index spaces, with references of a view.
use Rattle.std.specs.Prelude.{◌≡◌, ℕ, List, [], ◌∷◌, map, slice_get, Option, option_map}
use Rattle.wasm_spec.specs.Syntax.{Export as WrittenExport}
use Rattle.wasm_spec.specs.TypeReferences.{global_map, ref_map, table_map}
use Rattle.wasm_spec.specs.Types as spec
use Rattle.wasm_validity.specs.IndexSpaces.{Spaces}
use Rattle.wasm_gen_view.specs.Types.{ref_type}
use Rattle.wasm_gen_view.specs.Views.{Named, global_type, memory_type, table_type, with_item}
use Rattle.wasm_gen_view.specs.declared.items.Items.{Items}
use Rattle.wasm_gen_view.specs.declared.types.TypePlace.{TypePlace}
use Rattle.wasm_gen_view.specs.declared.types.TypeReference.{TypeReference}
use Rattle.wasm_gen_view.specs.declared.types.TypeReference.TheVariants.{Other}

-- They are the items of these index spaces, where an index has this reference.
pub record AreItems (refer : ℕ → TypeReference) (s : Spaces) (items : Items) : Type 0 where
  pub functions : map (λ (place : TypePlace). Other place) items.functions.items ≡ map refer s.functions
  pub tables : map table_type items.tables.items ≡ map (table_map refer) s.tables
  pub memories : map memory_type items.memories.items ≡ s.memories
  pub globals : map global_type items.globals.items ≡ map (global_map refer) s.globals
  pub tags : map (λ (place : TypePlace). Other place) items.tags.items ≡ map refer s.tags
  pub elements : map ref_type items.elements.items ≡ map (ref_map refer) s.elements

-- the item of a kind with an index, if there is one
abbrev pub item_among : Items → spec.ExternalKind → ℕ → Option (spec.ExternalType TypeReference)
item_among items spec.FuncKind index = option_map (λ place. spec.FuncExternal (Other place)) (slice_get items.functions.items index)
item_among items spec.TableKind index = option_map (λ type. spec.TableExternal (table_type type)) (slice_get items.tables.items index)
item_among items spec.MemoryKind index = option_map (λ type. spec.MemoryExternal (memory_type type)) (slice_get items.memories.items index)
item_among items spec.GlobalKind index = option_map (λ type. spec.GlobalExternal (global_type type)) (slice_get items.globals.items index)
item_among items spec.TagKind index = option_map (λ place. spec.TagExternal (Other place)) (slice_get items.tags.items index)

-- the exports whose items are there
abbrev pub exports_among : Items → List WrittenExport → List (Named TypeReference)
exports_among items [] = []
exports_among items (export ∷ exports) = with_item export.name (item_among items export.kind export.index) (exports_among items exports)
