-- The resources of a module's state, as bodies see them. Types are referred to by their ids in the state's list.
use Rattle.std.specs.Prelude.{ℕ, true, List, [], get_or, length, map, slice_get}
use Rattle.wasm_bodies.specs.BodyContext.{ModuleItems, NamedType}
use Rattle.wasm_spec.specs.Subtyping.{SubTypes}
use Rattle.wasm_spec.specs.TypeReferences.{global_map, ref_map, table_map}
use Rattle.wasm_spec.specs.Types.{StructComposite, SubType}
use Rattle.wasm_validity.specs.Context.{Context, functions_in, globals_in}
use Rattle.wasmparser_type_relations.specs.Chains.{by_id}
use Rattle.wasmparser_module_state.specs.State.{context}
use Rattle.wasmparser_module_state.specs.declared.module_state.ModuleState.{ModuleState}
use Rattle.wasmparser_module_types.specs.Greatest.{greatest_above}
use Rattle.wasmparser_module_types.specs.ModuleTypes.{KnownTypes}
use Rattle.wasmparser_module_types.specs.WithIds.{index_at}
use Rattle.wasmparser_bodies.specs.Resources.{Resources}
use Rattle.wasmparser_type_relations.specs.Decision.{is_val_below}
use Rattle.wasmparser_types.specs.Index.{Index, Id}

-- (each id of a module's types has a sub type, so this one stands for none)
abbrev pub no_sub_type : SubType Index
no_sub_type = record { is_final = true; supertypes = []; composite_type = StructComposite [] }

-- what a type index names whose type has this id
abbrev pub named_type : List (SubType Index) → ℕ → NamedType Index
named_type sub_types id = record { reference = Id id; composite = (get_or sub_types id no_sub_type).composite_type }

-- the sub types that ids stand for
abbrev pub sub_types_of : KnownTypes → SubTypes Index
sub_types_of known = by_id (slice_get known.sub_types)

abbrev pub items_in : KnownTypes → Context → ModuleItems Index
items_in known cx = record {
  types = map (named_type known.sub_types) known.ids;
  functions = functions_in cx;
  tables = map (table_map (index_at known.ids)) cx.tables;
  memories = cx.memories;
  globals = map (global_map (index_at known.ids)) (globals_in cx);
  tags = cx.tags;
  elements = map (ref_map (index_at known.ids)) cx.elements;
  data_count = cx.data_count;
  declared = cx.declared;
  is_below = is_val_below (sub_types_of known);
}

abbrev pub resources_in : KnownTypes → Context → Resources
resources_in known cx = record {
  items = items_in known cx;
  sub_type_of = sub_types_of known;
  top_of = greatest_above (sub_types_of known);
  imported_functions = length cx.imported_functions;
}

abbrev pub state_resources : ModuleState → Resources
state_resources s = resources_in s.types (context s)
