-- The counts that the test of limits computes pass the limits that those of a made module pass. Where counts, types, names, segments and bodies pass none, no number does.
use Rattle.std.proofs.Common.{◌≡◌, ◌+◌, ◌-◌, ◌^◌, ℕ, suc, true, false, List, [], ◌∷◌, ◌++◌, length, map, min, refl, ap, sym, ◌∙◌}
use Rattle.std.specs.List.{flat_map, list_any, sum_by}
use Rattle.std.proofs.lemmas.List.{length-map}
use Rattle.wasm_core_types.specs.SubTypes.{sub_type}
use Rattle.wasm_spec.specs.Limits.{Limit, Types, Groups, Imports, Functions, Globals, Tags, Exports, Tables, Memories, ElementSegments, DataSegments, BodySize, Name, TypeSize}
use Rattle.wasm_spec.specs.Types.{SubType, FuncKind, TableKind, MemoryKind, GlobalKind, TagKind}
use Rattle.wasm_validity.specs.Context.{names_of}
use Rattle.wasm_validity.specs.Rules.{Passes, are_within, import_names, name_measures}
use Rattle.wasm_smith_definitions.specs.Items.{data_segment, element_segment, export}
use Rattle.wasm_smith_shapes.specs.Imports.{import_entry}
use Rattle.wasm_smith_definitions.specs.Kinds.{count_of}
use Rattle.wasm_smith_sections.specs.ModuleItems.{made_of}
use Rattle.wasm_smith_sections.specs.declared.module_items.ModuleItems.{ModuleItems}
use Rattle.wasm_smith_types.specs.Drawing.{total}
use Rattle.wasm_smith_types.specs.Grouped.{grouped}
use Rattle.wasm_smith_validity.specs.ValidGroups.{types_of}
use Rattle.wasm_smith_types.proofs.GroupedLaws.{types_of_grouped}
use Rattle.wasm_smith_validity.specs.Made.{Made}
use Rattle.wasm_smith_validity.specs.Spaces.{Spaces}
use Rattle.wasm_smith_module.specs.Measured.{AreShort, is_long_name, saturated}
use Rattle.wasm_smith_module.specs.Measures.{counts_of, imported_items, lengths_of, numbers_of, segment_measures, size_of, size_of_export, sizes_of, spaces_of, type_measures, type_size, with_own}
use Rattle.wasm_smith_module.proofs.EntryNumbers.{passes_left, passes_right, within_append, within_one}
use Rattle.wasm_smith_module.proofs.NameLaws.{long_passes, short_within}
use Rattle.wasm_smith_module.proofs.PassedLaws.{AreAlike, same_alike, saturated_alike}
use Rattle.wasm_smith_module.proofs.SaturatedSums.{whole_size}

-- ---- types

pub types_are : (items : ModuleItems) → total items.sizes.now ≡ length items.types.now → types_of (made_of items).groups ≡ map sub_type items.types.now
types_are items whole = types_of_grouped items.sizes.now (map sub_type items.types.now) (whole ∙ sym (length-map items.types.now sub_type))

groups_counted : (sizes : List ℕ) (types : List (SubType ℕ)) → length (grouped sizes types) ≡ length sizes
groups_counted [] types = refl
groups_counted (size ∷ sizes) types = ap suc (groups_counted sizes _)

-- ---- counts

-- what is computed of the items of a module
pub record IsComputed (items : ModuleItems) (functions tables memories tags globals size : ℕ) : Type 0 where
  pub whole : total items.sizes.now ≡ length items.types.now
  pub functions_are : functions ≡ saturated (count_of (spaces_of (made_of items)) FuncKind)
  pub tables_are : tables ≡ saturated (count_of (spaces_of (made_of items)) TableKind)
  pub memories_are : memories ≡ saturated (count_of (spaces_of (made_of items)) MemoryKind)
  pub tags_are : tags ≡ saturated (count_of (spaces_of (made_of items)) TagKind)
  pub globals_are : globals ≡ saturated (count_of (spaces_of (made_of items)) GlobalKind)
  pub size_is : size ≡ saturated (type_size (made_of items))

abbrev pub computed : ModuleItems → ℕ → ℕ → ℕ → ℕ → ℕ → ℕ → List (Limit × ℕ)
computed items functions tables memories tags globals size =
    (Types, length items.types.now)
    ∷ (Groups, length items.sizes.now)
    ∷ (Imports, length items.imports.now)
    ∷ (Functions, functions)
    ∷ (Tables, tables)
    ∷ (Memories, memories)
    ∷ (Tags, tags)
    ∷ (Globals, globals)
    ∷ (Exports, length items.exports.now)
    ∷ (ElementSegments, length items.elems.now)
    ∷ (DataSegments, length items.data_segments.now)
    ∷ (TypeSize, size)
    ∷ []

pub counts_alike : (items : ModuleItems) (functions tables memories tags globals size : ℕ) → IsComputed items functions tables memories tags globals size
    → AreAlike (computed items functions tables memories tags globals size) (counts_of (made_of items))
counts_alike items functions tables memories tags globals size h =
    let m = made_of items in
    let k = spaces_of m in
    let types = length-map items.types.now sub_type in (
      same_alike Types (length (types_of m.groups)) (length items.types.now) (sym types ∙ ap length (sym (types_are items h.whole))),
      (
        same_alike Groups (length m.groups) (length items.sizes.now) (sym (groups_counted items.sizes.now (map sub_type items.types.now))),
        (
          same_alike Imports (length m.imports) (length items.imports.now) (sym (length-map items.imports.now import_entry)),
          (
            saturated_alike Functions (count_of k FuncKind) functions h.functions_are,
            (
              saturated_alike Tables (count_of k TableKind) tables h.tables_are,
              (
                saturated_alike Memories (count_of k MemoryKind) memories h.memories_are,
                (
                  saturated_alike Tags (count_of k TagKind) tags h.tags_are,
                  (
                    saturated_alike Globals (count_of k GlobalKind) globals h.globals_are,
                    (
                      same_alike Exports (length m.exports) (length items.exports.now) (sym (length-map items.exports.now export)),
                      (
                        same_alike ElementSegments (length m.elems) (length items.elems.now) (sym (length-map items.elems.now element_segment)),
                        (
                          same_alike DataSegments (length m.data_segments) (length items.data_segments.now) (sym (length-map items.data_segments.now data_segment)),
                          (saturated_alike TypeSize (type_size m) size h.size_is, tt),
                        ),
                      ),
                    ),
                  ),
                ),
              ),
            ),
          ),
        ),
      ),
    )

-- the size of all types, of imports and of exports
pub size_counted : (items : ModuleItems) (k : Spaces) (i e s t : ℕ) → total items.sizes.now ≡ length items.types.now → with_own k (made_of items) ≡ spaces_of (made_of items)
    → i ≡ saturated (sum_by (size_of (map sub_type items.types.now)) (imported_items (made_of items)))
    → e ≡ saturated (sum_by (size_of_export (with_own k (made_of items))) (made_of items).exports)
    → s ≡ min (i + e) (2 ^ 64 - 1) → t ≡ min (s + 1) (2 ^ 64 - 1) → t ≡ saturated (type_size (made_of items))
size_counted items k i e s t whole spaces imports exports both all =
    let m = made_of items in
    whole_size (sum_by (size_of (types_of m.groups)) (imported_items m)) (sum_by (size_of_export (spaces_of m)) m.exports) i e s t
    (imports ∙ ap (λ types. saturated (sum_by (size_of types) (imported_items m))) (sym (types_are items whole)))
    (exports ∙ ap (λ k. saturated (sum_by (size_of_export k) m.exports)) spaces) both all

-- ---- lengths

bodies_within : (bodies : List (List ℕ)) → AreShort bodies → are_within (map (λ body. (BodySize, length body)) bodies) ≡ true
bodies_within [] h = refl
bodies_within (body ∷ bodies) h = within_one BodySize (length body) (map (λ body. (BodySize, length body)) bodies) h.0 (bodies_within bodies h.1)

pub sizes_within : (m : Made) (bodies : List (List ℕ)) → are_within (type_measures (types_of m.groups)) ≡ true → list_any is_long_name (flat_map import_names m.imports) ≡ false
    → list_any is_long_name (names_of m.exports) ≡ false → are_within (segment_measures m.elems) ≡ true → AreShort bodies → are_within (sizes_of bodies m) ≡ true
sizes_within m bodies types imported exported segments short =
    let origins = name_measures (flat_map import_names m.imports) in
    let exports = name_measures (names_of m.exports) in
    let sizes = map (λ body. (BodySize, length body)) bodies in
    within_append (type_measures (types_of m.groups)) (lengths_of bodies m) types
    (within_append origins (exports ++ (segment_measures m.elems ++ sizes)) (short_within (flat_map import_names m.imports) imported)
    (within_append exports (segment_measures m.elems ++ sizes) (short_within (names_of m.exports) exported)
    (within_append (segment_measures m.elems) sizes segments (bodies_within bodies short))))

pub type_passed : (m : Made) (bodies : List (List ℕ)) (limit : Limit) → Passes limit (type_measures (types_of m.groups)) → Passes limit (sizes_of bodies m)
type_passed m bodies limit p = passes_left limit (type_measures (types_of m.groups)) (lengths_of bodies m) p

pub import_passed : (m : Made) (bodies : List (List ℕ)) → list_any is_long_name (flat_map import_names m.imports) ≡ true → Passes Name (sizes_of bodies m)
import_passed m bodies long =
    let origins = name_measures (flat_map import_names m.imports) in
    let exports = name_measures (names_of m.exports) in
    let sizes = map (λ body. (BodySize, length body)) bodies in
    passes_right Name (type_measures (types_of m.groups)) (lengths_of bodies m)
    (passes_left Name origins (exports ++ (segment_measures m.elems ++ sizes)) (long_passes (flat_map import_names m.imports) long))

pub export_passed : (m : Made) (bodies : List (List ℕ)) → list_any is_long_name (names_of m.exports) ≡ true → Passes Name (sizes_of bodies m)
export_passed m bodies long =
    let origins = name_measures (flat_map import_names m.imports) in
    let exports = name_measures (names_of m.exports) in
    let sizes = map (λ body. (BodySize, length body)) bodies in
    passes_right Name (type_measures (types_of m.groups)) (lengths_of bodies m)
    (passes_right Name origins (exports ++ (segment_measures m.elems ++ sizes))
    (passes_left Name exports (segment_measures m.elems ++ sizes) (long_passes (names_of m.exports) long)))

pub segment_passed : (m : Made) (bodies : List (List ℕ)) (limit : Limit) → Passes limit (segment_measures m.elems) → Passes limit (sizes_of bodies m)
segment_passed m bodies limit p =
    let origins = name_measures (flat_map import_names m.imports) in
    let exports = name_measures (names_of m.exports) in
    let sizes = map (λ body. (BodySize, length body)) bodies in
    passes_right limit (type_measures (types_of m.groups)) (lengths_of bodies m)
    (passes_right limit origins (exports ++ (segment_measures m.elems ++ sizes))
    (passes_right limit exports (segment_measures m.elems ++ sizes) (passes_left limit (segment_measures m.elems) sizes p)))

-- ---- all numbers

pub all_within : (m : Made) (bodies : List (List ℕ)) → are_within (counts_of m) ≡ true → are_within (sizes_of bodies m) ≡ true → are_within (numbers_of bodies m) ≡ true
all_within m bodies counts sizes = within_append (counts_of m) (sizes_of bodies m) counts sizes

pub count_passed : (m : Made) (bodies : List (List ℕ)) (limit : Limit) → Passes limit (counts_of m) → Passes limit (numbers_of bodies m)
count_passed m bodies limit p = passes_left limit (counts_of m) (sizes_of bodies m) p

pub size_passed : (m : Made) (bodies : List (List ℕ)) (limit : Limit) → Passes limit (sizes_of bodies m) → Passes limit (numbers_of bodies m)
size_passed m bodies limit p = passes_right limit (counts_of m) (sizes_of bodies m) p
