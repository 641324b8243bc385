-- Two views are equal exactly where their index spaces are equal as trees.
use Rattle.std.proofs.Common.{◌≡◌, ℕ, ◌<◌, List, [], ◌∷◌, map, length, Some, refl, sym, ap, subst, ◌∙◌}
use Rattle.std.specs.List.{AllByRecursion, flat_map}
use Rattle.std.specs.Option.{unwrap_or}
use Rattle.wasm_spec.specs.Trees.{DefType, GroupTree, no_type, opened, section_types}
use Rattle.wasm_spec.specs.TypeReferences.{external_map, external_refs, global_map, global_refs, heap_map, heap_refs, ref_map, ref_refs, subs_map, subs_refs, table_map, table_refs, val_map, val_refs}
use Rattle.wasm_spec.specs.Types as spec
use Rattle.wasm_spec.proofs.MappedBack.{all_left, all_right}
use Rattle.wasm_spec.proofs.Places.{get_some}
use Rattle.wasm_spec.proofs.TypeMaps.{map-map}
use Rattle.wasm_validity.specs.IndexSpaces.{Spaces}
use Rattle.wasm_gen_view.specs.Numbers.{group_types}
use Rattle.wasm_gen_view.specs.SameViews.{TreeSpaces, Viewed, as_trees, named_item, viewed}
use Rattle.wasm_gen_view.specs.Types.{ref_type, sub_type}
use Rattle.wasm_gen_view.specs.Views.{AreFirst, AreNumbered, HasTypes, IsOutside, IsViewOf, IsWithin, Named, export_in, global_type, table_type, tree_at, tree_reference, type_in, type_of}
use Rattle.wasm_gen_view.specs.declared.types.TypePlace.{TypePlace}
use Rattle.wasm_gen_view.specs.declared.types.TypeReference.{TypeReference}
use Rattle.wasm_gen_view.specs.declared.types.TypeReference.TheVariants.{Own, Other}
use Rattle.wasm_gen_view.specs.declared.view.View.{View}
use Rattle.wasm_gen_view.proofs.NumberLaws.{maps_back, references_back, subs_back}
use Rattle.wasm_gen_view.proofs.SameTrees.{AreDistinct, all_distinct, first_one, same_trees, section_earlier}

-- ---- the meaning of a view's values, by the trees of its groups

abbrev name_in : List GroupTree → Named TypeReference → Named DefType
name_in all named = record { name = named.name; item = external_map (type_of all) named.item }

abbrev meaning : List GroupTree → Viewed → TreeSpaces
meaning all x = record {
  types = map (type_in all) x.types;
  functions = map (type_in all) x.functions;
  tables = map (table_map (type_of all)) x.tables;
  memories = x.memories;
  globals = map (global_map (type_of all)) x.globals;
  tags = map (type_in all) x.tags;
  elements = map (ref_map (type_of all)) x.elements;
  exports = map (name_in all) x.exports;
}

means : (s : Spaces) (v : View) (it : IsViewOf s v) → meaning it.trees (viewed v) ≡ as_trees s
means s v it =
    let all = it.trees in
    let tables = map-map (table_map (type_of all)) table_type (λ type. table_map (type_of all) (table_type type)) (λ _. refl) v.tables.items ∙ it.tables in
    let globals = map-map (global_map (type_of all)) global_type (λ type. global_map (type_of all) (global_type type)) (λ _. refl) v.globals.items ∙ it.globals in
    let elements = map-map (ref_map (type_of all)) ref_type (λ type. ref_map (type_of all) (ref_type type)) (λ _. refl) v.elements.items ∙ it.elements in
    let exports = map-map (name_in all) named_item (export_in all) (λ _. refl) v.exports.items ∙ it.exports in
    λ j. record {
      types = it.types j;
      functions = it.functions j;
      tables = tables j;
      memories = it.memories j;
      globals = globals j;
      tags = it.tags j;
      elements = elements j;
      exports = exports j;
    }

groups_mean : (s : Spaces) (v : View) (it : IsViewOf s v) → map (subs_map (tree_reference it.trees)) (viewed v).groups ≡ map opened it.trees
groups_mean s v it = map-map (subs_map (tree_reference it.trees)) group_types (λ group. subs_map (tree_reference it.trees) (map sub_type group.items)) (λ _. refl) v.groups.items ∙ it.groups

-- ---- lists

all_mapped : {X Y : Type 0} (P : Y → Type 0) (f : X → Y) (xs : List X) → AllByRecursion (λ x. P (f x)) xs → AllByRecursion P (map f xs)
all_mapped P f [] h = tt
all_mapped P f (x ∷ xs) h = (h.0, all_mapped P f xs h.1)

-- each part of a joined list has what its items have
parts : {X Y R : Type 0} (P : R → Type 0) (f : X → Y) (refs : Y → List R) (xs : List X) → AllByRecursion P (flat_map (λ x. refs (f x)) xs) → AllByRecursion (λ y. AllByRecursion P (refs y)) (map f xs)
parts P f refs [] h = tt
parts P f refs (x ∷ xs) h = (all_left P (refs (f x)) (flat_map (λ x. refs (f x)) xs) h, parts P f refs xs (all_right P (refs (f x)) (flat_map (λ x. refs (f x)) xs) h))

-- ---- what has one meaning is one

module _ (all : List GroupTree) (distinct : AreDistinct all) where
  abbrev Out : List TypeReference → Type 0
  Out rs = AllByRecursion (IsOutside (length all)) rs

  place_back : (p q : TypePlace) → p.group < length all → q.group < length all → type_in all p ≡ type_in all q → p ≡ q
  place_back p q h k e =
      let tree : tree_at all p.group ≡ tree_at all q.group = ap (λ (t : DefType). t.tree) e in
      let place : p.place ≡ q.place = ap (λ (t : DefType). t.place) e in
      let (x, at) = get_some all p.group h in
      let (y, also) = get_some all q.group k in
      let same : x ≡ y = sym (ap (λ t. unwrap_or t no_type.tree) at) ∙ tree ∙ ap (λ t. unwrap_or t no_type.tree) also in
      let group : p.group ≡ q.group = distinct p.group q.group x at (also ∙ ap Some (sym same)) in
      λ j. record { group = group j; place = place j }

  outside_back : (a b : TypeReference) → IsOutside (length all) a → IsOutside (length all) b → type_of all a ≡ type_of all b → a ≡ b
  outside_back (Own p) b h k e = absurd h
  outside_back (Other p) (Own q) h k e = absurd k
  outside_back (Other p) (Other q) h k e = ap Other (place_back p q h k e)

  heap_back : (a b : spec.HeapType TypeReference) → Out (heap_refs a) → Out (heap_refs b) → heap_map (type_of all) a ≡ heap_map (type_of all) b → a ≡ b
  heap_back (spec.Abstract x) (spec.Abstract y) h k e = cc
  heap_back (spec.Abstract x) (spec.Concrete y) h k e = cc
  heap_back (spec.Concrete x) (spec.Abstract y) h k e = cc
  heap_back (spec.Concrete x) (spec.Concrete y) h k e = ap spec.Concrete (outside_back x y h.0 k.0 (let one : type_of all x ≡ type_of all y = cc in one))

  ref_back : (a b : spec.RefType TypeReference) → Out (ref_refs a) → Out (ref_refs b) → ref_map (type_of all) a ≡ ref_map (type_of all) b → a ≡ b
  ref_back a b h k e =
      let flag : a.nullable ≡ b.nullable = ap (λ (t : spec.RefType DefType). t.nullable) e in
      let heap : a.heap_type ≡ b.heap_type = heap_back a.heap_type b.heap_type h k (ap (λ (t : spec.RefType DefType). t.heap_type) e) in
      λ j. record { nullable = flag j; heap_type = heap j }

  table_back : (a b : spec.TableType TypeReference) → Out (table_refs a) → Out (table_refs b) → table_map (type_of all) a ≡ table_map (type_of all) b → a ≡ b
  table_back a b h k e =
      let element : a.element_type ≡ b.element_type = ref_back a.element_type b.element_type h k (ap (λ (t : spec.TableType DefType). t.element_type) e) in
      let limits : a.limits ≡ b.limits = ap (λ (t : spec.TableType DefType). t.limits) e in
      λ j. record { element_type = element j; limits = limits j }

  val_back : (a b : spec.ValType TypeReference) → Out (val_refs a) → Out (val_refs b) → val_map (type_of all) a ≡ val_map (type_of all) b → a ≡ b
  val_back spec.I32 spec.I32 h k e = refl
  val_back spec.I32 spec.I64 h k e = cc
  val_back spec.I32 spec.F32 h k e = cc
  val_back spec.I32 spec.F64 h k e = cc
  val_back spec.I32 spec.V128 h k e = cc
  val_back spec.I32 (spec.Ref m y) h k e = cc
  val_back spec.I64 spec.I32 h k e = cc
  val_back spec.I64 spec.I64 h k e = refl
  val_back spec.I64 spec.F32 h k e = cc
  val_back spec.I64 spec.F64 h k e = cc
  val_back spec.I64 spec.V128 h k e = cc
  val_back spec.I64 (spec.Ref m y) h k e = cc
  val_back spec.F32 spec.I32 h k e = cc
  val_back spec.F32 spec.I64 h k e = cc
  val_back spec.F32 spec.F32 h k e = refl
  val_back spec.F32 spec.F64 h k e = cc
  val_back spec.F32 spec.V128 h k e = cc
  val_back spec.F32 (spec.Ref m y) h k e = cc
  val_back spec.F64 spec.I32 h k e = cc
  val_back spec.F64 spec.I64 h k e = cc
  val_back spec.F64 spec.F32 h k e = cc
  val_back spec.F64 spec.F64 h k e = refl
  val_back spec.F64 spec.V128 h k e = cc
  val_back spec.F64 (spec.Ref m y) h k e = cc
  val_back spec.V128 spec.I32 h k e = cc
  val_back spec.V128 spec.I64 h k e = cc
  val_back spec.V128 spec.F32 h k e = cc
  val_back spec.V128 spec.F64 h k e = cc
  val_back spec.V128 spec.V128 h k e = refl
  val_back spec.V128 (spec.Ref m y) h k e = cc
  val_back (spec.Ref n x) spec.I32 h k e = cc
  val_back (spec.Ref n x) spec.I64 h k e = cc
  val_back (spec.Ref n x) spec.F32 h k e = cc
  val_back (spec.Ref n x) spec.F64 h k e = cc
  val_back (spec.Ref n x) spec.V128 h k e = cc
  val_back (spec.Ref n x) (spec.Ref m y) h k e = let flag : n ≡ m = cc in let heap : heap_map (type_of all) x ≡ heap_map (type_of all) y = cc in rw (flag, heap_back x y h k heap)

  global_back : (a b : spec.GlobalType TypeReference) → Out (global_refs a) → Out (global_refs b) → global_map (type_of all) a ≡ global_map (type_of all) b → a ≡ b
  global_back a b h k e =
      let value : a.value_type ≡ b.value_type = val_back a.value_type b.value_type h k (ap (λ (t : spec.GlobalType DefType). t.value_type) e) in
      let mutable : a.mutable ≡ b.mutable = ap (λ (t : spec.GlobalType DefType). t.mutable) e in
      λ j. record { value_type = value j; mutable = mutable j }

  external_back : (a b : spec.ExternalType TypeReference) → Out (external_refs a) → Out (external_refs b) → external_map (type_of all) a ≡ external_map (type_of all) b → a ≡ b
  external_back (spec.FuncExternal x) (spec.FuncExternal y) h k e = ap spec.FuncExternal (outside_back x y h.0 k.0 (let one : type_of all x ≡ type_of all y = cc in one))
  external_back (spec.FuncExternal x) (spec.TableExternal y) h k e = cc
  external_back (spec.FuncExternal x) (spec.MemoryExternal y) h k e = cc
  external_back (spec.FuncExternal x) (spec.GlobalExternal y) h k e = cc
  external_back (spec.FuncExternal x) (spec.TagExternal y) h k e = cc
  external_back (spec.TableExternal x) (spec.FuncExternal y) h k e = cc
  external_back (spec.TableExternal x) (spec.TableExternal y) h k e = ap spec.TableExternal (table_back x y h k (let one : table_map (type_of all) x ≡ table_map (type_of all) y = cc in one))
  external_back (spec.TableExternal x) (spec.MemoryExternal y) h k e = cc
  external_back (spec.TableExternal x) (spec.GlobalExternal y) h k e = cc
  external_back (spec.TableExternal x) (spec.TagExternal y) h k e = cc
  external_back (spec.MemoryExternal x) (spec.FuncExternal y) h k e = cc
  external_back (spec.MemoryExternal x) (spec.TableExternal y) h k e = cc
  external_back (spec.MemoryExternal x) (spec.MemoryExternal y) h k e = cc
  external_back (spec.MemoryExternal x) (spec.GlobalExternal y) h k e = cc
  external_back (spec.MemoryExternal x) (spec.TagExternal y) h k e = cc
  external_back (spec.GlobalExternal x) (spec.FuncExternal y) h k e = cc
  external_back (spec.GlobalExternal x) (spec.TableExternal y) h k e = cc
  external_back (spec.GlobalExternal x) (spec.MemoryExternal y) h k e = cc
  external_back (spec.GlobalExternal x) (spec.GlobalExternal y) h k e = ap spec.GlobalExternal (global_back x y h k (let one : global_map (type_of all) x ≡ global_map (type_of all) y = cc in one))
  external_back (spec.GlobalExternal x) (spec.TagExternal y) h k e = cc
  external_back (spec.TagExternal x) (spec.FuncExternal y) h k e = cc
  external_back (spec.TagExternal x) (spec.TableExternal y) h k e = cc
  external_back (spec.TagExternal x) (spec.MemoryExternal y) h k e = cc
  external_back (spec.TagExternal x) (spec.GlobalExternal y) h k e = cc
  external_back (spec.TagExternal x) (spec.TagExternal y) h k e = ap spec.TagExternal (outside_back x y h.0 k.0 (let one : type_of all x ≡ type_of all y = cc in one))

  named_back : (a b : Named TypeReference) → Out (external_refs a.item) → Out (external_refs b.item) → name_in all a ≡ name_in all b → a ≡ b
  named_back a b h k e =
      let name : a.name ≡ b.name = ap (λ (t : Named DefType). t.name) e in
      let item : a.item ≡ b.item = external_back a.item b.item h k (ap (λ (t : Named DefType). t.item) e) in
      λ j. record { name = name j; item = item j }

  places_back : (ps qs : List TypePlace) → AllByRecursion (λ (p : TypePlace). p.group < length all) ps → AllByRecursion (λ (p : TypePlace). p.group < length all) qs → map (type_in all) ps ≡ map (type_in all) qs → ps ≡ qs
  places_back = maps_back (λ (p : TypePlace). p.group < length all) (type_in all) place_back

  groups_back : (xs ys : List (List (spec.SubType TypeReference))) → AllByRecursion (λ group. AllByRecursion (IsWithin (length all)) (subs_refs group)) xs → AllByRecursion (λ group. AllByRecursion (IsWithin (length all)) (subs_refs group)) ys
      → map (subs_map (tree_reference all)) xs ≡ map (subs_map (tree_reference all)) ys → xs ≡ ys
  groups_back = maps_back (λ group. AllByRecursion (IsWithin (length all)) (subs_refs group)) (subs_map (tree_reference all))
      (subs_back (Own 0) (IsWithin (length all)) (tree_reference all) (references_back all distinct))

  -- views of these trees with one meaning are one
  views_back : (v w : View) → AreNumbered (length all) v → AreNumbered (length all) w → map (subs_map (tree_reference all)) (viewed v).groups ≡ map (subs_map (tree_reference all)) (viewed w).groups
      → meaning all (viewed v) ≡ meaning all (viewed w) → viewed v ≡ viewed w
  views_back v w h k same e =
      let groups = groups_back (viewed v).groups (viewed w).groups (all_mapped _ group_types v.groups.items h.groups) (all_mapped _ group_types w.groups.items k.groups) same in
      let types = places_back v.types.items w.types.items h.types k.types (ap (λ (t : TreeSpaces). t.types) e) in
      let functions = places_back v.functions.items w.functions.items h.functions k.functions (ap (λ (t : TreeSpaces). t.functions) e) in
      let tables = maps_back (λ x. Out (table_refs x)) (table_map (type_of all)) table_back (viewed v).tables (viewed w).tables (parts _ table_type table_refs v.tables.items h.tables) (parts _ table_type table_refs w.tables.items k.tables) (ap (λ (t : TreeSpaces). t.tables) e) in
      let globals = maps_back (λ x. Out (global_refs x)) (global_map (type_of all)) global_back (viewed v).globals (viewed w).globals (parts _ global_type global_refs v.globals.items h.globals) (parts _ global_type global_refs w.globals.items k.globals) (ap (λ (t : TreeSpaces). t.globals) e) in
      let tags = places_back v.tags.items w.tags.items h.tags k.tags (ap (λ (t : TreeSpaces). t.tags) e) in
      let elements = maps_back (λ x. Out (ref_refs x)) (ref_map (type_of all)) ref_back (viewed v).elements (viewed w).elements (parts _ ref_type ref_refs v.elements.items h.elements) (parts _ ref_type ref_refs w.elements.items k.elements) (ap (λ (t : TreeSpaces). t.elements) e) in
      let exports = maps_back (λ (x : Named TypeReference). Out (external_refs x.item)) (name_in all) named_back (viewed v).exports (viewed w).exports (parts _ named_item (λ x. external_refs x.item) v.exports.items h.exports) (parts _ named_item (λ x. external_refs x.item) w.exports.items k.exports) (ap (λ (t : TreeSpaces). t.exports) e) in
      λ j. record {
        groups = groups j;
        types = types j;
        functions = functions j;
        tables = tables j;
        memories = (ap (λ (t : TreeSpaces). t.memories) e) j;
        globals = globals j;
        tags = tags j;
        elements = elements j;
        exports = exports j;
      }

-- ---- both directions

pub one_view : (s t : Spaces) (v w : View) → IsViewOf s v → IsViewOf t w → HasTypes s → HasTypes t → as_trees s ≡ as_trees t → viewed v ≡ viewed w
one_view s t v w it also here there e =
    let same : also.trees ≡ it.trees = first_one [] t.types also.trees it.trees also.first (subst (λ ts. AreFirst [] ts it.trees) (ap (λ (x : TreeSpaces). x.types) e) it.first) in
    let numbered = subst (λ (ts : List GroupTree). AreNumbered (length ts) w) same (also.numbered there) in
    let groups = groups_mean s v it ∙ sym (subst (λ (ts : List GroupTree). map (subs_map (tree_reference ts)) (viewed w).groups ≡ map opened ts) same (groups_mean t w also)) in
    let meant = means s v it ∙ e ∙ sym (subst (λ (ts : List GroupTree). meaning ts (viewed w) ≡ as_trees t) same (means t w also)) in
    views_back it.trees (all_distinct it.trees s.types it.first) v w (it.numbered here) numbered groups meant

pub one_meaning : (s t : Spaces) (groups others : List (spec.RecGroup ℕ)) (v w : View) → s.types ≡ section_types groups → t.types ≡ section_types others → IsViewOf s v → IsViewOf t w → HasTypes s
    → viewed v ≡ viewed w → as_trees s ≡ as_trees t
one_meaning s t groups others v w is_s is_t it also here e =
    let first = subst (λ ts. AreFirst [] ts it.trees) is_s it.first in
    let second = subst (λ ts. AreFirst [] ts also.trees) is_t also.first in
    let shown = subst (λ (x : Viewed). map (subs_map (tree_reference also.trees)) x.groups ≡ map opened also.trees) (sym e) (groups_mean t w also) in
    let same = same_trees (viewed v).groups it.trees also.trees (groups_mean s v it) shown (all_distinct it.trees s.types it.first) (section_earlier groups it.trees first) (section_earlier others also.trees second)
    (all_mapped _ group_types v.groups.items (it.numbered here).groups) in
    sym (means s v it) ∙ (λ j. meaning (same j) (e j)) ∙ means t w also
