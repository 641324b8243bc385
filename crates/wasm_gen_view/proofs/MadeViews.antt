-- The view of a made module.
use Rattle.std.proofs.Common.{◌≡◌, ℕ, zero, suc, ◌-◌, ◌<◌, List, [], ◌∷◌, ◌++◌, map, length, slice_get, Option, Some, None, option_map, refl, sym, ap, subst, ◌∙◌, arith, flat_map}
use Rattle.std.proofs.lemmas.List.{length-map}
use Rattle.std.proofs.lemmas.Option.{slice_get-map, slice_get_within}
use Rattle.std.specs.Global.{Vec}
use Rattle.std.specs.List.{AllByRecursion}
use Rattle.std.specs.Option.{unwrap_or}
use Rattle.wasm_spec.proofs.GroupTrees.{all_each}
use Rattle.wasm_spec.proofs.TypeMaps.{map-map}
use Rattle.wasm_spec.proofs.Places.{all_get, get_some}
use Rattle.wasm_spec.specs.Syntax.{Export as WrittenExport}
use Rattle.wasm_spec.specs.Trees.{DefType, GroupTree, no_type, opened, type_at}
use Rattle.wasm_spec.specs.TypeReferences.{external_map, external_refs, global_map, global_refs, ref_map, ref_refs, subs_map, subs_refs, table_map, table_refs}
use Rattle.wasm_spec.specs.Types as spec
use Rattle.wasm_validity.specs.IndexSpaces.{Spaces}
use Rattle.wasm_gen_view.proofs.ItemMaps.{external_twice, global_refs_are, global_twice, lists_refs, lists_twice, ref_refs_are, ref_twice, table_refs_are, table_twice}
use Rattle.wasm_gen_view.specs.Items.{AreItems, exports_among, item_among}
use Rattle.wasm_gen_view.specs.Numbers.{group_types}
use Rattle.wasm_gen_view.specs.SameViews.{named_item}
use Rattle.wasm_gen_view.specs.TypeNumbers.{AreNumbersOf, reference_by, reference_to}
use Rattle.wasm_gen_view.specs.Types.{ref_type, sub_type}
use Rattle.wasm_gen_view.specs.Views.{HasTypes, IsOutside, IsViewOf, IsWithin, Named, export_in, exports_of, global_type, item_in, item_type, memory_type, table_type, tree_reference, type_in, type_of, with_item}
use Rattle.wasm_gen_view.specs.declared.items.Items.{Items}
use Rattle.wasm_gen_view.specs.declared.types.SubType.{SubType}
use Rattle.wasm_gen_view.specs.declared.types.TypePlace.{TypePlace}
use Rattle.wasm_gen_view.specs.declared.types.TypeReference.{TypeReference}
use Rattle.wasm_gen_view.specs.declared.types.TypeReference.TheVariants.{Other}
use Rattle.wasm_gen_view.specs.declared.view.Export.{Export}
use Rattle.wasm_gen_view.specs.declared.view.View.{View}

all_mapped : {X Y : Type 0} (P : Y → Type 0) (f : X → Y) (xs : List X) → AllByRecursion (λ x. P (f x)) xs → AllByRecursion P (map f xs)
all_mapped P f [] h = tt
all_mapped P f (x ∷ xs) h = (h.0, all_mapped P f xs h.1)

all_unmapped : {X Y : Type 0} (P : Y → Type 0) (f : X → Y) (xs : List X) → AllByRecursion P (map f xs) → AllByRecursion (λ x. P (f x)) xs
all_unmapped P f [] h = tt
all_unmapped P f (x ∷ xs) h = (h.0, all_unmapped P f xs h.1)

module _ (s : Spaces) (all : List GroupTree) (groups : List (List (spec.SubType TypeReference))) (places : List TypePlace) (it : AreNumbersOf s.types all groups places) where
  abbrev pub refer : ℕ → TypeReference
  refer index = reference_by (Some (length groups)) places index

  there : (index : ℕ) → slice_get s.types index ≡ option_map (type_in all) (slice_get places index)
  there index = ap (λ ts. slice_get ts index) (sym it.types) ∙ slice_get-map (type_in all) places index

  trees_count : length groups ≡ length all
  trees_count = sym (length-map groups (subs_map (tree_reference all))) ∙ ap length it.groups ∙ length-map all opened

  places_count : length places ≡ length s.types
  places_count = sym (length-map places (type_in all)) ∙ ap length it.types

  past : (count : ℕ) → count ≡ length all → type_in all (record { group = count; place = 0 }) ≡ no_type
  past count is = by (slice_get all count) refl
    where
      by : (found : Option GroupTree) → slice_get all count ≡ found → type_in all (record { group = count; place = 0 }) ≡ no_type
      by None e = ap (λ t. record { tree = unwrap_or t no_type.tree; place = 0 }) e
      by (Some t) e = absurd (omega (arith, is, slice_get_within all count t e))

  -- the type that a reference stands for
  meant_at : (index : ℕ) (found : Option TypePlace) → slice_get places index ≡ found → (own : ℕ) → type_of all (reference_to (Some (length groups)) found own) ≡ type_at s.types index
  meant_at index (Some place) at own = sym (ap (λ t. unwrap_or t no_type) (there index ∙ ap (option_map (type_in all)) at))
  meant_at index None at own = past (length groups) trees_count ∙ sym (ap (λ t. unwrap_or t no_type) (there index ∙ ap (option_map (type_in all)) at))

  pub meant : (index : ℕ) → type_of all (refer index) ≡ type_at s.types index
  meant index = meant_at index (slice_get places index) refl (index - length places)

  outside_at : (index : ℕ) (found : Option TypePlace) → slice_get places index ≡ found → (own : ℕ) → index < length s.types → IsOutside (length all) (reference_to (Some (length groups)) found own)
  outside_at index (Some place) at own lt = all_get (λ (p : TypePlace). p.group < length all) places it.inside index place at
  outside_at index None at own lt =
      let (p, some) = get_some places index (omega (arith, lt, places_count)) in
      absurd (let no : None ≡ Some p = sym at ∙ some in cc)

  pub outside : (index : ℕ) → index < length s.types → IsOutside (length all) (refer index)
  outside index lt = outside_at index (slice_get places index) refl (index - length places) lt

  all_outside : (indexes : List ℕ) → AllByRecursion (λ index. index < length s.types) indexes → AllByRecursion (IsOutside (length all)) (map refer indexes)
  all_outside indexes h = all_mapped (IsOutside (length all)) refer indexes (all_each _ _ outside indexes h)

  module _ (items : Items) (are : AreItems refer s items) where
    -- ---- exports

    found_map : {A X Y : Type 0} (view : X → A) (own : A → spec.ExternalType TypeReference) (k : Y → A) (written : Y → spec.ExternalType ℕ)
        → ((y : Y) → own (k y) ≡ external_map refer (written y)) → (xs : List X) (ys : List Y) → map view xs ≡ map k ys
        → (index : ℕ) → option_map (λ x. own (view x)) (slice_get xs index) ≡ option_map (external_map refer) (option_map (λ y. written y) (slice_get ys index))
    found_map view own k written same xs ys e index =
        twice (slice_get xs index) ∙ ap (option_map own) (sym (slice_get-map view xs index) ∙ ap (λ zs. slice_get zs index) e ∙ slice_get-map k ys index) ∙ back (slice_get ys index)
      where
        twice : (x : Option _) → option_map (λ x. own (view x)) x ≡ option_map own (option_map view x)
        twice None = refl
        twice (Some x) = refl

        back : (y : Option _) → option_map own (option_map k y) ≡ option_map (external_map refer) (option_map (λ y. written y) y)
        back None = refl
        back (Some y) = ap Some (same y)

    memories_same : (xs : List spec.MemoryType) → map (λ x. x) xs ≡ xs
    memories_same [] = refl
    memories_same (x ∷ xs) = ap (λ ys. x ∷ ys) (memories_same xs)

    item_is : (kind : spec.ExternalKind) (index : ℕ) → item_among items kind index ≡ option_map (external_map refer) (item_in s kind index)
    item_is spec.FuncKind index = found_map (λ (p : TypePlace). Other p) (λ r. spec.FuncExternal r) refer (λ x. spec.FuncExternal x) (λ x. refl) items.functions.items s.functions are.functions index
    item_is spec.TableKind index = found_map table_type (λ t. spec.TableExternal t) (table_map refer) (λ x. spec.TableExternal x) (λ x. refl) items.tables.items s.tables are.tables index
    item_is spec.MemoryKind index = found_map memory_type (λ t. spec.MemoryExternal t) (λ x. x) (λ x. spec.MemoryExternal x) (λ x. refl) items.memories.items s.memories
        (are.memories ∙ sym (memories_same s.memories)) index
    item_is spec.GlobalKind index = found_map global_type (λ t. spec.GlobalExternal t) (global_map refer) (λ x. spec.GlobalExternal x) (λ x. refl) items.globals.items s.globals are.globals index
    item_is spec.TagKind index = found_map (λ (p : TypePlace). Other p) (λ r. spec.TagExternal r) refer (λ x. spec.TagExternal x) (λ x. refl) items.tags.items s.tags are.tags index

    -- exports, with the types that they stand for
    abbrev pub named_of : Named TypeReference → Named DefType
    named_of n = record { name = n.name; item = external_map (type_of all) n.item }

    option_twice : (found : Option (spec.ExternalType ℕ)) → option_map (external_map (type_of all)) (option_map (external_map refer) found) ≡ option_map (external_map (type_at s.types)) found
    option_twice None = refl
    option_twice (Some item) = ap Some (external_twice (type_of all) refer (type_at s.types) meant item)

    named_with : (name : List ℕ) (found : Option (spec.ExternalType TypeReference)) (others : List (Named TypeReference))
        → map named_of (with_item name found others) ≡ with_item name (option_map (external_map (type_of all)) found) (map named_of others)
    named_with name None others = refl
    named_with name (Some item) others = refl

    all_named : (exports : List WrittenExport) → map named_of (exports_among items exports) ≡ exports_of s exports
    all_named [] = refl
    all_named (e ∷ es) =
        named_with e.name (item_among items e.kind e.index) (exports_among items es)
        ∙ ap (λ item. with_item e.name item (map named_of (exports_among items es))) (ap (option_map (external_map (type_of all))) (item_is e.kind e.index) ∙ option_twice (item_in s e.kind e.index))
        ∙ ap (with_item e.name (option_map (external_map (type_at s.types)) (item_in s e.kind e.index))) (all_named es)

    exports_are : (exports : List Export) → map named_item exports ≡ exports_among items s.exports → map (export_in all) exports ≡ exports_of s s.exports
    exports_are exports e = sym (map-map named_of named_item (export_in all) (λ x. refl) exports) ∙ ap (map named_of) e ∙ all_named s.exports

    -- ---- references go to groups

    module _ (has : HasTypes s) where
      abbrev pub AreOutside : List TypeReference → Type 0
      AreOutside rs = AllByRecursion (IsOutside (length all)) rs

      placed : (places : List TypePlace) (indexes : List ℕ) → map (λ (p : TypePlace). Other p) places ≡ map refer indexes → AllByRecursion (λ index. index < length s.types) indexes
          → AllByRecursion (λ (p : TypePlace). p.group < length all) places
      placed ps indexes e h = all_unmapped (IsOutside (length all)) (λ (p : TypePlace). Other p) ps (subst AreOutside (sym e) (all_outside indexes h))

      pub functions_placed : AllByRecursion (λ (p : TypePlace). p.group < length all) items.functions.items
      functions_placed = placed items.functions.items s.functions are.functions has.functions

      pub tags_placed : AllByRecursion (λ (p : TypePlace). p.group < length all) items.tags.items
      tags_placed = placed items.tags.items s.tags are.tags has.tags

      pub tables_outside : AreOutside (flat_map (λ type. table_refs (table_type type)) items.tables.items)
      tables_outside = subst AreOutside (sym (lists_refs refer (table_map refer) table_refs table_refs (table_refs_are refer) table_type items.tables.items s.tables are.tables)) (all_outside (flat_map table_refs s.tables) has.tables)

      pub globals_outside : AreOutside (flat_map (λ type. global_refs (global_type type)) items.globals.items)
      globals_outside = subst AreOutside (sym (lists_refs refer (global_map refer) global_refs global_refs (global_refs_are refer) global_type items.globals.items s.globals are.globals)) (all_outside (flat_map global_refs s.globals) has.globals)

      pub elements_outside : AreOutside (flat_map (λ type. ref_refs (ref_type type)) items.elements.items)
      elements_outside = subst AreOutside (sym (lists_refs refer (ref_map refer) ref_refs ref_refs (ref_refs_are refer) ref_type items.elements.items s.elements are.elements)) (all_outside (flat_map ref_refs s.elements) has.elements)

      option_outside : {X : Type 0} (own : X → spec.ExternalType TypeReference) (found : Option X) (item : spec.ExternalType TypeReference) → option_map own found ≡ Some item
          → ((x : X) → found ≡ Some x → AreOutside (external_refs (own x))) → AreOutside (external_refs item)
      option_outside own None item e h = absurd cc
      option_outside own (Some x) item e h = let is : own x ≡ item = cc in subst (λ t. AreOutside (external_refs t)) is (h x refl)

      append_outside : (xs ys : List TypeReference) → AreOutside (xs ++ ys) → AreOutside xs × AreOutside ys
      append_outside [] ys h = (tt, h)
      append_outside (x ∷ xs) ys h = let (a, b) = append_outside xs ys h.1 in ((h.0, a), b)

      one_of : {X : Type 0} (p : X → List TypeReference) (xs : List X) → AreOutside (flat_map p xs) → (index : ℕ) (x : X) → slice_get xs index ≡ Some x → AreOutside (p x)
      one_of p [] h index x e = absurd cc
      one_of p (y ∷ xs) h zero x e = let one : y ≡ x = cc in subst (λ z. AreOutside (p z)) one (append_outside (p y) (flat_map p xs) h).0
      one_of p (y ∷ xs) h (suc index) x e = one_of p xs (append_outside (p y) (flat_map p xs) h).1 index x e

      item_outside : (kind : spec.ExternalKind) (index : ℕ) (item : spec.ExternalType TypeReference) → item_among items kind index ≡ Some item → AreOutside (external_refs item)
      item_outside spec.FuncKind index item e = option_outside (λ (p : TypePlace). spec.FuncExternal (Other p)) (slice_get items.functions.items index) item e
          (λ p at. (all_get (λ (p : TypePlace). p.group < length all) items.functions.items functions_placed index p at, tt))
      item_outside spec.TableKind index item e = option_outside (λ t. spec.TableExternal (table_type t)) (slice_get items.tables.items index) item e
          (λ t at. one_of (λ type. table_refs (table_type type)) items.tables.items tables_outside index t at)
      item_outside spec.MemoryKind index item e = option_outside (λ t. spec.MemoryExternal (memory_type t)) (slice_get items.memories.items index) item e (λ t at. tt)
      item_outside spec.GlobalKind index item e = option_outside (λ t. spec.GlobalExternal (global_type t)) (slice_get items.globals.items index) item e
          (λ t at. one_of (λ type. global_refs (global_type type)) items.globals.items globals_outside index t at)
      item_outside spec.TagKind index item e = option_outside (λ (p : TypePlace). spec.TagExternal (Other p)) (slice_get items.tags.items index) item e
          (λ p at. (all_get (λ (p : TypePlace). p.group < length all) items.tags.items tags_placed index p at, tt))

      abbrev pub IsNamedOutside : Named TypeReference → Type 0
      IsNamedOutside n = AreOutside (external_refs n.item)

      with_outside : (name : List ℕ) (found : Option (spec.ExternalType TypeReference)) → ((item : spec.ExternalType TypeReference) → found ≡ Some item → AreOutside (external_refs item))
          → (others : List (Named TypeReference)) → AllByRecursion IsNamedOutside others → AllByRecursion IsNamedOutside (with_item name found others)
      with_outside name None h others k = k
      with_outside name (Some item) h others k = (h item refl, k)

      among_outside : (exports : List WrittenExport) → AllByRecursion IsNamedOutside (exports_among items exports)
      among_outside [] = tt
      among_outside (e ∷ es) = with_outside e.name (item_among items e.kind e.index) (item_outside e.kind e.index) (exports_among items es) (among_outside es)

      joined_outside : (xs ys : List TypeReference) → AreOutside xs → AreOutside ys → AreOutside (xs ++ ys)
      joined_outside [] ys h k = k
      joined_outside (x ∷ xs) ys h k = (h.0, joined_outside xs ys h.1 k)

      each_outside : (exports : List Export) → AllByRecursion (λ e. IsNamedOutside (named_item e)) exports → AreOutside (flat_map (λ export. external_refs (item_type export.item)) exports)
      each_outside [] h = tt
      each_outside (e ∷ es) h = joined_outside (external_refs (item_type e.item)) (flat_map (λ export. external_refs (item_type export.item)) es) h.0 (each_outside es h.1)

      pub exports_outside : (exports : List Export) → map named_item exports ≡ exports_among items s.exports → AreOutside (flat_map (λ export. external_refs (item_type export.item)) exports)
      exports_outside exports e = each_outside exports (all_unmapped IsNamedOutside named_item exports (subst (AllByRecursion IsNamedOutside) (sym e) (among_outside s.exports)))

    -- ---- the view

    groups_meant : (kept : List (Vec SubType)) → map group_types kept ≡ groups → map (λ (group : Vec SubType). subs_map (tree_reference all) (map sub_type group.items)) kept ≡ map opened all
    groups_meant kept e = sym (map-map (subs_map (tree_reference all)) group_types (λ (group : Vec SubType). subs_map (tree_reference all) (map sub_type group.items)) (λ x. refl) kept) ∙ ap (map (subs_map (tree_reference all))) e ∙ it.groups

    groups_within : (kept : List (Vec SubType)) → map group_types kept ≡ groups → AllByRecursion (λ (group : Vec SubType). AllByRecursion (IsWithin (length all)) (subs_refs (map sub_type group.items))) kept
    groups_within kept e = all_unmapped (λ g. AllByRecursion (IsWithin (length all)) (subs_refs g)) group_types kept (subst (AllByRecursion (λ g. AllByRecursion (IsWithin (length all)) (subs_refs g))) (sym e) it.within)

    pub view_is : (v : View) → map group_types v.groups.items ≡ groups → v.types.items ≡ places → v.functions ≡ items.functions → v.tables ≡ items.tables → v.memories ≡ items.memories
        → v.globals ≡ items.globals → v.tags ≡ items.tags → v.elements ≡ items.elements → map named_item v.exports.items ≡ exports_among items s.exports → IsViewOf s v
    view_is v kept types functions tables memories globals tags elements exports = record {
      trees = all;
      first = it.first;
      groups = groups_meant v.groups.items kept;
      types = ap (map (type_in all)) types ∙ it.types;
      functions = ap (λ l. map (type_in all) l.items) functions
          ∙ lists_twice (type_of all) refer (type_at s.types) meant (λ (p : TypePlace). Other p) (type_in all) (λ p. refl) items.functions.items s.functions are.functions;
      tables = ap (λ l. map (λ type. table_map (type_of all) (table_type type)) l.items) tables
          ∙ lists_twice (table_map (type_of all)) (table_map refer) (table_map (type_at s.types)) (table_twice (type_of all) refer (type_at s.types) meant) table_type
          (λ type. table_map (type_of all) (table_type type)) (λ t. refl) items.tables.items s.tables are.tables;
      memories = ap (λ l. map memory_type l.items) memories ∙ are.memories;
      globals = ap (λ l. map (λ type. global_map (type_of all) (global_type type)) l.items) globals
          ∙ lists_twice (global_map (type_of all)) (global_map refer) (global_map (type_at s.types)) (global_twice (type_of all) refer (type_at s.types) meant) global_type
          (λ type. global_map (type_of all) (global_type type)) (λ t. refl) items.globals.items s.globals are.globals;
      tags = ap (λ l. map (type_in all) l.items) tags
          ∙ lists_twice (type_of all) refer (type_at s.types) meant (λ (p : TypePlace). Other p) (type_in all) (λ p. refl) items.tags.items s.tags are.tags;
      elements = ap (λ l. map (λ type. ref_map (type_of all) (ref_type type)) l.items) elements
          ∙ lists_twice (ref_map (type_of all)) (ref_map refer) (ref_map (type_at s.types)) (ref_twice (type_of all) refer (type_at s.types) meant) ref_type
          (λ type. ref_map (type_of all) (ref_type type)) (λ t. refl) items.elements.items s.elements are.elements;
      exports = exports_are v.exports.items exports;
      numbered = λ known. record {
        groups = groups_within v.groups.items kept;
        types = subst (AllByRecursion (λ (p : TypePlace). p.group < length all)) (sym types) it.inside;
        functions = subst (λ l. AllByRecursion (λ (p : TypePlace). p.group < length all) l.items) (sym functions) (functions_placed known);
        tables = subst (λ l. AllByRecursion (IsOutside (length all)) (flat_map (λ type. table_refs (table_type type)) l.items)) (sym tables) (tables_outside known);
        globals = subst (λ l. AllByRecursion (IsOutside (length all)) (flat_map (λ type. global_refs (global_type type)) l.items)) (sym globals) (globals_outside known);
        tags = subst (λ l. AllByRecursion (λ (p : TypePlace). p.group < length all) l.items) (sym tags) (tags_placed known);
        elements = subst (λ l. AllByRecursion (IsOutside (length all)) (flat_map (λ type. ref_refs (ref_type type)) l.items)) (sym elements) (elements_outside known);
        exports = exports_outside known v.exports.items exports;
      };
    }
