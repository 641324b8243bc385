-- A finished module is within the bounds of its configuration.
use Rattle.std.proofs.Common.{◌≡◌, ℕ, ◌+◌, ◌-◌, ◌≤◌, List, ◌++◌, map, length, max, drop, Option, Some, None, is_some, refl, sym, ap, ◌∙◌, subst, arith, if◌then◌else◌}
use Rattle.std.specs.List.{AllByRecursion}
use Rattle.std.proofs.Math.Seq.{drop-append_seam}
use Rattle.std.proofs.lemmas.List.{length-map}
use Rattle.wasm_spec.specs.Syntax.{Export, Table}
use Rattle.wasm_spec.specs.Types.{ExternalKind, FuncKind, TableKind, MemoryKind, GlobalKind, TagKind, MemoryType, SubType}
use Rattle.wasm_smith_config.specs.Config.{IsGood}
use Rattle.wasm_smith_config.specs.declared.config.Config.{Config}
use Rattle.wasm_smith_externs.specs.AllExports.{everything, exported_by}
use Rattle.wasm_smith_externs.specs.Bounds.{most_of, own_size}
use Rattle.wasm_smith_externs.specs.Exports.{HasShortName}
use Rattle.wasm_smith_externs.specs.Sizes.{exports_size}
use Rattle.wasm_smith_externs.specs.ShapeExports.{named_in}
use Rattle.wasm_smith_externs.specs.declared.names.DuplicateImportsBehavior.{DuplicateImportsBehavior}
use Rattle.wasm_smith_definitions.proofs.FilledLaws.{filled_few, one_global, one_memory, one_table}
use Rattle.wasm_smith_definitions.proofs.FrameLaws.{kept_by}
use Rattle.wasm_smith_definitions.specs.Bounds.{IsBoundedTable}
use Rattle.wasm_smith_definitions.specs.Kinds.{AnyBound, count_of, of_data, of_element, of_global, of_memory, of_table, wanted_globals, wanted_memories, wanted_tables}
use Rattle.wasm_smith_definitions.specs.Offered.{IsOfferedMemory}
use Rattle.wasm_smith_definitions.specs.OwnItems.{OwnValue}
use Rattle.wasm_smith_module.specs.Elements.{IsBoundedElement, IsDrawnElement}
use Rattle.wasm_smith_module.specs.Traps.{IsSafeData, LiesInMemory, LiesInTable}
use Rattle.wasm_smith_shapes.specs.Shapes.{ShapeValue}
use Rattle.wasm_smith_types.specs.Given.{export_shape, import_shape}
use Rattle.wasm_smith_types.specs.Offering.{offers}
use Rattle.wasm_smith_validity.specs.ValidGroups.{types_of}
use Rattle.wasm_smith_validity.specs.Made.{Made, MadeBody, PlacedCustom}
use Rattle.wasm_smith_validity.specs.Spaces.{Spaces, functions_of, globals_of}
use Rattle.wasm_smith_module.proofs.CodeLaws.{code_few, code_not_raw}
use Rattle.wasm_smith_module.proofs.CustomLaws.{customs_bounded, customs_few, none_asked}
use Rattle.wasm_smith_module.proofs.ExportSizes.{named_size}
use Rattle.wasm_smith_module.proofs.FrontLaws.{defined_data, defined_elements, defined_exports, front_few_funcs, front_few_tags, front_tags, imported_globals, imported_memories}
use Rattle.wasm_smith_module.proofs.GoodLaws.{types_fine}
use Rattle.wasm_smith_module.proofs.ImportBounds.{counted_within, drawn_imports, entries_made, given_imports, given_imports_size, sized_beside, sized_within}
use Rattle.wasm_smith_module.proofs.ItemSpaces.{after_imports, drawn_exports, exported, exports_are, exports_name, funcs_used, globals_used, imports_are, memories_used, tables_used, tags_used, types_used, unexported, used_are}
use Rattle.wasm_smith_module.proofs.TrapLaws.{all_then}
use Rattle.wasm_smith_module.proofs.StepLaws.{count_data, count_elements, without_segments}
use Rattle.wasm_smith_module.specs.Asked.{asked_items, own_of}
use Rattle.wasm_smith_module.specs.Bounds.{AreExportsWithin, AreImportsWithin, IsWithinBounds, given_items, given_size, imports_size, own_count}
use Rattle.wasm_smith_module.specs.Building.{AreItems, IsBuilt, type_of_global, type_of_memory, type_of_table}
use Rattle.wasm_smith_module.specs.Code.{code_at}
use Rattle.wasm_smith_module.specs.Customs.{IsBoundedCustom, customs_at}
use Rattle.wasm_smith_module.specs.Items.{items_of}
use Rattle.wasm_smith_module.specs.ModuleValue.{ModuleValue}
use Rattle.wasm_smith_module.specs.TrueToShapes.{spaces_of}

-- a count is as large as a configuration says
abbrev IsBetween : ℕ → ℕ → ℕ → Type 0
IsBetween least most count = (least ≤ count) × (count ≤ most)

-- all but the first of some things
behind_first : {A : Type 0} (P : A → Type 0) (first others all : List A) (n : ℕ) → all ≡ first ++ others → length first ≡ n → AllByRecursion P others → AllByRecursion P (drop n all)
behind_first P first others all n are many h = subst (AllByRecursion P) (sym (ap (drop n) are ∙ ap (λ k. drop k (first ++ others)) (sym many) ∙ drop-append_seam first others)) h

own_many : {A B : Type 0} (own : List A) (type : A → B) (types : List B) → map type own ≡ types → length own ≡ length types
own_many own type types are = sym (length-map own type) ∙ ap length are

module _ (c : Config) (duplicates : DuplicateImportsBehavior) (m : Made) (s left : List ℕ) (h : AreItems c duplicates (types_of m.groups) s left (items_of m)) where
  abbrev types : List (SubType ℕ)
  types = types_of m.groups

  abbrev own : OwnValue
  own = own_of c types

  -- ---- items of each kind

  -- a number that is bounded by the maximum, or else by what is imported and own
  within_given : (kind : ExternalKind) (most all : ℕ) → most ≡ most_of c kind → all ≤ max most (count_of h.front.imported kind + own_count own kind) → all ≤ max most (given_items c m kind)
  within_given kind most all is few =
      subst (λ k. all ≤ max most (given_imports (import_shape c) k kind + own_count own kind)) (imports_are c duplicates m s left h)
      (counted_within c duplicates types s h.front.imported h.front.after_imports m.imports h.front.made_imports kind most all is few)

  pub funcs_between : IsBetween c.min_funcs (max c.max_funcs (given_items c m FuncKind)) (length (functions_of h.used))
  funcs_between =
      let enough : c.min_funcs ≤ length (functions_of h.declared) = h.front.made_funcs.grown.enough in
      let few = front_few_funcs c duplicates own types s h.declared h.after_front m.imports m.tags m.funcs h.before h.front in
      let same = ap length (funcs_used c duplicates m s left h) in
      (omega (arith, enough, same), within_given FuncKind c.max_funcs (length (functions_of h.used)) refl (omega (arith, few, same)))

  pub tables_between : IsBetween c.min_tables (max c.max_tables (given_items c m TableKind)) (length h.used.tables)
  tables_between =
      let made = h.definitions.made_tables in
      let enough : c.min_tables ≤ length h.definitions.with_tables.tables = made.grown.enough in
      let few : length h.definitions.with_tables.tables ≤ max c.max_tables (length h.declared.tables + length own.tables) =
      filled_few c (wanted_tables c) of_table (IsBoundedTable c) type_of_table own.tables h.declared h.after_front h.definitions.with_tables h.definitions.after_tables m.tables made one_table in
      let before : length h.declared.tables ≡ length h.front.imported.tables = ap (λ (k : Spaces). length k.tables) (after_imports c duplicates m s left h) in
      let same = ap length (tables_used c duplicates m s left h) in
      (omega (arith, enough, same), within_given TableKind c.max_tables (length h.used.tables) refl (omega (arith, few, before, same)))

  pub memories_between : IsBetween c.min_memories (max c.max_memories (given_items c m MemoryKind)) (length h.used.memories)
  memories_between =
      let made = h.definitions.made_memories in
      let enough : c.min_memories ≤ length h.definitions.with_memories.memories = made.grown.enough in
      let few : length h.definitions.with_memories.memories ≤ max c.max_memories (length h.definitions.with_tables.memories + length own.memories) =
      filled_few c (wanted_memories c) of_memory (IsOfferedMemory c) type_of_memory own.memories h.definitions.with_tables h.definitions.after_tables h.definitions.with_memories
      h.definitions.after_memories m.memories made one_memory in
      let before =
      ap length
      (imported_memories c duplicates own types s h.declared h.after_front m.imports m.tags m.funcs h.before h.front h.defined h.after_definitions m.tables m.memories m.globals h.definitions) in
      let same = ap length (memories_used c duplicates m s left h) in
      (omega (arith, enough, same), within_given MemoryKind c.max_memories (length h.used.memories) refl (omega (arith, few, before, same)))

  pub tags_between : IsBetween c.min_tags (max c.max_tags (given_items c m TagKind)) (length h.used.tags)
  tags_between =
      let enough : c.min_tags ≤ length h.front.tagged.tags = h.front.made_tags.grown.enough in
      let few = front_few_tags c duplicates own types s h.declared h.after_front m.imports m.tags m.funcs h.before h.front in
      let tagged = ap length (front_tags c duplicates own types s h.declared h.after_front m.imports m.tags m.funcs h.before h.front) in
      let same = ap length (tags_used c duplicates m s left h) in
      (omega (arith, enough, tagged, same), within_given TagKind c.max_tags (length h.used.tags) refl (omega (arith, few, same)))

  pub globals_between : IsBetween c.min_globals (max c.max_globals (given_items c m GlobalKind)) (length (globals_of h.used))
  globals_between =
      let made = h.definitions.made_globals in
      let enough : c.min_globals ≤ length (globals_of h.defined) = made.grown.enough in
      let few : length (globals_of h.defined) ≤ max c.max_globals (length (globals_of h.definitions.with_memories) + length own.globals) =
      filled_few c (wanted_globals c) of_global (AnyBound c) type_of_global own.globals h.definitions.with_memories h.definitions.after_memories h.defined h.after_definitions m.globals made
      one_global in
      let before =
      ap length
      (imported_globals c duplicates own types s h.declared h.after_front m.imports m.tags m.funcs h.before h.front h.defined h.after_definitions m.tables m.memories m.globals h.definitions) in
      let same = ap length (globals_used c duplicates m s left h) in
      (omega (arith, enough, same), within_given GlobalKind c.max_globals (length (globals_of h.used)) refl (omega (arith, few, before, same)))

  -- ---- imports and exports

  pub imports_within : import_shape c ≡ None → AreImportsWithin c m
  imports_within none =
      let bounded = (drawn_imports c duplicates types s h.front.imported h.front.after_imports m.imports h.front.made_imports none).bounded in
      record { enough = bounded.enough; few = bounded.few; offered = bounded.offered; short = bounded.short }

  pub exports_within : export_shape c ≡ None → AreExportsWithin c m
  exports_within none =
      let drawn = drawn_exports c duplicates m s left h none in
      let are = exports_are c duplicates m s left h in
      let same = ap length are in
      record {
        enough = λ some. let enough : c.min_exports ≤ length h.uses.exported.exports = (drawn.drawn some).enough in omega (arith, enough, same);
        few = λ some.
            let few : length h.uses.exported.exports ≤ max c.max_exports (length h.defined.exports) = (drawn.drawn some).few in
            let first =
            ap length
            (defined_exports c duplicates own types s h.declared h.after_front m.imports m.tags m.funcs h.before h.front h.defined h.after_definitions m.tables m.memories m.globals h.definitions) in
            omega (arith, few, first, same);
        all = λ all.
            ap exported_by are ∙ (drawn.all all).are
            ∙ sym (ap everything (sym (used_are c duplicates m s left h)) ∙ ap everything (exported c duplicates m s left h) ∙ ap everything (unexported c duplicates m s left h));
        short = subst (AllByRecursion (λ (export : Export). HasShortName export.name)) (sym are) drawn.bounded;
      }

  -- the size of the exports, where a shape has them
  abbrev given_exports_size : Option ShapeValue → ℕ
  given_exports_size asked = if is_some asked then exports_size h.used else 0

  sizes_used : IsGood c → imports_size m + exports_size h.used ≤ max c.max_type_size (given_imports_size (import_shape c) (imports_size m) + given_exports_size (export_shape c))
  sizes_used good = go (export_shape c) refl
    where
      go : (asked : Option ShapeValue) → export_shape c ≡ asked
          → imports_size m + exports_size h.used ≤ max c.max_type_size (given_imports_size (import_shape c) (imports_size m) + given_exports_size asked)
      go (Some shape) e =
          let named = ap (named_in h.used) (sym h.exports) ∙ exports_name c duplicates m s left h shape e in
          let size : exports_size h.used ≡ own_size types own =
          named_size h.used (asked_items c (length types)) named ∙ ap (λ ts. own_size ts own) (types_used c duplicates m s left h) in
          sized_within c duplicates types s h.front.imported h.front.after_imports m.imports h.front.made_imports (exports_size h.used) size
      go None e =
          let same : exports_size h.used ≡ exports_size h.uses.exported = ap exports_size (exported c duplicates m s left h) in
          let size : exports_size h.used ≤ c.max_type_size - h.imports_size = let drawn = (drawn_exports c duplicates m s left h e).size in omega (arith, same, drawn) in
          sized_beside c duplicates types s h.front.imported h.front.after_imports m.imports h.front.made_imports good h.imports_size (exports_size h.used) h.size size

  pub sizes_within : IsGood c → imports_size m + exports_size (spaces_of m) ≤ max c.max_type_size (given_size c m)
  sizes_within good =
      subst (λ (k : Spaces). imports_size m + exports_size k ≤ max c.max_type_size (given_imports_size (import_shape c) (imports_size m) + (if is_some (export_shape c) then exports_size k else 0)))
      (used_are c duplicates m s left h) (sizes_used good)

  -- ---- own tables and memories are followed by drawn ones

  pub drawn_tables : AllByRecursion (IsBoundedTable c) (drop (length own.tables) m.tables)
  drawn_tables =
      let made = h.definitions.made_tables in
      behind_first (IsBoundedTable c) made.own made.drawn m.tables (length own.tables) made.parts (own_many made.own (λ (table : Table). table.type) own.tables made.are) made.grown.bounded

  pub drawn_memories : AllByRecursion (IsOfferedMemory c) (drop (length own.memories) m.memories)
  drawn_memories =
      let made = h.definitions.made_memories in
      behind_first (IsOfferedMemory c) made.own made.drawn m.memories (length own.memories) made.parts (own_many made.own (λ (type : MemoryType). type) own.memories made.are) made.grown.bounded

  -- ---- segments

  pub elems_between : IsBetween c.min_element_segments c.max_element_segments (length m.elems)
  elems_between =
      let enough : c.min_element_segments ≤ h.uses.with_elems.element_segments = h.uses.grown_elems.enough in
      let few : h.uses.with_elems.element_segments ≤ max c.max_element_segments h.uses.exported.element_segments = h.uses.grown_elems.few in
      let none : h.uses.exported.element_segments ≡ 0 =
      ap (λ (k : Spaces). k.element_segments) (unexported c duplicates m s left h)
      ∙ defined_elements c duplicates own types s h.declared h.after_front m.imports m.tags m.funcs h.before h.front h.defined h.after_definitions m.tables m.memories m.globals h.definitions in
      let count = count_elements c h.uses.exported h.uses.with_elems m.elems h.uses.grown_elems.step in
      (omega (arith, enough, count, none), omega (arith, few, count, none))

  pub data_between : IsBetween c.min_data_segments c.max_data_segments (length m.data_segments)
  data_between =
      let enough : c.min_data_segments ≤ h.used.data_segments = h.uses.grown_data_segments.enough in
      let few : h.used.data_segments ≤ max c.max_data_segments h.uses.with_elems.data_segments = h.uses.grown_data_segments.few in
      let none : h.uses.with_elems.data_segments ≡ 0 =
      kept_by (λ k. k.data_segments) c of_element h.uses.exported h.uses.with_elems m.elems (λ k x. refl) h.uses.grown_elems.step
      ∙ ap (λ (k : Spaces). k.data_segments) (unexported c duplicates m s left h)
      ∙ defined_data c duplicates own types s h.declared h.after_front m.imports m.tags m.funcs h.before h.front h.defined h.after_definitions m.tables m.memories m.globals h.definitions in
      let count = count_data c h.uses.with_elems h.used m.data_segments h.uses.grown_data_segments.step in
      (omega (arith, enough, count, none), omega (arith, few, count, none))

  -- segments are drawn where there are the items that there are in the end
  pub elems_drawn : AllByRecursion (IsDrawnElement c h.used) m.elems
  elems_drawn = subst (λ k. AllByRecursion (IsDrawnElement c k) m.elems) (sym (exported c duplicates m s left h)) h.uses.grown_elems.bounded

  pub data_safe : AllByRecursion (IsSafeData c h.used) m.data_segments
  data_safe =
      let same = kept_by without_segments c of_data h.uses.with_elems h.used m.data_segments (λ k x. refl) h.uses.grown_data_segments.step in
      subst (λ k. AllByRecursion (IsSafeData c k) m.data_segments) (sym same) h.uses.grown_data_segments.bounded

-- ---- a module

pub bounds_for : (c : Config) (duplicates : DuplicateImportsBehavior) (old new : List ℕ) (m : ModuleValue) → IsGood c → IsBuilt c duplicates old new m → IsWithinBounds c m.made
bounds_for c duplicates old new m good built =
    let made = m.made in
    let s = built.after in
    let left = built.finished.after_items in
    let h = built.finished.items in
    let spaces = used_are c duplicates made s left h in
    let funcs = subst (λ (k : Spaces). IsBetween c.min_funcs (max c.max_funcs (given_items c made FuncKind)) (length (functions_of k))) spaces (funcs_between c duplicates made s left h) in
    let tables = subst (λ (k : Spaces). IsBetween c.min_tables (max c.max_tables (given_items c made TableKind)) (length k.tables)) spaces (tables_between c duplicates made s left h) in
    let memories = subst (λ (k : Spaces). IsBetween c.min_memories (max c.max_memories (given_items c made MemoryKind)) (length k.memories)) spaces (memories_between c duplicates made s left h) in
    let tags = subst (λ (k : Spaces). IsBetween c.min_tags (max c.max_tags (given_items c made TagKind)) (length k.tags)) spaces (tags_between c duplicates made s left h) in
    let globals = subst (λ (k : Spaces). IsBetween c.min_globals (max c.max_globals (given_items c made GlobalKind)) (length (globals_of k))) spaces (globals_between c duplicates made s left h) in
    let elems = elems_between c duplicates made s left h in
    let data_segments = data_between c duplicates made s left h in
    let drawn_elems = subst (λ (k : Spaces). AllByRecursion (IsDrawnElement c k) made.elems) spaces (elems_drawn c duplicates made s left h) in
    let safe_data = subst (λ (k : Spaces). AllByRecursion (IsSafeData c k) made.data_segments) spaces (data_safe c duplicates made s left h) in
    let allowed = c.allow_invalid_funcs in
    let bound = length (types_of made.groups) in
    let count = length made.funcs in
    let code = code_at allowed (offers c) bound count left in
    let bodies : code.0 ≡ made.bodies = ap (λ (d : List MadeBody × List ℕ). d.0) built.finished.code in
    let customs : (customs_at c.generate_custom_sections built.finished.after_code).0 ≡ made.customs = ap (λ (d : List PlacedCustom × List ℕ). d.0) built.finished.customs in
    record {
      enough_types = built.groups.enough (types_fine c good);
      few_types = built.groups.few;
      imports = imports_within c duplicates made s left h;
      made_imports = entries_made c duplicates (types_of made.groups) s h.front.imported h.front.after_imports made.imports h.front.made_imports;
      enough_funcs = funcs.0;
      few_funcs = funcs.1;
      enough_tables = tables.0;
      few_tables = tables.1;
      enough_memories = memories.0;
      few_memories = memories.1;
      enough_tags = tags.0;
      few_tags = tags.1;
      enough_globals = globals.0;
      few_globals = globals.1;
      exports = exports_within c duplicates made s left h;
      enough_elems = elems.0;
      few_elems = elems.1;
      enough_data_segments = data_segments.0;
      few_data_segments = data_segments.1;
      type_size = sizes_within c duplicates made s left h good;
      tables = drawn_tables c duplicates made s left h;
      memories = drawn_memories c duplicates made s left h;
      elems = all_then (IsDrawnElement c (spaces_of made)) (IsBoundedElement c (spaces_of made)) (λ segment drawn. drawn.0) made.elems drawn_elems;
      elems_within = λ on. all_then (IsDrawnElement c (spaces_of made)) (LiesInTable (spaces_of made)) (λ segment drawn. drawn.1 on) made.elems drawn_elems;
      data_within = λ on. all_then (IsSafeData c (spaces_of made)) (LiesInMemory (spaces_of made)) (λ segment safe. safe on) made.data_segments safe_data;
      few_locals = subst (AllByRecursion (λ (body : MadeBody). length body.locals ≤ 100)) bodies (code_few allowed (offers c) bound count left);
      no_raw = λ off. subst (AllByRecursion (λ (body : MadeBody). body.raw ≡ None)) bodies (code_not_raw allowed (offers c) bound count left off);
      no_customs = λ off. sym customs ∙ none_asked c.generate_custom_sections built.finished.after_code off;
      few_customs = subst (λ (l : List PlacedCustom). length l ≤ 10) customs (customs_few c.generate_custom_sections built.finished.after_code);
      customs = subst (AllByRecursion IsBoundedCustom) customs (customs_bounded c.generate_custom_sections built.finished.after_code);
    }
