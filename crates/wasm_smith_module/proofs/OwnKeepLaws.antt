-- The items that a shape's exports ask for keep their rules beside the imports.
use Rattle.std.proofs.Common.{◌≡◌, ℕ, ◌+◌, ◌-◌, ◌≤◌, ◌^◌, false, List, [], ◌∷◌, map, length, max, nat_lt, Option, Some, None, is_some, not, refl, sym, ap, ◌∙◌, subst, arith, length-append}
use Rattle.std.specs.List.{flat_map}
use Rattle.std.proofs.lemmas.Bool.{ltb-false}
use Rattle.std.proofs.lemmas.List.{length-map}
use Rattle.wasm_spec.specs.Features.{Features, has, MultiMemory, ReferenceTypes}
use Rattle.wasm_spec.specs.Syntax.{ImportEntry, imported_by}
use Rattle.wasm_spec.specs.TypeReferences.{external_map}
use Rattle.wasm_spec.specs.Types.{ExternalType, FuncExternal, TableExternal, MemoryExternal, GlobalExternal, TagExternal, ExternalKind, FuncKind, TableKind, MemoryKind, GlobalKind, TagKind, SubType}
use Rattle.wasm_smith_config.proofs.UnionLaws.{flags, grown_by}
use Rattle.wasm_smith_config.specs.Config.{AreFeaturesOf, IsGood}
use Rattle.wasm_smith_config.specs.Rows.{switches}
use Rattle.wasm_smith_config.specs.declared.config.Config.{Config}
use Rattle.wasm_smith_definitions.proofs.ImportCounts.{AreCounted, counted_after}
use Rattle.wasm_smith_definitions.proofs.MovedImports.{HasRoom, shape_room}
use Rattle.wasm_smith_definitions.proofs.OwnItemLaws.{as_many_own, memories_append, tables_append}
use Rattle.wasm_smith_definitions.proofs.ShapeRules.{AreOwn, few_moved_memories, few_moved_tables, memories_unmoved, shape_own_moved, tables_moved_count}
use Rattle.wasm_smith_definitions.specs.Kinds.{count_of}
use Rattle.wasm_smith_definitions.specs.Offered.{HasFewTables}
use Rattle.wasm_smith_definitions.specs.OwnItems.{HasFewOf, OwnValue, memories_in, tables_in}
use Rattle.wasm_smith_definitions.specs.Parts.{IsPart}
use Rattle.wasm_smith_externs.proofs.BoundLaws.{beside_within}
use Rattle.wasm_smith_externs.proofs.ImportLaws.{spaces_by_entries}
use Rattle.wasm_smith_externs.proofs.ShapeImportLaws.{all_types, chosen_fewer, chosen_part, imports_moved}
use Rattle.wasm_smith_externs.specs.ShapeExports.{count_in, moved_types}
use Rattle.wasm_smith_externs.specs.ShapeImports.{chosen_at, shape_imports_at}
use Rattle.wasm_smith_externs.specs.declared.shape_exports.KindCounts.{KindCounts}
use Rattle.wasm_smith_externs.specs.declared.names.DuplicateImportsBehavior.{DuplicateImportsBehavior}
use Rattle.wasm_smith_module.proofs.GoodLaws.{most_small}
use Rattle.wasm_smith_module.proofs.ImportedLaws.{imports_later}
use Rattle.wasm_smith_module.proofs.OwnLaws.{moved_items}
use Rattle.wasm_smith_module.proofs.ShapeTypes.{exports_moved}
use Rattle.wasm_smith_module.specs.Asked.{HasGoodShapes, IsGoodFor, OwnKeep, asked_items, counts_of, exports_in, exports_start, imports_start, items_in, own_of}
use Rattle.wasm_smith_module.specs.Building.{AreImports, AreImportsFrom}
use Rattle.wasm_smith_module.specs.TrueToShapes.{AreTypesOf}
use Rattle.wasm_smith_shapes.specs.Shapes.{ShapeValue, exported_items, imported_items, shape_types}
use Rattle.wasm_smith_shapes.specs.ValidShapes.{imported_spaces}
use Rattle.wasm_smith_shapes.specs.declared.shape.ShapeUse.{ShapeUse}
use Rattle.wasm_smith_shapes.specs.declared.shape.ShapeUse.TheVariants.{Module, Imports, Exports}
use Rattle.wasm_smith_types.specs.Given.{export_shape, import_shape, or_else}
use Rattle.wasm_smith_validity.specs.Spaces.{Spaces, spaces_of_types, with_item, with_items}

-- ---- what imports of a shape bring

-- what imports leave as it was
abbrev imported_alone : Spaces → Spaces
imported_alone k = record k { imported_functions = []; tables = []; memories = []; tags = []; imported_globals = [] }

with_own_kept : (items : List (ExternalType ℕ)) (k : Spaces) → imported_alone (with_items k items) ≡ imported_alone k
with_own_kept [] k = refl
with_own_kept (FuncExternal function ∷ items) k = with_own_kept items (with_item k (FuncExternal function))
with_own_kept (TableExternal type ∷ items) k = with_own_kept items (with_item k (TableExternal type))
with_own_kept (MemoryExternal type ∷ items) k = with_own_kept items (with_item k (MemoryExternal type))
with_own_kept (GlobalExternal type ∷ items) k = with_own_kept items (with_item k (GlobalExternal type))
with_own_kept (TagExternal function ∷ items) k = with_own_kept items (with_item k (TagExternal function))

-- The imports are some of those of a shape, their types moved.
pub record AreImported (c : Config) (types : List (SubType ℕ)) (new : Spaces) (shape : ShapeValue) : Type 0 where
  pub chosen : List (ExternalType ℕ)
  pub part : IsPart chosen (imported_items shape)
  pub few : length chosen ≤ length (imported_items shape)
  pub known : new ≡ with_items (spaces_of_types types) (map (external_map (λ r. imports_start c (length types) + r)) chosen)

pub imported_from : (c : Config) (duplicates : DuplicateImportsBehavior) (types : List (SubType ℕ)) (s : List ℕ) (new : Spaces) (left : List ℕ) (entries : List ImportEntry) (shape : ShapeValue)
    → import_shape c ≡ Some shape → AreImports c duplicates (spaces_of_types types) s new left entries → AreImported c types new shape
imported_from c duplicates types s new left entries shape asked h =
    let start = spaces_of_types types in
    let f : ℕ → ℕ = λ r. imports_start c (length types) + r in
    let drawn = not (is_some c.module_shape) in
    let compact = c.compact_imports_enabled in
    let origin = subst (λ x. AreImportsFrom x c duplicates start s new left entries) asked h.origin in
    let are : entries ≡ (shape_imports_at drawn compact f shape.imports s).0 = ap (λ (x : List ImportEntry × List ℕ). x.0) origin in
    record {
      chosen = flat_map imported_by (chosen_at drawn shape.imports s).0;
      part = chosen_part drawn shape.imports s;
      few = chosen_fewer drawn shape.imports s;
      known =
          h.step.known ∙ sym (spaces_by_entries start entries) ∙ ap (with_items start) (all_types entries)
          ∙ ap (λ x. with_items start (flat_map imported_by x)) are ∙ ap (with_items start) (imports_moved drawn compact f shape.imports s);
    }

module _ (c : Config) (types : List (SubType ℕ)) (new : Spaces) (shape : ShapeValue) (h : AreImported c types new shape) where
  room : HasRoom (shape_types shape) types (imported_spaces shape) new
  room =
      subst (HasRoom (shape_types shape) types (imported_spaces shape)) (sym h.known)
      (shape_room (λ r. imports_start c (length types) + r) types shape (spaces_of_types types) h.part refl refl refl)

  pub tables_imported : length new.tables ≤ length (tables_in (imported_items shape))
  tables_imported = let counted = counted_after (spaces_of_types (shape_types shape)) (imported_items shape) in omega (arith, room.tables, counted.tables)

  pub memories_imported : length new.memories ≤ length (memories_in (imported_items shape))
  memories_imported = let counted = counted_after (spaces_of_types (shape_types shape)) (imported_items shape) in omega (arith, room.memories, counted.memories)

  -- no more of each kind than the shape has items
  pub all_imported : (kind : ExternalKind) → count_of new kind ≤ length (imported_items shape)
  all_imported kind = rw h.known (go kind)
    where
      moved : List (ExternalType ℕ)
      moved = map (external_map (λ r. imports_start c (length types) + r)) h.chosen

      start : Spaces
      start = spaces_of_types types

      counted : AreCounted start moved
      counted = counted_after start moved

      many : length moved ≤ length (imported_items shape)
      many = omega (arith, h.few, length-map h.chosen (external_map (λ r. imports_start c (length types) + r)))

      own_functions : (items : List (ExternalType ℕ)) (k : Spaces) → (with_items k items).own_functions ≡ k.own_functions
      own_functions items k = ap (λ (x : Spaces). x.own_functions) (with_own_kept items k)

      own_globals : (items : List (ExternalType ℕ)) (k : Spaces) → (with_items k items).own_globals ≡ k.own_globals
      own_globals items k = ap (λ (x : Spaces). x.own_globals) (with_own_kept items k)

      go : (kind : ExternalKind) → count_of (with_items start moved) kind ≤ length (imported_items shape)
      go FuncKind = omega (arith, many, counted.functions, as_many_own moved, ap length (own_functions moved start), length-append (with_items start moved).imported_functions (with_items start moved).own_functions)
      go TableKind = omega (arith, many, counted.tables, as_many_own moved)
      go MemoryKind = omega (arith, many, counted.memories, as_many_own moved)
      go GlobalKind = omega (arith, many, counted.globals, as_many_own moved, ap length (own_globals moved start), length-append (with_items start moved).imported_globals (with_items start moved).own_globals)
      go TagKind = omega (arith, many, counted.tags, as_many_own moved)

-- imports of each kind are few
pub imported_few : (c : Config) (duplicates : DuplicateImportsBehavior) (types : List (SubType ℕ)) (s : List ℕ) (new : Spaces) (left : List ℕ) (entries : List ImportEntry) → IsGood c → HasGoodShapes c
    → AreImports c duplicates (spaces_of_types types) s new left entries → (kind : ExternalKind) → count_of new kind ≤ 2 ^ 31
imported_few c duplicates types s new left entries good shapes h kind = go (import_shape c) refl
  where
    from_shape : (shape : ShapeValue) (purpose : ShapeUse) → IsGoodFor c purpose (Some shape) → import_shape c ≡ Some shape → count_of new kind ≤ 2 ^ 31
    from_shape shape purpose is_good asked =
        let all = all_imported c types new shape (imported_from c duplicates types s new left entries shape asked h) kind in
        let few = (is_good (grown_by 0 (switches c)) (flags c)).imports.few in omega (arith, all, few)

    of_config : c.module_shape ≡ None → (shape : ShapeValue) → import_shape c ≡ Some shape → count_of new kind ≤ 2 ^ 31
    of_config alone shape asked =
        from_shape shape Imports (subst (IsGoodFor c Imports) (sym (ap (λ m. or_else m c.available_imports) alone) ∙ asked) shapes.available_imports) asked

    shaped : (module_shape : Option ShapeValue) → c.module_shape ≡ module_shape → (shape : ShapeValue) → import_shape c ≡ Some shape → count_of new kind ≤ 2 ^ 31
    shaped None e shape asked = of_config e shape asked
    shaped (Some whole) e shape asked =
        from_shape shape Module (subst (IsGoodFor c Module) (e ∙ sym (ap (λ m. or_else m c.available_imports) e) ∙ asked) shapes.module_shape) asked

    go : (asked : Option ShapeValue) → import_shape c ≡ asked → count_of new kind ≤ 2 ^ 31
    go (Some shape) e = shaped c.module_shape refl shape e
    go None e =
        let drawn = subst (λ x. AreImportsFrom x c duplicates (spaces_of_types types) s new left entries) e h.origin in
        let room = drawn.bounded.room kind in
        let within = (beside_within c types (own_of c types)).items kind in
        let none = nothing_first kind in
        let most = most_small c good kind in
        omega (arith, room, within, none, most)
      where
        nothing_first : (kind : ExternalKind) → count_of (spaces_of_types types) kind ≡ 0
        nothing_first FuncKind = refl
        nothing_first TableKind = refl
        nothing_first MemoryKind = refl
        nothing_first GlobalKind = refl
        nothing_first TagKind = refl

-- ---- own items alone

-- the rules on own items, their numbers aside
pub own_rules : (c : Config) (types : List (SubType ℕ)) → HasGoodShapes c → IsGood c → AreTypesOf c types → (features : Features) → AreFeaturesOf c features → AreOwn features types (asked_items c (length types))
own_rules c types shapes good of_types features is = go c.module_shape refl
  where
    f : ℕ → ℕ
    f = λ r. exports_start c (length types) + r

    asked_rules : (shape : ShapeValue) (purpose : ShapeUse) → IsGoodFor c purpose (Some shape) → export_shape c ≡ Some shape → AreOwn features types (asked_items c (length types))
    asked_rules shape purpose is_good asked =
        let rules = shape_own_moved features f types shape (exports_moved c types good of_types shape asked) (is_good features is).exports.kept in
        subst (AreOwn features types) (sym (ap (λ x. moved_types f (exports_in x)) asked ∙ moved_items f shape.exports)) rules

    no_rules : export_shape c ≡ None → AreOwn features types (asked_items c (length types))
    no_rules asked =
        subst (AreOwn features types) (sym (ap (λ x. moved_types f (exports_in x)) asked)) (record { functions = tt; tables = tt; memories = tt; globals = tt; tags = λ spaces known. tt; leave = tt })

    go : (asked : Option ShapeValue) → c.module_shape ≡ asked → AreOwn features types (asked_items c (length types))
    go (Some shape) e = asked_rules shape Module (subst (IsGoodFor c Module) e shapes.module_shape) (ap (λ m. or_else m c.exports) e)
    go None e = beside c.exports refl
      where
        beside : (asked : Option ShapeValue) → c.exports ≡ asked → AreOwn features types (asked_items c (length types))
        beside (Some shape) is_shape = asked_rules shape Exports (subst (IsGoodFor c Exports) is_shape shapes.exports) (ap (λ m. or_else m c.exports) e ∙ is_shape)
        beside None is_none = no_rules (ap (λ m. or_else m c.exports) e ∙ is_none)

-- ---- few tables and memories

below_one : (n : ℕ) → nat_lt 1 n ≡ false → n ≤ 1
below_one n e = ltb-false 1 n e

own_tables_count : (c : Config) (types : List (SubType ℕ)) (shape : ShapeValue) → export_shape c ≡ Some shape → length (own_of c types).tables ≡ length (tables_in (exported_items shape))
own_tables_count c types shape asked =
    let f : ℕ → ℕ = λ r. exports_start c (length types) + r in
    ap (λ x. length (tables_in (moved_types f (exports_in x)))) asked ∙ ap (λ items. length (tables_in items)) (moved_items f shape.exports) ∙ tables_moved_count f (exported_items shape)

own_memories_count : (c : Config) (types : List (SubType ℕ)) (shape : ShapeValue) → export_shape c ≡ Some shape → length (own_of c types).memories ≡ length (memories_in (exported_items shape))
own_memories_count c types shape asked =
    let f : ℕ → ℕ = λ r. exports_start c (length types) + r in
    ap (λ x. length (memories_in (moved_types f (exports_in x)))) asked ∙ ap (λ items. length (memories_in items)) (moved_items f shape.exports)
    ∙ ap length (memories_unmoved f (exported_items shape))

-- the items of a shape that the module's are counted by
in_imports : (asked : Option ShapeValue) (shape : ShapeValue) → asked ≡ Some shape → length (tables_in (imported_items shape)) ≤ length (tables_in (items_in asked))
in_imports asked shape e =
    rw e (let all = ap length (tables_append (imported_items shape) (exported_items shape)) in
    omega (arith, all, length-append (tables_in (imported_items shape)) (tables_in (exported_items shape))))

in_exports : (asked : Option ShapeValue) (shape : ShapeValue) → asked ≡ Some shape → length (tables_in (exported_items shape)) ≤ length (tables_in (items_in asked))
in_exports asked shape e =
    rw e (let all = ap length (tables_append (imported_items shape) (exported_items shape)) in
    omega (arith, all, length-append (tables_in (imported_items shape)) (tables_in (exported_items shape))))

memories_in_imports : (asked : Option ShapeValue) (shape : ShapeValue) → asked ≡ Some shape → length (memories_in (imported_items shape)) ≤ length (memories_in (items_in asked))
memories_in_imports asked shape e =
    rw e (let all = ap length (memories_append (imported_items shape) (exported_items shape)) in
    omega (arith, all, length-append (memories_in (imported_items shape)) (memories_in (exported_items shape))))

memories_in_exports : (asked : Option ShapeValue) (shape : ShapeValue) → asked ≡ Some shape → length (memories_in (exported_items shape)) ≤ length (memories_in (items_in asked))
memories_in_exports asked shape e =
    rw e (let all = ap length (memories_append (imported_items shape) (exported_items shape)) in
    omega (arith, all, length-append (memories_in (imported_items shape)) (memories_in (exported_items shape))))

module _ (c : Config) (duplicates : DuplicateImportsBehavior) (types : List (SubType ℕ)) (s : List ℕ) (new : Spaces) (left : List ℕ) (entries : List ImportEntry) (shapes : HasGoodShapes c) (few : HasFewTables c)
    (h : AreImports c duplicates (spaces_of_types types) s new left entries) where
  abbrev own : OwnValue
  own = own_of c types

  -- own tables without the shape of a whole module
  own_tables_few : c.module_shape ≡ None → length own.tables ≤ length (tables_in (items_in c.exports))
  own_tables_few alone = go c.exports refl
    where
      go : (asked : Option ShapeValue) → c.exports ≡ asked → length own.tables ≤ length (tables_in (items_in c.exports))
      go (Some shape) e =
          let count = own_tables_count c types shape (ap (λ m. or_else m c.exports) alone ∙ e) in let within = in_exports c.exports shape e in omega (arith, count, within)
      go None e =
          let none : length own.tables ≡ 0 = ap (λ x. length (tables_in (moved_types (λ r. exports_start c (length types) + r) (exports_in x)))) (ap (λ m. or_else m c.exports) alone ∙ e) in omega (arith, none)

  own_memories_few : c.module_shape ≡ None → length own.memories ≤ length (memories_in (items_in c.exports))
  own_memories_few alone = go c.exports refl
    where
      go : (asked : Option ShapeValue) → c.exports ≡ asked → length own.memories ≤ length (memories_in (items_in c.exports))
      go (Some shape) e =
          let count = own_memories_count c types shape (ap (λ m. or_else m c.exports) alone ∙ e) in let within = memories_in_exports c.exports shape e in omega (arith, count, within)
      go None e =
          let none : length own.memories ≡ 0 = ap (λ x. length (memories_in (moved_types (λ r. exports_start c (length types) + r) (exports_in x)))) (ap (λ m. or_else m c.exports) alone ∙ e) in omega (arith, none)

  -- beside another shape, or none
  few_beside : c.module_shape ≡ None → (features : Features) → AreFeaturesOf c features → (HasFewOf (has features ReferenceTypes) (length new.tables + length own.tables)) × (HasFewOf (has features MultiMemory) (length new.memories + length own.memories))
  few_beside alone features is = go c.available_imports refl
    where
      tables_off : has features ReferenceTypes ≡ false → c.max_tables ≤ 1
      tables_off off = few.one (sym (is ReferenceTypes) ∙ off)

      memories_off : has features MultiMemory ≡ false → c.max_memories ≤ 1
      memories_off off = below_one c.max_memories (sym (is MultiMemory) ∙ off)

      go : (asked : Option ShapeValue) → c.available_imports ≡ asked
          → (HasFewOf (has features ReferenceTypes) (length new.tables + length own.tables)) × (HasFewOf (has features MultiMemory) (length new.memories + length own.memories))
      go (Some shape) e =
          let imported = imported_from c duplicates types s new left entries shape (ap (λ m. or_else m c.available_imports) alone ∙ e) h in (
            λ off. omega (arith, shapes.together.tables features is off, own_tables_few alone, in_imports c.available_imports shape e, tables_imported c types new shape imported),
            λ off. omega (arith, shapes.together.memories features is off, own_memories_few alone, memories_in_imports c.available_imports shape e, memories_imported c types new shape imported),
          )
      go None e =
          let drawn = subst (λ x. AreImportsFrom x c duplicates (spaces_of_types types) s new left entries) (ap (λ m. or_else m c.available_imports) alone ∙ e) h.origin in
          let tables : length new.tables ≤ max (c.max_tables - length own.tables) 0 = drawn.bounded.room TableKind in
          let memories : length new.memories ≤ max (c.max_memories - length own.memories) 0 = drawn.bounded.room MemoryKind in (
            λ off. omega (arith, shapes.together.tables features is off, own_tables_few alone, tables, tables_off off),
            λ off. omega (arith, shapes.together.memories features is off, own_memories_few alone, memories, memories_off off),
          )

  -- with the shape of a whole module
  few_within : (shape : ShapeValue) → c.module_shape ≡ Some shape → (features : Features) → AreFeaturesOf c features
      → (HasFewOf (has features ReferenceTypes) (length new.tables + length own.tables)) × (HasFewOf (has features MultiMemory) (length new.memories + length own.memories))
  few_within shape e features is =
      let good = (subst (IsGoodFor c Module) e shapes.module_shape) features is in
      let imported = imported_from c duplicates types s new left entries shape (ap (λ m. or_else m c.available_imports) e) h in
      let there = room c types new shape imported in
      let asked = ap (λ m. or_else m c.exports) e in
      let f : ℕ → ℕ = λ r. exports_start c (length types) + r in
      let tables = few_moved_tables features f shape new there.tables good.imports.kept good.exports.kept in
      let memories = few_moved_memories features f shape new there.memories good.imports.kept good.exports.kept in (
        λ off. omega (arith, tables off, own_tables_count c types shape asked, tables_moved_count f (exported_items shape)),
        λ off. omega (arith, memories off, own_memories_count c types shape asked, ap length (memories_unmoved f (exported_items shape))),
      )

  few_with_own : (features : Features) → AreFeaturesOf c features
      → (HasFewOf (has features ReferenceTypes) (length new.tables + length own.tables)) × (HasFewOf (has features MultiMemory) (length new.memories + length own.memories))
  few_with_own features is = go c.module_shape refl
    where
      go : (asked : Option ShapeValue) → c.module_shape ≡ asked
          → (HasFewOf (has features ReferenceTypes) (length new.tables + length own.tables)) × (HasFewOf (has features MultiMemory) (length new.memories + length own.memories))
      go (Some shape) e = few_within shape e features is
      go None e = few_beside e features is

  new_types : new.types ≡ types
  new_types = ap (λ (k : Spaces). k.types) (imports_later c (spaces_of_types types) new entries h.step)

  pub own_keep : IsGood c → AreTypesOf c types → OwnKeep c new own
  own_keep good of_types =
      let sample = own_rules c types shapes good of_types (grown_by 0 (switches c)) (flags c) in
      record {
        functions = rw new_types sample.functions;
        tables = λ features is. rw new_types ((own_rules c types shapes good of_types features is).tables);
        few_tables = λ features is. (few_with_own features is).0;
        memories = λ features is. (own_rules c types shapes good of_types features is).memories;
        few_memories = λ features is. (few_with_own features is).1;
        globals = λ features is. rw new_types ((own_rules c types shapes good of_types features is).globals);
        tags = λ features is. (own_rules c types shapes good of_types features is).tags new new_types;
      }

-- counts, kind by kind
pub counts_are : (k : Spaces) (counts : KindCounts) → ((kind : ExternalKind) → count_in counts kind ≡ count_of k kind) → counts ≡ counts_of k
counts_are k counts h =
    let functions = h FuncKind in
    let tables = h TableKind in
    let memories = h MemoryKind in
    let globals = h GlobalKind in
    let tags = h TagKind in
    rw (sym functions, sym tables, sym memories, sym globals, sym tags) refl
