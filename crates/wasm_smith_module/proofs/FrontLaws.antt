-- The parts that the steps leave as they were, one after the other.
use Rattle.std.proofs.Common.{◌≡◌, ℕ, ◌+◌, ◌≤◌, ◌<◌, ◌^◌, false, List, [], ◌∷◌, ◌++◌, length, max, refl, ap, sym, ◌∙◌, subst, arith, append_assoc}
use Rattle.wasm_spec.specs.Syntax.{ImportEntry, Table, Global}
use Rattle.wasm_spec.specs.Types.{ExternalKind, SubType, MemoryType, FuncKind, TableKind, MemoryKind, GlobalKind, TagKind}
use Rattle.wasm_smith_config.specs.Config.{IsGood}
use Rattle.wasm_smith_config.specs.declared.config.Config.{Config}
use Rattle.wasm_smith_externs.proofs.ShapeExportLaws.{made_stand}
use Rattle.wasm_smith_externs.specs.ShapeExports.{AreMadeFirst, BeginsWith, StandFrom, count_in}
use Rattle.wasm_smith_externs.specs.Imports.{of_import}
use Rattle.wasm_smith_externs.specs.Wanted.{of_function, of_tag, wanted_functions, wanted_tags}
use Rattle.wasm_smith_externs.specs.declared.names.DuplicateImportsBehavior.{DuplicateImportsBehavior}
use Rattle.wasm_smith_externs.specs.declared.shape_exports.KindCounts.{KindCounts}
use Rattle.wasm_smith_definitions.proofs.FilledLaws.{filled_few, filled_step, one_function, one_tag}
use Rattle.wasm_smith_definitions.proofs.FrameLaws.{kept_by}
use Rattle.wasm_smith_definitions.specs.Bounds.{IsBoundedTable}
use Rattle.wasm_smith_definitions.specs.Kinds.{AnyBound, count_of, of_global, of_memory, of_table, wanted_globals, wanted_memories, wanted_tables}
use Rattle.wasm_smith_definitions.specs.Offered.{IsOfferedMemory}
use Rattle.wasm_smith_definitions.specs.OwnItems.{OwnValue}
use Rattle.wasm_smith_definitions.specs.Steps.{IsStep, TablesKeep}
use Rattle.wasm_smith_module.specs.TrueToShapes.{AreTypesOf}
use Rattle.wasm_smith_definitions.specs.Offered.{HasFewTables}
use Rattle.wasm_smith_module.specs.Asked.{OwnKeep, HasGoodShapes, asked_items, counts_of, has_non_null, own_of}
use Rattle.wasm_smith_module.specs.Elements.{AreNullable}
use Rattle.wasm_smith_validity.specs.Spaces.{Spaces, functions_of, globals_of, spaces_of_types}
use Rattle.wasm_smith_module.proofs.FilledFirst.{few_own, filled_between, filled_first}
use Rattle.wasm_smith_module.proofs.GoodLaws.{funcs_small, tags_small}
use Rattle.wasm_smith_module.proofs.ImportedLaws.{imported_tables, imports_later, later, own_nullable, own_tables}
use Rattle.wasm_smith_module.proofs.NullableTables.{imported_plain, nullable_front, own_plain}
use Rattle.wasm_smith_module.proofs.OwnKeepLaws.{imported_few, own_keep}
use Rattle.wasm_smith_module.specs.Building.{AreDefinitions, IsFront, itself, type_of_global, type_of_memory, type_of_table}

-- ---- imports, tags and functions

-- what tags and functions leave as it was
abbrev pub without_front : Spaces → Spaces
without_front k = record k { own_functions = []; tags = [] }

-- what tables, memories and globals leave as it was
abbrev pub without_definitions : Spaces → Spaces
without_definitions k = record k { tables = []; memories = []; own_globals = [] }

-- what is made first, in the words of the calls
pub from_types : (c : Config) (duplicates : DuplicateImportsBehavior) (own : OwnValue) (types : List (SubType ℕ)) (old : Spaces) (s : List ℕ) (new : Spaces) (left : List ℕ) (imports : List ImportEntry) (tags funcs : List ℕ)
    (before : KindCounts) → old ≡ spaces_of_types types → IsFront c duplicates own old s new left imports tags funcs before → IsFront c duplicates own (spaces_of_types types) s new left imports tags funcs before
from_types c duplicates own types old s new left imports tags funcs before e h = subst (λ k. IsFront c duplicates own k s new left imports tags funcs before) e h

module _ (c : Config) (duplicates : DuplicateImportsBehavior) (own : OwnValue) (types : List (SubType ℕ)) (s : List ℕ) (new : Spaces) (left : List ℕ) (imports : List ImportEntry) (tags funcs : List ℕ) (before : KindCounts)
    (h : IsFront c duplicates own (spaces_of_types types) s new left imports tags funcs before) where
  pub imports_step : IsStep c of_import (spaces_of_types types) h.imported imports
  imports_step = h.made_imports.step

  pub tags_step : IsStep c of_tag h.imported h.tagged tags
  tags_step = filled_step c (wanted_tags c) of_tag (AnyBound c) itself own.tags h.imported h.after_imports h.tagged h.after_tags tags h.made_tags

  pub funcs_step : IsStep c of_function h.tagged new funcs
  funcs_step = filled_step c (wanted_functions c) of_function (AnyBound c) itself own.functions h.tagged h.after_tags new left funcs h.made_funcs

  pub front_later : later new ≡ later (spaces_of_types types)
  front_later =
      kept_by later c of_function h.tagged new funcs (λ k x. refl) funcs_step
      ∙ kept_by later c of_tag h.imported h.tagged tags (λ k x. refl) tags_step
      ∙ imports_later c (spaces_of_types types) h.imported imports imports_step

  pub front_types : new.types ≡ types
  front_types = ap (λ (k : Spaces). k.types) front_later

  pub imported_alone : without_front new ≡ without_front h.imported
  imported_alone =
      kept_by without_front c of_function h.tagged new funcs (λ k x. refl) funcs_step
      ∙ kept_by without_front c of_tag h.imported h.tagged tags (λ k x. refl) tags_step

  pub tagged_functions : functions_of h.tagged ≡ functions_of h.imported
  tagged_functions = kept_by functions_of c of_tag h.imported h.tagged tags (λ k x. refl) tags_step

  pub front_tags : new.tags ≡ h.tagged.tags
  front_tags = kept_by (λ k. k.tags) c of_function h.tagged new funcs (λ k x. refl) funcs_step

  -- no more than the maximum, or than those that are imported and those that are asked for
  pub front_few_funcs : length (functions_of new) ≤ max c.max_funcs (length (functions_of h.imported) + length own.functions)
  front_few_funcs =
      let few : length (functions_of new) ≤ max c.max_funcs (length (functions_of h.tagged) + length own.functions) =
      filled_few c (wanted_functions c) of_function (AnyBound c) itself own.functions h.tagged h.after_tags new left funcs h.made_funcs one_function in
      subst (λ (functions : List ℕ). length (functions_of new) ≤ max c.max_funcs (length functions + length own.functions)) tagged_functions few

  pub front_few_tags : length new.tags ≤ max c.max_tags (length h.imported.tags + length own.tags)
  front_few_tags =
      let few : length h.tagged.tags ≤ max c.max_tags (length h.imported.tags + length own.tags) =
      filled_few c (wanted_tags c) of_tag (AnyBound c) itself own.tags h.imported h.after_imports h.tagged h.after_tags tags h.made_tags one_tag in
      subst (λ (all : List ℕ). length all ≤ max c.max_tags (length h.imported.tags + length own.tags)) (sym front_tags) few

  front_tables_keep : TablesKeep c new
  front_tables_keep =
      let none : TablesKeep c (spaces_of_types types) = λ index type at features f. absurd cc in
      let imported : TablesKeep c h.imported = subst (TablesKeep c) (sym imports_step.known) (imported_tables c (spaces_of_types types) imports none imports_step.keep) in
      λ index type at features f.
      rw (ap (λ (k : Spaces). k.types) imported_alone) (imported index type (rw (ap (λ (k : Spaces). k.tables) imported_alone) at at) features f)

  front_nullable : has_non_null c ≡ false → AreNullable new.tables
  front_nullable plain =
      subst AreNullable (sym (ap (λ (k : Spaces). k.tables) imported_alone)) (imported_plain c plain duplicates types s h.imported h.after_imports imports h.made_imports)

  -- ---- few items are imported

  pub imported_kinds : (kind : ExternalKind) → count_in before kind ≡ count_of h.imported kind
  imported_kinds kind = ap (λ (counts : KindCounts). count_in counts kind) h.counts ∙ go kind
    where
      go : (kind : ExternalKind) → count_in (counts_of h.imported) kind ≡ count_of h.imported kind
      go FuncKind = refl
      go TableKind = refl
      go MemoryKind = refl
      go GlobalKind = refl
      go TagKind = refl

  pub few_before : IsGood c → HasGoodShapes c → (kind : ExternalKind) → count_in before kind + 2 ^ 29 < 2 ^ 32
  few_before good shapes kind =
      let few = imported_few c duplicates types s h.imported h.after_imports imports good shapes h.made_imports kind in
      omega (arith, few, imported_kinds kind)

  -- own items keep their rules beside tags and functions
  pub front_keeps : IsGood c → HasGoodShapes c → HasFewTables c → AreTypesOf c types → own ≡ own_of c types → OwnKeep c new own
  front_keeps good shapes few of_types is =
      let keep = subst (OwnKeep c h.imported) (sym is) (own_keep c duplicates types s h.imported h.after_imports imports shapes few h.made_imports good of_types) in
      let known : new.types ≡ h.imported.types = ap (λ (k : Spaces). k.types) imported_alone in
      let tables = ap (λ (k : Spaces). length k.tables) imported_alone in
      let memories = ap (λ (k : Spaces). length k.memories) imported_alone in
      record {
        functions = rw known keep.functions;
        tables = λ features f. rw known (keep.tables features f);
        few_tables = λ features f. rw tables (keep.few_tables features f);
        memories = keep.memories;
        few_memories = λ features f. rw memories (keep.few_memories features f);
        globals = λ features f. rw known (keep.globals features f);
        tags = λ features f. rw known (keep.tags features f);
      }

  -- ---- and definitions

  module _ (defined : Spaces) (after : List ℕ) (tables : List Table) (memories : List MemoryType) (globals : List Global)
      (g : AreDefinitions c own new left defined after tables memories globals) where
    pub tables_step : IsStep c of_table new g.with_tables tables
    tables_step = filled_step c (wanted_tables c) of_table (IsBoundedTable c) type_of_table own.tables new left g.with_tables g.after_tables tables g.made_tables

    pub memories_step : IsStep c of_memory g.with_tables g.with_memories memories
    memories_step =
        filled_step c (wanted_memories c) of_memory (IsOfferedMemory c) type_of_memory own.memories g.with_tables g.after_tables g.with_memories g.after_memories memories g.made_memories

    pub globals_step : IsStep c of_global g.with_memories defined globals
    globals_step = filled_step c (wanted_globals c) of_global (AnyBound c) type_of_global own.globals g.with_memories g.after_memories defined after globals g.made_globals

    pub declared_alone : without_definitions defined ≡ without_definitions new
    declared_alone =
        kept_by without_definitions c of_global g.with_memories defined globals (λ k x. refl) globals_step
        ∙ kept_by without_definitions c of_memory g.with_tables g.with_memories memories (λ k x. refl) memories_step
        ∙ kept_by without_definitions c of_table new g.with_tables tables (λ k x. refl) tables_step

    pub defined_types : defined.types ≡ types
    defined_types = ap (λ (k : Spaces). k.types) declared_alone ∙ front_types

    pub defined_exports : defined.exports ≡ []
    defined_exports = ap (λ (k : Spaces). k.exports) declared_alone ∙ ap (λ (k : Spaces). k.exports) front_later

    pub defined_elements : defined.element_segments ≡ 0
    defined_elements = ap (λ (k : Spaces). k.element_segments) declared_alone ∙ ap (λ (k : Spaces). k.element_segments) front_later

    pub defined_data : defined.data_segments ≡ 0
    defined_data = ap (λ (k : Spaces). k.data_segments) declared_alone ∙ ap (λ (k : Spaces). k.data_segments) front_later

    pub defined_funcs : functions_of defined ≡ functions_of new
    defined_funcs = ap functions_of declared_alone

    pub defined_tags : defined.tags ≡ new.tags
    defined_tags = ap (λ (k : Spaces). k.tags) declared_alone

    pub few_functions : IsGood c → HasGoodShapes c → own ≡ own_of c types → length (functions_of defined) < 2 ^ 32
    few_functions good shapes is =
        let imported : length (functions_of h.imported) ≤ 2 ^ 31 = imported_few c duplicates types s h.imported h.after_imports imports good shapes h.made_imports FuncKind in
        let asked : length own.functions ≤ 2 ^ 29 = subst (λ (o : OwnValue). length o.functions ≤ 2 ^ 29) (sym is) (few_own c types shapes FuncKind) in
        omega (arith, ap length defined_funcs, front_few_funcs, funcs_small c good, imported, asked)

    pub few_tags : IsGood c → HasGoodShapes c → own ≡ own_of c types → length defined.tags < 2 ^ 32
    few_tags good shapes is =
        let imported : length h.imported.tags ≤ 2 ^ 31 = imported_few c duplicates types s h.imported h.after_imports imports good shapes h.made_imports TagKind in
        let asked : length own.tags ≤ 2 ^ 29 = subst (λ (o : OwnValue). length o.tags ≤ 2 ^ 29) (sym is) (few_own c types shapes TagKind) in
        omega (arith, ap length defined_tags, front_few_tags, tags_small c good, imported, asked)

    with_memories_tables : g.with_memories.tables ≡ g.with_tables.tables
    with_memories_tables = kept_by (λ k. k.tables) c of_memory g.with_tables g.with_memories memories (λ k x. refl) memories_step

    pub defined_own_tables : defined.tables ≡ g.with_tables.tables
    defined_own_tables = kept_by (λ k. k.tables) c of_global g.with_memories defined globals (λ k x. refl) globals_step ∙ with_memories_tables

    pub defined_own_memories : defined.memories ≡ g.with_memories.memories
    defined_own_memories = kept_by (λ k. k.memories) c of_global g.with_memories defined globals (λ k x. refl) globals_step

    pub defined_tables_keep : TablesKeep c defined
    defined_tables_keep =
        let all : TablesKeep c g.with_tables = subst (TablesKeep c) (sym tables_step.known) (own_tables c new tables front_tables_keep tables_step.keep) in
        let same : defined.types ≡ g.with_tables.types =
        kept_by (λ k. k.types) c of_global g.with_memories defined globals (λ k x. refl) globals_step
        ∙ kept_by (λ k. k.types) c of_memory g.with_tables g.with_memories memories (λ k x. refl) memories_step in
        λ index type at features f. rw same (all index type (rw defined_own_tables at at) features f)

    pub defined_nullable : own ≡ own_of c types → has_non_null c ≡ false → AreNullable defined.tables
    defined_nullable is plain =
        let asked : AreNullable own.tables = subst (λ (o : OwnValue). AreNullable o.tables) (sym is) (own_plain c plain types) in
        let between : AreNullable g.made_tables.between.tables =
        subst AreNullable
        (sym (filled_between (λ k. k.tables) c (wanted_tables c) of_table (IsBoundedTable c) type_of_table (λ k x. refl) own.tables new left g.with_tables g.after_tables tables g.made_tables))
        (nullable_front new.tables own.tables (front_nullable plain) asked) in
        let all : AreNullable g.with_tables.tables =
        subst (λ (k : Spaces). AreNullable k.tables) (sym g.made_tables.grown.step.known) (own_nullable c g.made_tables.between g.made_tables.drawn between g.made_tables.grown.bounded) in
        subst AreNullable (sym defined_own_tables) all

    -- ---- own items stand behind imported ones

    one_function_added : (k : Spaces) (x : ℕ) → k.imported_functions ++ (k.own_functions ++ x ∷ []) ≡ (k.imported_functions ++ k.own_functions) ++ x ∷ []
    one_function_added k x = sym (append_assoc k.imported_functions k.own_functions (x ∷ []))

    one_global_added : (k : Spaces) (x : Global) → k.imported_globals ++ (k.own_globals ++ x.type ∷ []) ≡ (k.imported_globals ++ k.own_globals) ++ x.type ∷ []
    one_global_added k x = sym (append_assoc k.imported_globals k.own_globals (x.type ∷ []))

    first_functions : BeginsWith (functions_of h.imported ++ own.functions) (functions_of defined)
    first_functions =
        let made = filled_first functions_of c (wanted_functions c) of_function (AnyBound c) itself one_function_added own.functions h.tagged h.after_tags new left funcs h.made_funcs in
        (made.0, defined_funcs ∙ made.1 ∙ ap (λ front. (front ++ own.functions) ++ made.0) tagged_functions)

    first_tags : BeginsWith (h.imported.tags ++ own.tags) defined.tags
    first_tags =
        let made = filled_first (λ k. k.tags) c (wanted_tags c) of_tag (AnyBound c) itself (λ k x. refl) own.tags h.imported h.after_imports h.tagged h.after_tags tags h.made_tags in
        (made.0, defined_tags ∙ front_tags ∙ made.1)

    first_tables : BeginsWith (h.imported.tables ++ own.tables) defined.tables
    first_tables =
        let made = filled_first (λ k. k.tables) c (wanted_tables c) of_table (IsBoundedTable c) type_of_table (λ k x. refl) own.tables new left g.with_tables g.after_tables tables g.made_tables in
        (made.0, defined_own_tables ∙ made.1 ∙ ap (λ (k : Spaces). (k.tables ++ own.tables) ++ made.0) imported_alone)

    pub imported_memories : g.with_tables.memories ≡ h.imported.memories
    imported_memories = kept_by (λ k. k.memories) c of_table new g.with_tables tables (λ k x. refl) tables_step ∙ ap (λ (k : Spaces). k.memories) imported_alone

    first_memories : BeginsWith (h.imported.memories ++ own.memories) defined.memories
    first_memories =
        let made =
        filled_first (λ k. k.memories) c (wanted_memories c) of_memory (IsOfferedMemory c) type_of_memory (λ k x. refl) own.memories g.with_tables g.after_tables g.with_memories g.after_memories memories g.made_memories in
        (made.0, defined_own_memories ∙ made.1 ∙ ap (λ front. (front ++ own.memories) ++ made.0) imported_memories)

    pub imported_globals : globals_of g.with_memories ≡ globals_of h.imported
    imported_globals =
        kept_by globals_of c of_memory g.with_tables g.with_memories memories (λ k x. refl) memories_step
        ∙ kept_by globals_of c of_table new g.with_tables tables (λ k x. refl) tables_step
        ∙ ap globals_of imported_alone

    first_globals : BeginsWith (globals_of h.imported ++ own.globals) (globals_of defined)
    first_globals =
        let made =
        filled_first globals_of c (wanted_globals c) of_global (AnyBound c) type_of_global one_global_added own.globals g.with_memories g.after_memories defined after globals g.made_globals in
        (made.0, made.1 ∙ ap (λ front. (front ++ own.globals) ++ made.0) imported_globals)

    pub stand_from : own ≡ own_of c types → StandFrom defined before (asked_items c (length types))
    stand_from is =
        let made : AreMadeFirst h.imported defined (asked_items c (length types)) =
        record {
          functions = subst (λ (o : OwnValue). BeginsWith (functions_of h.imported ++ o.functions) (functions_of defined)) is first_functions;
          tables = subst (λ (o : OwnValue). BeginsWith (h.imported.tables ++ o.tables) defined.tables) is first_tables;
          memories = subst (λ (o : OwnValue). BeginsWith (h.imported.memories ++ o.memories) defined.memories) is first_memories;
          globals = subst (λ (o : OwnValue). BeginsWith (globals_of h.imported ++ o.globals) (globals_of defined)) is first_globals;
          tags = subst (λ (o : OwnValue). BeginsWith (h.imported.tags ++ o.tags) defined.tags) is first_tags;
        } in
        made_stand h.imported defined before (asked_items c (length types)) imported_kinds made
