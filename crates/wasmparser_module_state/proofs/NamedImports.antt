-- Items of an import section and their names: what is known of one doesn't rest on the other.
use Rattle.std.proofs.Common.{◌≡◌, ℕ, suc, ◌+◌, ◌≤◌, true, List, [], ◌∷◌, ◌++◌, length, map, take, Some, refl, sym, ap, subst, ◌∙◌, arith, Err}
use Rattle.std.proofs.lemmas.Bool.{and_parts}
use Rattle.std.proofs.lemmas.List.{take-map}
use Rattle.std.specs.Prelude.{◌&&◌}
use Rattle.wasm_core_read.proofs.Forms.{some_is}
use Rattle.wasm_core_read.specs.Reading.{ReadingOf, name_at}
use Rattle.wasm_spec.specs.Features.{Features}
use Rattle.wasm_spec.specs.Syntax.{ImportEntry, Import, CompactItems, CompactNames}
use Rattle.wasm_spec.specs.Types.{ExternalType, FuncExternal, TableExternal, MemoryExternal, GlobalExternal, TagExternal, kind_of}
use Rattle.wasm_validity.specs.Context.{Context, after_item, after_items, next_import, next_imports, next_index}
use Rattle.wasm_validity.specs.Entries.{OfImport}
use Rattle.wasm_validity.specs.ImportedItems.{Imported, with_import, with_imports}
use Rattle.wasm_validity.specs.Rules.{are_within, item_measures, items_measures, keep_items, keeps_item}
use Rattle.wasm_validity_laws.proofs.Within.{within}
use Rattle.wasmparser_error.specs.declared.error.Error.{Error}
use Rattle.wasmparser_names.specs.ImportNames.{Kept, module_at}
use Rattle.wasmparser_module_state.proofs.ReadItems.{split}
use Rattle.wasmparser_module_state.specs.Items.{NamesImports, cut_off}
use Rattle.wasmparser_readers.specs.ItemTypes.{memory_type}
use Rattle.wasmparser_readers.specs.declared.global_type.GlobalType.{GlobalType}
use Rattle.wasmparser_readers.specs.declared.memory_type.MemoryType.{MemoryType}
use Rattle.wasmparser_readers.specs.declared.table_type.TableType.{TableType}
use Rattle.wasmparser_module_state.specs.Judging.{IsLeft}
use Rattle.wasmparser_module_state.specs.State.{global, table}
use Rattle.wasmparser_readers.proofs.SectionLaws.{none_left}
use Rattle.wasmparser_readers.specs.Sections.{IsEmpty, IsNext, Left, left_items}

-- ---- names change nothing of the items

pub named_items : (cx : Context) (names : List Imported) (types : List (ExternalType ℕ)) → after_items (record cx { imported = names }) types ≡ record (after_items cx types) { imported = names }
named_items cx names [] = refl
named_items cx names (FuncExternal function ∷ types) = named_items (after_item cx (FuncExternal function)) names types
named_items cx names (TableExternal type ∷ types) = named_items (after_item cx (TableExternal type)) names types
named_items cx names (MemoryExternal type ∷ types) = named_items (after_item cx (MemoryExternal type)) names types
named_items cx names (GlobalExternal type ∷ types) = named_items (after_item cx (GlobalExternal type)) names types
named_items cx names (TagExternal function ∷ types) = named_items (after_item cx (TagExternal function)) names types

pub named_rules : (features : Features) (cx : Context) (names : List Imported) (types : List (ExternalType ℕ)) → keep_items features (record cx { imported = names }) types ≡ keep_items features cx types
named_rules features cx names [] = refl
named_rules features cx names (FuncExternal function ∷ types) = ap (λ b. keeps_item features cx (FuncExternal function) && b) (named_rules features (after_item cx (FuncExternal function)) names types)
named_rules features cx names (TableExternal type ∷ types) = ap (λ b. keeps_item features cx (TableExternal type) && b) (named_rules features (after_item cx (TableExternal type)) names types)
named_rules features cx names (MemoryExternal type ∷ types) = ap (λ b. keeps_item features cx (MemoryExternal type) && b) (named_rules features (after_item cx (MemoryExternal type)) names types)
named_rules features cx names (GlobalExternal type ∷ types) = ap (λ b. keeps_item features cx (GlobalExternal type) && b) (named_rules features (after_item cx (GlobalExternal type)) names types)
named_rules features cx names (TagExternal function ∷ types) = ap (λ b. keeps_item features cx (TagExternal function) && b) (named_rules features (after_item cx (TagExternal function)) names types)

pub named_measures_of : (cx : Context) (names : List Imported) (types : List (ExternalType ℕ)) → items_measures (record cx { imported = names }) types ≡ items_measures cx types
named_measures_of cx names [] = refl
named_measures_of cx names (FuncExternal function ∷ types) = ap (λ ms. item_measures cx (FuncExternal function) ++ ms) (named_measures_of (after_item cx (FuncExternal function)) names types)
named_measures_of cx names (TableExternal type ∷ types) = ap (λ ms. item_measures cx (TableExternal type) ++ ms) (named_measures_of (after_item cx (TableExternal type)) names types)
named_measures_of cx names (MemoryExternal type ∷ types) = ap (λ ms. item_measures cx (MemoryExternal type) ++ ms) (named_measures_of (after_item cx (MemoryExternal type)) names types)
named_measures_of cx names (GlobalExternal type ∷ types) = ap (λ ms. item_measures cx (GlobalExternal type) ++ ms) (named_measures_of (after_item cx (GlobalExternal type)) names types)
named_measures_of cx names (TagExternal function ∷ types) = ap (λ ms. item_measures cx (TagExternal function) ++ ms) (named_measures_of (after_item cx (TagExternal function)) names types)

pub named_next : (cx : Context) (had : List Imported) (origin : List ℕ) (names : List (List ℕ)) (types : List (ExternalType ℕ)) → next_imports (record cx { imported = had }) origin names types ≡ next_imports cx origin names types
named_next cx had origin [] types = refl
named_next cx had origin (name ∷ names) [] = refl
named_next cx had origin (name ∷ names) (FuncExternal function ∷ types) = ap (λ is. next_import cx origin name (FuncExternal function) ∷ is) (named_next (after_item cx (FuncExternal function)) had origin names types)
named_next cx had origin (name ∷ names) (TableExternal type ∷ types) = ap (λ is. next_import cx origin name (TableExternal type) ∷ is) (named_next (after_item cx (TableExternal type)) had origin names types)
named_next cx had origin (name ∷ names) (MemoryExternal type ∷ types) = ap (λ is. next_import cx origin name (MemoryExternal type) ∷ is) (named_next (after_item cx (MemoryExternal type)) had origin names types)
named_next cx had origin (name ∷ names) (GlobalExternal type ∷ types) = ap (λ is. next_import cx origin name (GlobalExternal type) ∷ is) (named_next (after_item cx (GlobalExternal type)) had origin names types)
named_next cx had origin (name ∷ names) (TagExternal function ∷ types) = ap (λ is. next_import cx origin name (TagExternal function) ∷ is) (named_next (after_item cx (TagExternal function)) had origin names types)

-- what a refused entry leaves
pub left_named : (old new : Context) (had has : List Imported) (entry : ImportEntry) (e : Error) → IsLeft old (OfImport entry) new → NamesImports old entry had (Err e) has
    → IsLeft (record old { imported = had }) (OfImport entry) (record new { imported = has })
left_named old new had has (Import origin name type) e left names = ap (λ (cx : Context). record cx { imported = has }) left ∙ ap (λ is. record old { imported = is }) names
left_named old new had has (CompactItems origin items) e left names = ap (λ (cx : Context). record cx { imported = has }) left
left_named old new had has (CompactNames origin type names) e left kept = ap (λ (cx : Context). record cx { imported = has }) left

-- ---- an item that was imported last

front_of : {A : Type 0} (xs : List A) (x : A) → take (length xs) (xs ++ x ∷ []) ≡ xs
front_of [] x = refl
front_of (y ∷ xs) x = ap (λ ys. y ∷ ys) (front_of xs x)

-- lists of parts that stand for items are cut as these are
pub table_cut : (index : ℕ) (tables : List TableType) → map table (take index tables) ≡ take index (map table tables)
table_cut index tables = sym (take-map table index tables)

pub memory_cut : (index : ℕ) (memories : List MemoryType) → map memory_type (take index memories) ≡ take index (map memory_type memories)
memory_cut index memories = sym (take-map memory_type index memories)

pub global_cut : (index : ℕ) (globals : List GlobalType) → map global (take index globals) ≡ take index (map global globals)
global_cut index globals = sym (take-map global index globals)

pub ruleset cut_steps = (table_cut, memory_cut, global_cut)

-- it goes again
pub cut_again : (cx : Context) (type : ExternalType ℕ) → cut_off (after_item cx type) (kind_of type) (next_index cx (kind_of type)) cx.type_size ≡ cx
cut_again cx (FuncExternal function) = ap (λ (xs : List ℕ). record cx { imported_functions = xs }) (front_of cx.imported_functions function)
cut_again cx (TableExternal type) = ap (λ xs. record cx { tables = xs }) (front_of cx.tables type)
cut_again cx (MemoryExternal type) = ap (λ xs. record cx { memories = xs }) (front_of cx.memories type)
cut_again cx (GlobalExternal type) = ap (λ xs. record cx { imported_globals = xs }) (front_of cx.imported_globals type)
cut_again cx (TagExternal function) = ap (λ (xs : List ℕ). record cx { tags = xs }) (front_of cx.tags function)

-- its index is small
pub few_items : (cx : Context) (type : ExternalType ℕ) → are_within (item_measures cx type) ≡ true → next_index cx (kind_of type) ≤ 1000000
few_items cx (FuncExternal function) w = omega (arith, within 1000000 (suc (length cx.imported_functions + length cx.own_functions)) (and_parts _ _ w).0)
few_items cx (TableExternal type) w = omega (arith, within 100 (suc (length cx.tables)) (and_parts _ _ w).0)
few_items cx (MemoryExternal type) w = omega (arith, within 100 (suc (length cx.memories)) (and_parts _ _ w).0)
few_items cx (GlobalExternal type) w = omega (arith, within 1000000 (suc (length cx.imported_globals + length cx.own_globals)) (and_parts _ _ w).0)
few_items cx (TagExternal function) w = omega (arith, within 1000000 (suc (length cx.tags)) (and_parts _ _ w).0)

-- ---- the names of a group, as they are read

-- The names of some imports were kept, and those that are left tell the others.
pub record NamesStand {A : Type 0} (item_at : ReadingOf A) (name_of : A → List ℕ) (type_of : A → ExternalType ℕ) (origin : List ℕ) (all : List A) (old now : Context) (had has : List Imported) (left : Left) : Type 0 where
  pub rest : List A
  pub reads : left_items (λ features. item_at) left ≡ Some rest
  pub named : with_imports has (next_imports now origin (map name_of rest) (map type_of rest)) ≡ with_imports had (next_imports old origin (map name_of all) (map type_of all))

pub names_begin : {A : Type 0} (item_at : ReadingOf A) (name_of : A → List ℕ) (type_of : A → ExternalType ℕ) (origin : List ℕ) (all : List A) (old : Context) (had : List Imported) (left : Left)
    → left_items (λ features. item_at) left ≡ Some all → NamesStand item_at name_of type_of origin all old old had had left
names_begin item_at name_of type_of origin all old had left reads = record { rest = all; reads = reads; named = refl }

pub names_go_on : {A : Type 0} (item_at : ReadingOf A) (name_of : A → List ℕ) (type_of : A → ExternalType ℕ) (origin : List ℕ) (all : List A) (old now new : Context) (had has more : List Imported) (left next : Left) (offset : ℕ) (item : A)
    → NamesStand item_at name_of type_of origin all old now had has left → IsNext (λ features. item_at) left next offset item
    → new ≡ after_item now (type_of item) → more ≡ with_import has (next_import now origin (name_of item) (type_of item)) → NamesStand item_at name_of type_of origin all old new had more next
names_go_on {A = A} item_at name_of type_of origin all old now new had has more left next offset item s h known named =
    let p = split item_at left next offset item s.rest s.reads h in
    let left_names = subst (λ (xs : List A). with_imports has (next_imports now origin (map name_of xs) (map type_of xs)) ≡ with_imports had (next_imports old origin (map name_of all) (map type_of all))) p.is s.named in
    record {
      rest = p.others;
      reads = p.reads;
      named =
          ap (λ is. with_imports is (next_imports new origin (map name_of p.others) (map type_of p.others))) named
          ∙ ap (λ (cx : Context). with_imports (with_import has (next_import now origin (name_of item) (type_of item))) (next_imports cx origin (map name_of p.others) (map type_of p.others))) known ∙ left_names;
    }

pub names_end : {A : Type 0} (item_at : ReadingOf A) (name_of : A → List ℕ) (type_of : A → ExternalType ℕ) (origin : List ℕ) (all : List A) (old now : Context) (had has : List Imported) (left : Left)
    → NamesStand item_at name_of type_of origin all old now had has left → IsEmpty left → has ≡ with_imports had (next_imports old origin (map name_of all) (map type_of all))
names_end {A = A} item_at name_of type_of origin all old now had has left s empty =
    let none : [] ≡ s.rest = some_is [] s.rest (sym (none_left (λ features. item_at) left empty) ∙ s.reads) in
    subst (λ (xs : List A). with_imports has (next_imports now origin (map name_of xs) (map type_of xs)) ≡ with_imports had (next_imports old origin (map name_of all) (map type_of all))) (sym none) s.named

-- one import more from the module of a number
pub named_on : (kept new : Kept) (modules : List (List ℕ)) (cx : Context) (origin : ℕ) (name : List ℕ) (type : ExternalType ℕ)
    → new ≡ record kept { imports = with_import kept.imports (next_import cx (module_at kept.modules origin) name type) } → kept.modules ≡ modules
    → (new.modules ≡ modules) × (new.imports ≡ with_import kept.imports (next_import cx (module_at modules origin) name type))
named_on kept new modules cx origin name type named known =
    (ap (λ (k : Kept). k.modules) named ∙ known, ap (λ (k : Kept). k.imports) named ∙ ap (λ (m : List (List ℕ)). with_import kept.imports (next_import cx (module_at m origin) name type)) known)

pub themselves : (names : List (List ℕ)) → map (λ name. name) names ≡ names
themselves [] = refl
themselves (name ∷ names) = ap (λ others. name ∷ others) (themselves names)

-- those of a group whose imports have one type
pub all_names_end : (type : ExternalType ℕ) (origin : List ℕ) (all : List (List ℕ)) (old now : Context) (had has : List Imported) (left : Left)
    → NamesStand name_at (λ name. name) (λ name. type) origin all old now had has left → IsEmpty left → has ≡ with_imports had (next_imports old origin all (map (λ name. type) all))
all_names_end type origin all old now had has left s empty =
    subst (λ names. has ≡ with_imports had (next_imports old origin names (map (λ name. type) all))) (themselves all) (names_end name_at (λ name. name) (λ name. type) origin all old now had has left s empty)
