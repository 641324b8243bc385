-- Judging the imports of a group one by one, as they are read, is judging all of them.
use Rattle.std.proofs.Common.{◌≡◌, ◌⊎◌, inl, inr, ◌<◌, ℕ, Bool, true, false, List, [], ◌∷◌, ◌++◌, length, map, Some, refl, sym, subst, ◌∙◌}
use Rattle.std.specs.Prelude.{not, ◌&&◌}
use Rattle.std.proofs.lemmas.Bool.{and_parts}
use Rattle.std.proofs.lemmas.List.{append-nil}
use Rattle.std.proofs.lemmas.List.Folds.{list_all-append}
use Rattle.std.specs.List.{AllByRecursion, list_all}
use Rattle.wasm_core_types.specs.Limits as core
use Rattle.wasm_core_read.specs.Reading.{ReadingOf, name_at}
use Rattle.wasm_core_read.proofs.Forms.{some_is}
use Rattle.wasm_spec.specs.Features.{Features}
use Rattle.wasm_spec.specs.Limits.{Limit, Name}
use Rattle.wasm_spec.specs.Syntax.{ImportItem}
use Rattle.wasm_spec.specs.Types.{ExternalType, FuncExternal, TableExternal, MemoryExternal, GlobalExternal, TagExternal}
use Rattle.wasm_validity.specs.Context.{Context, after_item, after_items}
use Rattle.wasm_validity.specs.Rules.{keeps_item, keep_items, item_measures, items_measures, name_measures, Passes, are_within, is_past}
use Rattle.wasmparser_error.specs.declared.error.Error.{Error}
use Rattle.wasmparser_error.specs.declared.error.ErrorKind.{ErrorKind}
use Rattle.wasmparser_error.specs.declared.error.ErrorKind.TheVariants as kinds
use Rattle.wasmparser_entries.specs.ImportItems.{items_refs}
use Rattle.wasmparser_readers.specs.ItemTypes.{packed_refs}
use Rattle.wasmparser_readers.specs.Sections.{Left, left_items, IsEmpty, IsNext, IsNextRefusal}
use Rattle.wasmparser_readers.proofs.SectionLaws.{none_left}
use Rattle.wasmparser_types.specs.Index.{packable}
use Rattle.wasmparser_module_state.specs.Items.{AcceptsItems, NamesItems, named_measures}
use Rattle.wasmparser_module_state.specs.Judging.{HasItemsMore}
use Rattle.wasmparser_module_state.proofs.NamedImports.{themselves}
use Rattle.wasmparser_module_state.proofs.ImportLaws.{passes_first, passes_later}
use Rattle.wasmparser_module_state.proofs.ReadItems.{HaveSmall, no_indexes, none_large, read_again, split}

-- ---- what was added tells what is left

-- Some imports were added, and these are left: they tell as much as all did.
pub record AreAdded (features : Features) (old now : Context) (names : List (List ℕ)) (types : List (ExternalType ℕ)) (names_left : List (List ℕ)) (types_left : List (ExternalType ℕ)) : Type 0 where
  pub rules : keep_items features old types ≡ keep_items features now types_left
  pub limits : are_within (named_measures old names types) ≡ are_within (named_measures now names_left types_left)
  pub past : (limit : Limit) → Passes limit (named_measures now names_left types_left) → Passes limit (named_measures old names types)
  pub known : after_items old types ≡ after_items now types_left
  pub more : HasItemsMore old now

none_added : (features : Features) (old : Context) (names : List (List ℕ)) (types : List (ExternalType ℕ)) → AreAdded features old old names types names types
none_added features old names types = record { rules = refl; limits = refl; past = λ limit p. p; known = refl; more = refl }

-- what was added further on was added
items_more : (old now : Context) (type : ExternalType ℕ) → HasItemsMore old now → HasItemsMore old (after_item now type)
items_more old now (FuncExternal function) more = rw more refl
items_more old now (TableExternal type) more = rw more refl
items_more old now (MemoryExternal type) more = rw more refl
items_more old now (GlobalExternal type) more = rw more refl
items_more old now (TagExternal function) more = rw more refl

-- one item keeps its rule, so that what is asked of it and others is what is asked of the others
rule_of_others : (features : Features) (cx : Context) (type : ExternalType ℕ) (types : List (ExternalType ℕ)) → keep_items features cx (type ∷ []) ≡ true
    → keep_items features cx (type ∷ types) ≡ keep_items features (after_item cx type) types
rule_of_others features cx type types e = let keeps = (and_parts (keeps_item features cx type) true e).0 in rw keeps refl

limits_of_others : (cx : Context) (name : List ℕ) (type : ExternalType ℕ) (names : List (List ℕ)) (types : List (ExternalType ℕ)) → are_within (named_measures cx (name ∷ []) (type ∷ [])) ≡ true
    → are_within (named_measures cx (name ∷ names) (type ∷ types)) ≡ are_within (named_measures (after_item cx type) names types)
limits_of_others cx name type names types e =
    let test : Limit × ℕ → Bool = λ m. not (is_past m.0 m.1) in
    let one = and_parts (test (Name, length name)) (list_all test (item_measures cx type ++ [])) e in
    let item = (and_parts (list_all test (item_measures cx type)) true (sym (list_all-append test (item_measures cx type) []) ∙ one.1)).0 in
    rw (one.0, list_all-append test (name_measures names) (item_measures cx type ++ items_measures (after_item cx type) types), list_all-append test (item_measures cx type) (items_measures (after_item cx type) types), item)
    (sym (list_all-append test (name_measures names) (items_measures (after_item cx type) types)))

past_of_others : (limit : Limit) (cx : Context) (name : List ℕ) (type : ExternalType ℕ) (names : List (List ℕ)) (types : List (ExternalType ℕ)) → Passes limit (named_measures (after_item cx type) names types)
    → Passes limit (named_measures cx (name ∷ names) (type ∷ types))
past_of_others limit cx name type names types p = inr (by_part (parts limit (name_measures names) (items_measures (after_item cx type) types) p))
  where
    parts : (limit : Limit) (ms ns : List (Limit × ℕ)) → Passes limit (ms ++ ns) → Passes limit ms ⊎ Passes limit ns
    parts limit [] ns p = inr p
    parts limit (m ∷ ms) ns (inl p) = inl (inl p)
    parts limit (m ∷ ms) ns (inr p) = elim (parts limit ms ns p) [ inl q ↦ inl (inr q) | inr q ↦ inr q ]

    by_part : Passes limit (name_measures names) ⊎ Passes limit (items_measures (after_item cx type) types) → Passes limit (name_measures names ++ (item_measures cx type ++ items_measures (after_item cx type) types))
    by_part (inl q) = passes_first limit (name_measures names) (item_measures cx type ++ items_measures (after_item cx type) types) q
    by_part (inr q) = passes_later limit (name_measures names) (item_measures cx type ++ items_measures (after_item cx type) types) (passes_later limit (item_measures cx type) (items_measures (after_item cx type) types) q)

one_added : (features : Features) (old now new : Context) (all_names names : List (List ℕ)) (all_types types : List (ExternalType ℕ)) (name : List ℕ) (type : ExternalType ℕ) → AreAdded features old now all_names all_types (name ∷ names) (type ∷ types)
    → AcceptsItems features now (type ∷ []) (named_measures now (name ∷ []) (type ∷ [])) new → AreAdded features old new all_names all_types names types
one_added features old now new all_names names all_types types name type a accepts =
    subst (λ (cx : Context). AreAdded features old cx all_names all_types names types) (sym accepts.known) (record {
      rules = a.rules ∙ rule_of_others features now type types accepts.rules;
      limits = a.limits ∙ limits_of_others now name type names types accepts.limits;
      past = λ limit p. a.past limit (past_of_others limit now name type names types p);
      known = a.known;
      more = items_more old now type a.more;
    })

-- what refuses one of them refuses them all
one_refused : (features : Features) (old now : Context) (all_names names : List (List ℕ)) (all_types types : List (ExternalType ℕ)) (name : List ℕ) (type : ExternalType ℕ) (kind : ErrorKind) → AreAdded features old now all_names all_types (name ∷ names) (type ∷ types)
    → NamesItems features now (type ∷ []) (named_measures now (name ∷ []) (type ∷ [])) kind → NamesItems features old all_types (named_measures old all_names all_types) kind
one_refused features old now all_names names all_types types name type kinds.Invalid a h = a.rules ∙ by_rule (keeps_item features now type) refl h
  where
    by_rule : (b : Bool) → keeps_item features now type ≡ b → (b && true) ≡ false → keep_items features now (type ∷ types) ≡ false
    by_rule true e h = absurd cc
    by_rule false e h = rw e refl
one_refused features old now all_names names all_types types name type (kinds.Limit l) a h = a.past (core.limit l) (by_part h)
  where
    by_part : Passes (core.limit l) (named_measures now (name ∷ []) (type ∷ [])) → Passes (core.limit l) (named_measures now (name ∷ names) (type ∷ types))
    by_part (inl p) = inl p
    by_part (inr p) =
        let item : Passes (core.limit l) (item_measures now type) = subst (Passes (core.limit l)) (append-nil (item_measures now type)) p in
        inr (passes_later (core.limit l) (name_measures names) (item_measures now type ++ items_measures (after_item now type) types) (passes_first (core.limit l) (item_measures now type) (items_measures (after_item now type) types) item))
one_refused features old now all_names names all_types types name type kinds.Memory a h = tt
one_refused features old now all_names names all_types types name type kinds.Malformed a h = absurd h
one_refused features old now all_names names all_types types name type kinds.Operator a h = absurd h
one_refused features old now all_names names all_types types name type kinds.Body a h = absurd h
one_refused features old now all_names names all_types types name type kinds.Total a h = absurd h
one_refused features old now all_names names all_types types name type kinds.Order a h = absurd h
one_refused features old now all_names names all_types types name type kinds.Failed a h = absurd h

-- ---- the items of a group's reader

-- Some items of a group were read and added, and the others are left.
pub record Standing {A : Type 0} (features : Features) (item_at : ReadingOf A) (indexes : A → List ℕ) (name_of : A → List ℕ) (type_of : A → ExternalType ℕ) (all : List A) (old now : Context) (left : Left) : Type 0 where
  pub rest : List A
  pub reads : left_items (λ features. item_at) left ≡ Some rest
  pub small : HaveSmall indexes rest
  pub added : AreAdded features old now (map name_of all) (map type_of all) (map name_of rest) (map type_of rest)

pub begins : {A : Type 0} (features : Features) (item_at : ReadingOf A) (indexes : A → List ℕ) (name_of : A → List ℕ) (type_of : A → ExternalType ℕ) (all : List A) (old : Context) (left : Left)
    → left_items (λ features. item_at) left ≡ Some all → HaveSmall indexes all → Standing features item_at indexes name_of type_of all old old left
begins features item_at indexes name_of type_of all old left reads small = record { rest = all; reads = reads; small = small; added = none_added features old (map name_of all) (map type_of all) }

pub goes_on : {A : Type 0} (features : Features) (item_at : ReadingOf A) (indexes : A → List ℕ) (name_of : A → List ℕ) (type_of : A → ExternalType ℕ) (all : List A) (old now new : Context) (left next : Left) (offset : ℕ) (item : A)
    → Standing features item_at indexes name_of type_of all old now left → IsNext (λ features. item_at) left next offset item
    → AcceptsItems features now (type_of item ∷ []) (named_measures now (name_of item ∷ []) (type_of item ∷ [])) new → Standing features item_at indexes name_of type_of all old new next
goes_on {A = A} features item_at indexes name_of type_of all old now new left next offset item s h accepts =
    let p = split item_at left next offset item s.rest s.reads h in
    let small : HaveSmall indexes (item ∷ p.others) = subst (HaveSmall indexes) p.is s.small in
    let added = subst (λ (xs : List A). AreAdded features old now (map name_of all) (map type_of all) (map name_of xs) (map type_of xs)) p.is s.added in
    record {
      rest = p.others;
      reads = p.reads;
      small = small.1;
      added = one_added features old now new (map name_of all) (map name_of p.others) (map type_of all) (map type_of p.others) (name_of item) (type_of item) added accepts;
    }

pub refused : {A : Type 0} (features : Features) (item_at : ReadingOf A) (indexes : A → List ℕ) (name_of : A → List ℕ) (type_of : A → ExternalType ℕ) (all : List A) (old now : Context) (left next : Left) (offset : ℕ) (item : A) (kind : ErrorKind)
    → Standing features item_at indexes name_of type_of all old now left → IsNext (λ features. item_at) left next offset item
    → NamesItems features now (type_of item ∷ []) (named_measures now (name_of item ∷ []) (type_of item ∷ [])) kind → NamesItems features old (map type_of all) (named_measures old (map name_of all) (map type_of all)) kind
refused {A = A} features item_at indexes name_of type_of all old now left next offset item kind s h names =
    let p = split item_at left next offset item s.rest s.reads h in
    let added = subst (λ (xs : List A). AreAdded features old now (map name_of all) (map type_of all) (map name_of xs) (map type_of xs)) p.is s.added in
    one_refused features old now (map name_of all) (map name_of p.others) (map type_of all) (map type_of p.others) (name_of item) (type_of item) kind added names

pub ended : {A : Type 0} (features : Features) (item_at : ReadingOf A) (indexes : A → List ℕ) (name_of : A → List ℕ) (type_of : A → ExternalType ℕ) (all : List A) (old now : Context) (left : Left)
    → Standing features item_at indexes name_of type_of all old now left → IsEmpty left → AcceptsItems features old (map type_of all) (named_measures old (map name_of all) (map type_of all)) now
ended {A = A} features item_at indexes name_of type_of all old now left s empty =
    let none : [] ≡ s.rest = some_is [] s.rest (sym (none_left (λ features. item_at) left empty) ∙ s.reads) in
    let a = subst (λ (xs : List A). AreAdded features old now (map name_of all) (map type_of all) (map name_of xs) (map type_of xs)) (sym none) s.added in
    record { rules = a.rules; limits = a.limits; known = sym a.known }

-- a refused item adds nothing to those that stand
pub stays : {A : Type 0} (features : Features) (item_at : ReadingOf A) (indexes : A → List ℕ) (name_of : A → List ℕ) (type_of : A → ExternalType ℕ) (all : List A) (old now new : Context) (left : Left)
    → Standing features item_at indexes name_of type_of all old now left → new ≡ now → HasItemsMore old new
stays features item_at indexes name_of type_of all old now new left s same = subst (HasItemsMore old) (sym same) s.added.more

-- the items of a group have read before, so that none is refused as one that doesn't
pub never_refused : {A : Type 0} (features : Features) (item_at : ReadingOf A) (indexes : A → List ℕ) (name_of : A → List ℕ) (type_of : A → ExternalType ℕ) (all : List A) (old now : Context) (left : Left) (e : Error)
    → Standing features item_at indexes name_of type_of all old now left → IsNextRefusal ⊥ indexes (λ features. item_at) left e → ⊥
never_refused features item_at indexes name_of type_of all old now left e s h = read_again item_at indexes left s.rest e s.reads s.small h

-- ---- small indexes

all_parts : (P : ℕ → Type 0) (xs ys : List ℕ) → AllByRecursion P (xs ++ ys) → AllByRecursion P xs × AllByRecursion P ys
all_parts P [] ys all = (tt, all)
all_parts P (x ∷ xs) ys all = let others = all_parts P xs ys all.1 in ((all.0, others.0), others.1)

pub small_items : (items : List ImportItem) → AllByRecursion (λ n. n < packable) (items_refs items) → HaveSmall (λ item. packed_refs item.type) items
small_items [] all = tt
small_items (item ∷ items) all =
    let parts = all_parts (λ n. n < packable) (packed_refs item.type) (items_refs items) all in
    (none_large (packed_refs item.type) parts.0, small_items items parts.1)

pub small_names : (names : List (List ℕ)) → HaveSmall (λ name. []) names
small_names names = no_indexes names

-- ---- names of one type

-- of names that have read, which stand for themselves
abbrev pub NamesStanding : Features → ExternalType ℕ → List (List ℕ) → Context → Context → Left → Type 0
NamesStanding features type all old now left = Standing features name_at (λ name. []) (λ name. name) (λ name. type) all old now left

pub names_ended : (features : Features) (type : ExternalType ℕ) (all : List (List ℕ)) (old now : Context) (left : Left) → NamesStanding features type all old now left → IsEmpty left
    → AcceptsItems features old (map (λ name. type) all) (named_measures old all (map (λ name. type) all)) now
names_ended features type all old now left s empty =
    subst (λ names. AcceptsItems features old (map (λ name. type) all) (named_measures old names (map (λ name. type) all)) now) (themselves all)
    (ended features name_at (λ name. []) (λ name. name) (λ name. type) all old now left s empty)

pub names_refused : (features : Features) (type : ExternalType ℕ) (all : List (List ℕ)) (old now : Context) (left next : Left) (offset : ℕ) (name : List ℕ) (kind : ErrorKind)
    → NamesStanding features type all old now left → IsNext (λ features. name_at) left next offset name → NamesItems features now (type ∷ []) (named_measures now (name ∷ []) (type ∷ [])) kind
    → NamesItems features old (map (λ name. type) all) (named_measures old all (map (λ name. type) all)) kind
names_refused features type all old now left next offset name kind s h names =
    subst (λ ns. NamesItems features old (map (λ name. type) all) (named_measures old ns (map (λ name. type) all)) kind) (themselves all)
    (refused features name_at (λ name. []) (λ name. name) (λ name. type) all old now left next offset name kind s h names)
