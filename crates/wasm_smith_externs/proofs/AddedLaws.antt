-- Imports that are added, one after the other.
use Rattle.std.proofs.Common.{◌≡◌, ℕ, ◌+◌, ◌<◌, ◌≤◌, true, List, [], ◌∷◌, ◌++◌, length, length-append, map, max, refl, ap, sym, ◌∙◌, inl, inr, ◌⊎◌, subst, arith}
use Rattle.std.specs.List.{AllByRecursion}
use Rattle.std.proofs.lemmas.Bool.{and_from, and_parts}
use Rattle.std.proofs.lemmas.List.{map-append}
use Rattle.std.proofs.lemmas.List.Sums.{sum_by-append}
use Rattle.wasm_spec.specs.Features.{Features}
use Rattle.wasm_spec.specs.Types.{SubType, ExternalType, FuncExternal, TableExternal, MemoryExternal, GlobalExternal, TagExternal, ExternalKind, FuncKind, TableKind, MemoryKind, GlobalKind, TagKind, kind_of}
use Rattle.wasm_smith_config.specs.Config.{AreFeaturesOf}
use Rattle.wasm_smith_config.specs.declared.config.Config.{Config}
use Rattle.wasm_smith_definitions.specs.Kinds.{count_of}
use Rattle.wasm_smith_types.proofs.ListLaws.{all_append}
use Rattle.wasm_smith_validity.specs.Rules.{keep_items, keeps_item}
use Rattle.wasm_smith_validity.specs.Spaces.{Spaces, with_item, with_items}
use Rattle.wasm_smith_externs.proofs.NamedLaws.{more_names, no_names, none_distinct, one_distinct}
use Rattle.wasm_smith_externs.specs.Added.{AreAdded, IsAdded, IsLast}
use Rattle.wasm_smith_externs.specs.Bounds.{most_in}
use Rattle.wasm_smith_externs.specs.Candidates.{HasLarger, IsOfferedImport, type_size, type_sizes}
use Rattle.wasm_smith_externs.specs.Named.{HasPlainName, IsShortlyNamed, Named, named, types_of}
use Rattle.wasm_smith_externs.specs.Names.{IsDrawnName}
use Rattle.wasm_smith_externs.specs.declared.bounds.ImportBounds.{ImportBounds}
use Rattle.wasm_smith_externs.specs.declared.names.DuplicateImportsBehavior.TheVariants.{Allowed}
use Rattle.wasm_smith_externs.specs.declared.progress.Progress.{Progress}

-- ---- spaces

pub items_keep_types : (k : Spaces) (item : ExternalType ℕ) → (with_item k item).types ≡ k.types
items_keep_types k (FuncExternal function) = refl
items_keep_types k (TableExternal type) = refl
items_keep_types k (MemoryExternal type) = refl
items_keep_types k (GlobalExternal type) = refl
items_keep_types k (TagExternal function) = refl

pub all_keep_types : (k : Spaces) (items : List (ExternalType ℕ)) → (with_items k items).types ≡ k.types
all_keep_types k [] = refl
all_keep_types k (item ∷ items) = all_keep_types (with_item k item) items ∙ items_keep_types k item

pub with_more : (k : Spaces) (xs ys : List (ExternalType ℕ)) → with_items k (xs ++ ys) ≡ with_items (with_items k xs) ys
with_more k [] ys = refl
with_more k (x ∷ xs) ys = with_more (with_item k x) xs ys

pub keep_more : (features : Features) (k : Spaces) (xs ys : List (ExternalType ℕ)) → keep_items features k xs ≡ true → keep_items features (with_items k xs) ys ≡ true → keep_items features k (xs ++ ys) ≡ true
keep_more features k [] ys h g = g
keep_more features k (x ∷ xs) ys h g =
    let parts = and_parts (keeps_item features k x) (keep_items features (with_item k x) xs) h in
    and_from (keeps_item features k x) (keep_items features (with_item k x) (xs ++ ys)) parts.0 (keep_more features (with_item k x) xs ys parts.1 g)

-- one more of a kind that has room
pub room_after : (b : ImportBounds) (k : Spaces) (item : ExternalType ℕ) → count_of k (kind_of item) < most_in b (kind_of item) → (kind : ExternalKind) → count_of (with_item k item) kind ≤ max (most_in b kind) (count_of k kind)
room_after b k (FuncExternal x) room FuncKind = omega (arith, room, length-append k.imported_functions k.own_functions, length-append (k.imported_functions ++ x ∷ []) k.own_functions, length-append k.imported_functions (x ∷ []))
room_after b k (FuncExternal x) room TableKind = omega arith
room_after b k (FuncExternal x) room MemoryKind = omega arith
room_after b k (FuncExternal x) room GlobalKind = omega arith
room_after b k (FuncExternal x) room TagKind = omega arith
room_after b k (TableExternal x) room FuncKind = omega arith
room_after b k (TableExternal x) room TableKind = omega (arith, room, length-append k.tables (x ∷ []))
room_after b k (TableExternal x) room MemoryKind = omega arith
room_after b k (TableExternal x) room GlobalKind = omega arith
room_after b k (TableExternal x) room TagKind = omega arith
room_after b k (MemoryExternal x) room FuncKind = omega arith
room_after b k (MemoryExternal x) room TableKind = omega arith
room_after b k (MemoryExternal x) room MemoryKind = omega (arith, room, length-append k.memories (x ∷ []))
room_after b k (MemoryExternal x) room GlobalKind = omega arith
room_after b k (MemoryExternal x) room TagKind = omega arith
room_after b k (GlobalExternal x) room FuncKind = omega arith
room_after b k (GlobalExternal x) room TableKind = omega arith
room_after b k (GlobalExternal x) room MemoryKind = omega arith
room_after b k (GlobalExternal x) room GlobalKind = omega (arith, room, length-append k.imported_globals k.own_globals, length-append (k.imported_globals ++ x ∷ []) k.own_globals, length-append k.imported_globals (x ∷ []))
room_after b k (GlobalExternal x) room TagKind = omega arith
room_after b k (TagExternal x) room FuncKind = omega arith
room_after b k (TagExternal x) room TableKind = omega arith
room_after b k (TagExternal x) room MemoryKind = omega arith
room_after b k (TagExternal x) room GlobalKind = omega arith
room_after b k (TagExternal x) room TagKind = omega (arith, room, length-append k.tags (x ∷ []))

-- ---- adding

pub none_added : (c : Config) (b : ImportBounds) (k : Spaces) (p : Progress) → AreAdded c b k k p p []
none_added c b k p = record {
  keep = λ features f. refl;
  spaces = refl;
  offered = tt;
  room = λ kind. omega arith;
  count = omega arith;
  left = omega arith;
  stopped = inl refl;
  size = omega arith;
  names = no_names p.names;
  short = tt;
  plain = λ _. tt;
}

stopped_more : (c : Config) (types : List (SubType ℕ)) (p q r : Progress) (sizes : ℕ) → sizes + r.size_left ≡ q.size_left
    → (q.count + q.left ≡ p.count + p.left) ⊎ HasLarger c types q.size_left → (r.count + r.left ≡ q.count + q.left) ⊎ HasLarger c types r.size_left → (r.count + r.left ≡ p.count + p.left) ⊎ HasLarger c types r.size_left
stopped_more c types p q r sizes later first more = elim more [
  | inl same_then ↦ elim first [
    | inl same_first ↦ inl (same_then ∙ same_first)
    | inr h ↦ inr (record { item = h.item; offered = h.offered; larger = let larger = h.larger in omega (arith, larger, later) })
  ]
  | inr h ↦ inr h
]

pub more_added : (c : Config) (b : ImportBounds) (k m n : Spaces) (p q r : Progress) (xs ys : List Named) → AreAdded c b k m p q xs → AreAdded c b m n q r ys → AreAdded c b k n p r (xs ++ ys)
more_added c b k m n p q r xs ys h g =
    let types : types_of (xs ++ ys) ≡ types_of xs ++ types_of ys = map-append (λ (x : Named). x.type) xs ys in
    let same_types : m.types ≡ k.types = ap (λ (s : Spaces). s.types) h.spaces ∙ all_keep_types k (types_of xs) in
    record {
      keep = λ features f. rw types (keep_more features k (types_of xs) (types_of ys) (h.keep features f) (subst (λ s. keep_items features s (types_of ys) ≡ true) h.spaces (g.keep features f)));
      spaces = g.spaces ∙ ap (λ s. with_items s (types_of ys)) h.spaces ∙ sym (ap (with_items k) types ∙ with_more k (types_of xs) (types_of ys));
      offered = rw types (all_append (IsOfferedImport c k.types) (types_of xs) (types_of ys) h.offered (subst (λ ts. AllByRecursion (IsOfferedImport c ts) (types_of ys)) same_types g.offered));
      room = λ kind. omega (arith, h.room kind, g.room kind);
      count = omega (arith, h.count, g.count, length-append xs ys);
      left = omega (arith, h.left, g.left, length-append xs ys);
      stopped =
          let later : type_sizes k.types (types_of ys) + r.size_left ≡ q.size_left = subst (λ ts. type_sizes ts (types_of ys) + r.size_left ≡ q.size_left) same_types g.size in
          stopped_more c k.types p q r (type_sizes k.types (types_of ys)) later h.stopped (subst (λ ts. (r.count + r.left ≡ q.count + q.left) ⊎ HasLarger c ts r.size_left) same_types g.stopped);
      size =
          let all : type_sizes k.types (types_of (xs ++ ys)) ≡ type_sizes k.types (types_of xs) + type_sizes k.types (types_of ys) = ap (type_sizes k.types) types ∙ sum_by-append (type_size k.types) (types_of xs) (types_of ys) in
          let later : type_sizes k.types (types_of ys) + r.size_left ≡ q.size_left = subst (λ ts. type_sizes ts (types_of ys) + r.size_left ≡ q.size_left) same_types g.size in
          omega (arith, all, later, h.size);
      names = more_names p.names q.names r.names xs ys h.names g.names;
      short = all_append IsShortlyNamed xs ys h.short g.short;
      plain = λ e. all_append HasPlainName xs ys (h.plain e) (g.plain (h.names.duplicates ∙ e));
    }

-- no import is added, and none comes after it, though a name may have been drawn
pub last_added : (c : Config) (b : ImportBounds) (k n : Spaces) (p q r : Progress) (origin : List ℕ) (type : ExternalType ℕ) (name : List ℕ) → IsOfferedImport c k.types type → q.count ≡ p.count → q.left ≡ p.left → q.size_left ≡ p.size_left → IsDrawnName p.names q.names origin name → IsLast k n q r type → AreAdded c b k n p r []
last_added c b k n p q r origin type name offered count left size drawn h = record {
  keep = λ features f. refl;
  spaces = h.spaces;
  offered = tt;
  room = λ kind. rw h.spaces (omega arith);
  count = omega (arith, h.count, count);
  left = omega (arith, h.left);
  stopped = inr (record { item = type; offered = offered; larger = let larger = h.large in omega (arith, larger, h.size) });
  size = omega (arith, h.size, size);
  names = rw h.names (record { duplicates = drawn.duplicates; stay = drawn.stay; unused = λ _. tt; used = λ _. tt; distinct = λ _. none_distinct });
  short = tt;
  plain = λ _. tt;
}

pub one_added : (c : Config) (b : ImportBounds) (k n : Spaces) (p q r : Progress) (origin : List ℕ) (type : ExternalType ℕ) (name : List ℕ) → q.count ≡ p.count → q.left ≡ p.left → q.size_left ≡ p.size_left
    → IsDrawnName p.names q.names origin name → length origin ≤ 1000 → length name ≤ 1020 → (p.names.duplicates ≡ Allowed → length name ≤ 1000)
    → ((features : Features) → AreFeaturesOf c features → keeps_item features k type ≡ true) → IsOfferedImport c k.types type → count_of k (kind_of type) < most_in b (kind_of type)
    → IsAdded k n q r type → AreAdded c b k n p r (named origin type name ∷ [])
one_added c b k n p q r origin type name count left size drawn of name_short name_plain keeps offered room h = record {
  keep = λ features f. and_from (keeps_item features k type) true (keeps features f) refl;
  spaces = h.spaces;
  offered = (offered, tt);
  room = λ kind. rw h.spaces (room_after b k type room kind);
  count = omega (arith, h.count, count);
  left = omega (arith, h.left, left);
  stopped = inl (omega (arith, h.count, count, h.left, left));
  size = let one : type_sizes k.types (type ∷ []) ≡ type_size k.types type = omega arith in omega (arith, one, h.size, size);
  names = rw h.names (record {
    duplicates = drawn.duplicates;
    stay = drawn.stay;
    unused = λ d. (drawn.unused d, tt);
    used = λ d. (drawn.used d, tt);
    distinct = λ d. one_distinct (named origin type name);
  });
  short = (record { origin = of; name = name_short }, tt);
  plain = λ e. (name_plain e, tt);
}

-- ---- lists of what is drawn

pub types_kept : (c : Config) (b : ImportBounds) (k n : Spaces) (p q : Progress) (xs : List Named) → AreAdded c b k n p q xs → n.types ≡ k.types
types_kept c b k n p q xs h = ap (λ (s : Spaces). s.types) h.spaces ∙ all_keep_types k (types_of xs)

maps_append : {A B C : Type 0} (f : B → C) (g : A → B) (xs ys : List A) → map f (map g (xs ++ ys)) ≡ map f (map g xs) ++ map f (map g ys)
maps_append f g xs ys = ap (map f) (map-append g xs ys) ∙ map-append f (map g xs) (map g ys)

pub more_mapped : {A B : Type 0} (f : B → Named) (g : A → B) (c : Config) (b : ImportBounds) (k m n : Spaces) (p q r : Progress) (xs ys zs : List A) → zs ≡ xs ++ ys
    → AreAdded c b k m p q (map f (map g xs)) → AreAdded c b m n q r (map f (map g ys)) → AreAdded c b k n p r (map f (map g zs))
more_mapped f g c b k m n p q r xs ys zs e h next =
    subst (AreAdded c b k n p r) (sym (ap (λ l. map f (map g l)) e ∙ maps_append f g xs ys)) (more_added c b k m n p q r (map f (map g xs)) (map f (map g ys)) h next)
