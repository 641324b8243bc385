-- The exports of a shape name the items that are made for them, and keep their rules.
use Rattle.std.specs.Prelude.{bytes_eq}
use Rattle.std.proofs.Common.{◌≡◌, ℕ, zero, suc, ◌+◌, ◌<◌, ◌≤◌, ◌^◌, Bool, true, false, not, ◌||◌, List, [], ◌∷◌, ◌++◌, length, map, drop, get_or, append_assoc, refl, ap, sym, ◌∙◌, subst, if◌then◌else◌, arith, Option, Some, slice_get}
use Rattle.std.specs.List.{AllByRecursion, IsDistinct, filter, list_any}
use Rattle.std.proofs.lemmas.Bool.{and_from}
use Rattle.std.proofs.Math.Seq.{drop-append_seam}
use Rattle.std.proofs.lemmas.List.{append-nil, drop_more, map_push}
use Rattle.wasm_spec.specs.Features.{Features}
use Rattle.wasm_spec.specs.Syntax.{Export}
use Rattle.wasm_spec.specs.TypeReferences.{external_map}
use Rattle.wasm_spec.specs.Types.{ExternalKind, FuncKind, TableKind, MemoryKind, GlobalKind, TagKind, ExternalType, FuncExternal, TableExternal, MemoryExternal, GlobalExternal, TagExternal, kind_of}
use Rattle.wasm_validity.specs.Context.{names_of}
use Rattle.wasm_validity.specs.Rules.{may_leave}
use Rattle.wasm_smith_config.specs.Config.{AreFeaturesOf}
use Rattle.wasm_smith_config.specs.declared.config.Config.{Config}
use Rattle.wasm_smith_definitions.proofs.SpaceLaws.{got_mapped}
use Rattle.wasm_smith_definitions.specs.Kinds.{count_of, of_export}
use Rattle.wasm_smith_definitions.specs.OwnItems.{functions_in, tables_in, memories_in, globals_in, tags_in}
use Rattle.wasm_smith_definitions.specs.Steps.{IsStep}
use Rattle.wasm_smith_shapes.specs.Shapes.{NamedItem}
use Rattle.wasm_smith_types.proofs.GroupDraws.{any_more}
use Rattle.wasm_smith_types.proofs.ListLaws.{all_imply}
use Rattle.wasm_smith_validity.specs.Rules.{KeepAll, item_at}
use Rattle.wasm_smith_validity.specs.Spaces.{Spaces, functions_of, globals_of, spaces_after, spaces_after_all}
use Rattle.wasm_smith_externs.proofs.ExportLaws.{bytes_alike}
use Rattle.wasm_smith_externs.specs.ShapeExports.{AreMadeFirst, BeginsWith, StandFrom, count_in, export_after, exports_after, how_many, is_kind, moved_types, named_in, shape_exports_from, with_one}
use Rattle.wasm_smith_externs.specs.declared.shape_exports.KindCounts.{KindCounts}

-- ---- one export after the other

filtered : {A : Type 0} (test : A → Bool) (xs : List A) (x : A) → length (filter test (xs ++ x ∷ [])) ≡ length (filter test xs) + length (filter test (x ∷ []))
filtered test [] x = omega arith
filtered test (y ∷ xs) x = go (test y) (filtered test xs x)
  where
    go : (b : Bool) → length (filter test (xs ++ x ∷ [])) ≡ length (filter test xs) + length (filter test (x ∷ []))
        → length (if b then y ∷ filter test (xs ++ x ∷ []) else filter test (xs ++ x ∷ [])) ≡ length (if b then y ∷ filter test xs else filter test xs) + length (filter test (x ∷ []))
    go true e = omega (arith, e)
    go false e = e

more_of : (kind : ExternalKind) (items : List NamedItem) (item : NamedItem) → how_many kind (items ++ item ∷ []) ≡ how_many kind items + how_many kind (item ∷ [])
more_of kind items item = filtered (λ (it : NamedItem). is_kind kind (kind_of it.type)) items item

-- so many items of each kind before some come to as many as others before others
abbrev AreAlike : KindCounts → List NamedItem → KindCounts → List NamedItem → Type 0
AreAlike a earlier b later = (kind : ExternalKind) → count_in a kind + how_many kind earlier ≡ count_in b kind + how_many kind later

alike : (a b : KindCounts) (earlier later items : List NamedItem) → AreAlike a earlier b later → exports_after a earlier items ≡ exports_after b later items
alike a b earlier later [] h = refl
alike a b earlier later (item ∷ items) h =
    ap (λ (index : ℕ). record { name = item.name; kind = kind_of item.type; index = index } ∷ exports_after a (earlier ++ item ∷ []) items) (h (kind_of item.type))
    ∙ ap (λ others. export_after b later item ∷ others)
    (alike a b (earlier ++ item ∷ []) (later ++ item ∷ []) items (λ kind. omega (arith, h kind, more_of kind earlier item, more_of kind later item)))

one_counted : (counts : KindCounts) (item : NamedItem) (one kind : ExternalKind)
    → count_in counts kind + length (if is_kind kind one then item ∷ [] else []) ≡ count_in (with_one counts one) kind + 0
one_counted counts item FuncKind FuncKind = omega arith
one_counted counts item TableKind TableKind = omega arith
one_counted counts item MemoryKind MemoryKind = omega arith
one_counted counts item GlobalKind GlobalKind = omega arith
one_counted counts item TagKind TagKind = omega arith
one_counted counts item FuncKind _ = omega arith
one_counted counts item TableKind _ = omega arith
one_counted counts item MemoryKind _ = omega arith
one_counted counts item GlobalKind _ = omega arith
one_counted counts item TagKind _ = omega arith

-- an export of the next item of its kind
abbrev pub next_export : KindCounts → NamedItem → Export
next_export counts item = record { name = item.name; kind = kind_of item.type; index = count_in counts (kind_of item.type) }

pub same_export : (counts : KindCounts) (item : NamedItem) (export : Export) → export.name ≡ item.name → export.kind ≡ kind_of item.type → export.index ≡ count_in counts export.kind
    → export ≡ next_export counts item
same_export counts item export name kind index =
    ap (λ (n : List ℕ). record export { name = n }) name
    ∙ ap (λ (i : ℕ). record { name = item.name; kind = export.kind; index = i }) index
    ∙ ap (λ (k : ExternalKind). record { name = item.name; kind = k; index = count_in counts k }) kind

pub exports_go_on : (counts : KindCounts) (item : NamedItem) (items : List NamedItem)
    → shape_exports_from counts (item ∷ items) ≡ next_export counts item ∷ shape_exports_from (with_one counts (kind_of item.type)) items
exports_go_on counts item items =
    let first : count_in counts (kind_of item.type) + 0 ≡ count_in counts (kind_of item.type) = omega arith in
    ap (λ (index : ℕ). record { name = item.name; kind = kind_of item.type; index = index } ∷ exports_after counts (item ∷ []) items) first
    ∙ ap (λ others. next_export counts item ∷ others) (alike counts (with_one counts (kind_of item.type)) (item ∷ []) [] items (one_counted counts item (kind_of item.type)))

one_at_most : (counts : KindCounts) (one kind : ExternalKind) → count_in (with_one counts one) kind ≤ count_in counts kind + 1
one_at_most counts FuncKind FuncKind = omega arith
one_at_most counts TableKind TableKind = omega arith
one_at_most counts MemoryKind MemoryKind = omega arith
one_at_most counts GlobalKind GlobalKind = omega arith
one_at_most counts TagKind TagKind = omega arith
one_at_most counts FuncKind _ = omega arith
one_at_most counts TableKind _ = omega arith
one_at_most counts MemoryKind _ = omega arith
one_at_most counts GlobalKind _ = omega arith
one_at_most counts TagKind _ = omega arith

-- the same, as a loop over a list sees it
module _ {X : Type 0} (view : X → NamedItem) (xs : List X) (i : ℕ) (x : X) (within : i < length xs) (is : x ≡ get_or xs i x) where
  left : drop i xs ≡ x ∷ drop (i + 1) xs
  left = drop_more xs i x within ∙ ap (λ y. y ∷ drop (i + 1) xs) (sym is)

  pub next_exported : (counts more : KindCounts) (kept all whole : List Export) (export : Export) → export ≡ next_export counts (view x) → more ≡ with_one counts (kind_of (view x).type) → all ≡ kept ++ export ∷ []
      → kept ++ shape_exports_from counts (map view (drop i xs)) ≡ whole → all ++ shape_exports_from more (map view (drop (i + 1) xs)) ≡ whole
  next_exported counts more kept all whole export is_next counted pushed before =
      let others = shape_exports_from (with_one counts (kind_of (view x).type)) (map view (drop (i + 1) xs)) in
      ap (λ exports. exports ++ shape_exports_from more (map view (drop (i + 1) xs))) pushed
      ∙ ap (λ one. (kept ++ export ∷ []) ++ shape_exports_from one (map view (drop (i + 1) xs))) counted
      ∙ append_assoc kept (export ∷ []) others
      ∙ ap (λ one. kept ++ one ∷ others) is_next
      ∙ ap (λ exports. kept ++ exports) (sym (exports_go_on counts (view x) (map view (drop (i + 1) xs))))
      ∙ ap (λ ys. kept ++ shape_exports_from counts (map view ys)) (sym left)
      ∙ before

  pub next_few : (counts more : KindCounts) (one : ExternalKind) → more ≡ with_one counts one → ((kind : ExternalKind) → count_in counts kind + length (drop i xs) < 2 ^ 32)
      → (kind : ExternalKind) → count_in more kind + length (drop (i + 1) xs) < 2 ^ 32
  next_few counts more one counted few kind =
      let same : count_in more kind ≡ count_in (with_one counts one) kind = ap (λ c. count_in c kind) counted in
      let count : length (drop i xs) ≡ length (drop (i + 1) xs) + 1 = ap length left ∙ omega arith in
      omega (arith, same, count, one_at_most counts one kind, few kind)

  pub room : (counts : KindCounts) (kind : ExternalKind) → ((kind : ExternalKind) → count_in counts kind + length (drop i xs) < 2 ^ 32) → count_in counts kind + 1 < 2 ^ 32
  room counts kind few =
      let count : length (drop i xs) ≡ length (drop (i + 1) xs) + 1 = ap length left ∙ omega arith in
      omega (arith, count, few kind)

-- ---- the exports name the items

drop_next : {A : Type 0} (xs : List A) (n : ℕ) (x : A) (rest : List A) → drop n xs ≡ x ∷ rest → drop (n + 1) xs ≡ rest
drop_next [] zero x rest e = absurd cc
drop_next [] (suc n) x rest e = absurd cc
drop_next (y ∷ xs) zero x rest e = cc
drop_next (y ∷ xs) (suc n) x rest e = let more : suc n + 1 ≡ suc (n + 1) = omega arith in ap (λ k. drop k (y ∷ xs)) more ∙ drop_next xs n x rest e

at_drop : {A : Type 0} (xs : List A) (n : ℕ) (x : A) (rest : List A) → drop n xs ≡ x ∷ rest → slice_get xs n ≡ Some x
at_drop [] zero x rest e = absurd cc
at_drop [] (suc n) x rest e = absurd cc
at_drop (y ∷ xs) zero x rest e = cc
at_drop (y ∷ xs) (suc n) x rest e = at_drop xs n x rest e

module _ {A : Type 0} (as_external : A → ExternalType ℕ) (xs : List A) (n : ℕ) (x : A) (front : List A) where
  first_at : BeginsWith (x ∷ front) (drop n xs) → slice_get (map as_external xs) n ≡ Some (as_external x)
  first_at h = rw (got_mapped as_external xs n, at_drop xs n x (front ++ h.0) h.1) refl

  others_after : BeginsWith (x ∷ front) (drop n xs) → BeginsWith front (drop (n + 1) xs)
  others_after h = (h.0, drop_next xs n x (front ++ h.0) h.1)

-- ---- where the items stand

behind : {A : Type 0} (xs ys zs : List A) (n : ℕ) → n ≡ length xs → BeginsWith (xs ++ ys) zs → BeginsWith ys (drop n zs)
behind xs ys zs n count h = (h.0, ap (λ k. drop k zs) count ∙ ap (drop (length xs)) (h.1 ∙ append_assoc xs ys h.0) ∙ drop-append_seam xs (ys ++ h.0))

-- items that are made first stand behind the items that there were
pub made_stand : (old new : Spaces) (before : KindCounts) (items : List (ExternalType ℕ)) → ((kind : ExternalKind) → count_in before kind ≡ count_of old kind) → AreMadeFirst old new items
    → StandFrom new before items
made_stand old new before items counted made = record {
  functions = behind (functions_of old) (functions_in items) (functions_of new) before.functions (counted FuncKind) made.functions;
  tables = behind old.tables (tables_in items) new.tables before.tables (counted TableKind) made.tables;
  memories = behind old.memories (memories_in items) new.memories before.memories (counted MemoryKind) made.memories;
  globals = behind (globals_of old) (globals_in items) (globals_of new) before.globals (counted GlobalKind) made.globals;
  tags = behind old.tags (tags_in items) new.tags before.tags (counted TagKind) made.tags;
}

-- the first of its kind
record IsFirst (spaces : Spaces) (before : KindCounts) (item : ExternalType ℕ) (items : List (ExternalType ℕ)) : Type 0 where
  there : item_at spaces (kind_of item) (count_in before (kind_of item)) ≡ Some item
  others : StandFrom spaces (with_one before (kind_of item)) items

first_stands : (spaces : Spaces) (before : KindCounts) (item : ExternalType ℕ) (items : List (ExternalType ℕ)) → StandFrom spaces before (item ∷ items) → IsFirst spaces before item items
first_stands spaces before (FuncExternal x) items h = record {
  there = first_at (λ x. FuncExternal x) (functions_of spaces) before.functions x _ h.functions;
  others = record { functions = others_after (λ x. FuncExternal x) (functions_of spaces) before.functions x _ h.functions; tables = h.tables; memories = h.memories; globals = h.globals; tags = h.tags };
}
first_stands spaces before (TableExternal x) items h = record {
  there = first_at (λ x. TableExternal x) spaces.tables before.tables x _ h.tables;
  others = record { functions = h.functions; tables = others_after (λ x. TableExternal x) spaces.tables before.tables x _ h.tables; memories = h.memories; globals = h.globals; tags = h.tags };
}
first_stands spaces before (MemoryExternal x) items h = record {
  there = first_at (λ x. MemoryExternal x) spaces.memories before.memories x _ h.memories;
  others = record { functions = h.functions; tables = h.tables; memories = others_after (λ x. MemoryExternal x) spaces.memories before.memories x _ h.memories; globals = h.globals; tags = h.tags };
}
first_stands spaces before (GlobalExternal x) items h = record {
  there = first_at (λ x. GlobalExternal x) (globals_of spaces) before.globals x _ h.globals;
  others = record { functions = h.functions; tables = h.tables; memories = h.memories; globals = others_after (λ x. GlobalExternal x) (globals_of spaces) before.globals x _ h.globals; tags = h.tags };
}
first_stands spaces before (TagExternal x) items h = record {
  there = first_at (λ x. TagExternal x) spaces.tags before.tags x _ h.tags;
  others = record { functions = h.functions; tables = h.tables; memories = h.memories; globals = h.globals; tags = others_after (λ x. TagExternal x) spaces.tags before.tags x _ h.tags };
}

kind_stays : (f : ℕ → ℕ) (type : ExternalType ℕ) → kind_of (external_map f type) ≡ kind_of type
kind_stays f (FuncExternal x) = refl
kind_stays f (TableExternal x) = refl
kind_stays f (MemoryExternal x) = refl
kind_stays f (GlobalExternal x) = refl
kind_stays f (TagExternal x) = refl

-- Each export names the item that is made for it, whose type is the one that is asked for, its references to types moved.
pub exports_named : (spaces : Spaces) (before : KindCounts) (f : ℕ → ℕ) (items : List NamedItem) → StandFrom spaces before (moved_types f items)
    → named_in spaces (shape_exports_from before items) ≡ map (λ type. Some type) (moved_types f items)
exports_named spaces before f [] h = refl
exports_named spaces before f (item ∷ items) h =
    let first = first_stands spaces before (external_map f item.type) (moved_types f items) h in
    let kind = kind_stays f item.type in
    let there : item_at spaces (kind_of item.type) (count_in before (kind_of item.type)) ≡ Some (external_map f item.type) = subst (λ k. item_at spaces k (count_in before k) ≡ Some (external_map f item.type)) kind first.there in
    let others : StandFrom spaces (with_one before (kind_of item.type)) (moved_types f items) = subst (λ k. StandFrom spaces (with_one before k) (moved_types f items)) kind first.others in
    ap (named_in spaces) (exports_go_on before item items)
    ∙ ap (λ (x : Option (ExternalType ℕ)). x ∷ named_in spaces (shape_exports_from (with_one before (kind_of item.type)) items)) there
    ∙ ap (λ xs. Some (external_map f item.type) ∷ xs) (exports_named spaces (with_one before (kind_of item.type)) f items others)

-- ---- the exports keep their rules

item_stays : (k : Spaces) (export : Export) (kind : ExternalKind) (index : ℕ) → item_at k kind index ≡ item_at (spaces_after k (of_export export)) kind index
item_stays k export FuncKind index = refl
item_stays k export TableKind index = refl
item_stays k export MemoryKind index = refl
item_stays k export GlobalKind index = refl
item_stays k export TagKind index = refl

-- the item may leave the module, if there is one
abbrev MayLeave : Features → Spaces → Export → Type 0
MayLeave features k export = may_leave features (item_at k export.kind export.index) ≡ true

-- no export has this name yet
abbrev IsNew : Spaces → Export → Type 0
IsNew k export = list_any (bytes_eq export.name) (names_of k.exports) ≡ false

still_new : (k : Spaces) (export other : Export) → IsNew k other → bytes_eq export.name other.name ≡ false → IsNew (spaces_after k (of_export export)) other
still_new k export other new apart =
    ap (list_any (bytes_eq other.name)) (map_push (λ (e : Export). e.name) k.exports export) ∙ any_more (bytes_eq other.name) (names_of k.exports) export.name
    ∙ ap (λ b. b || bytes_eq other.name export.name) new ∙ bytes_alike other.name export.name ∙ apart

all_new : (k : Spaces) (export : Export) (others : List Export) → AllByRecursion (IsNew k) others → AllByRecursion (λ name. bytes_eq export.name name ≡ false) (names_of others)
    → AllByRecursion (IsNew (spaces_after k (of_export export))) others
all_new k export [] new apart = tt
all_new k export (other ∷ others) new apart = (still_new k export other new.0 apart.0, all_new k export others new.1 apart.1)

all_keep : (features : Features) (k : Spaces) (exports : List Export) → AllByRecursion (MayLeave features k) exports → AllByRecursion (IsNew k) exports
    → IsDistinct bytes_eq (names_of exports) → KeepAll features k (map of_export exports)
unfolding IsDistinct
all_keep features k [] leave new distinct = tt
all_keep features k (export ∷ exports) leave new distinct =
    let after = spaces_after k (of_export export) in
    let still : (other : Export) → MayLeave features k other → MayLeave features after other = λ other may. ap (may_leave features) (sym (item_stays k export other.kind other.index)) ∙ may in (
      and_from (may_leave features (item_at k export.kind export.index)) (not (list_any (bytes_eq export.name) (names_of k.exports))) leave.0 (ap not new.0),
      all_keep features after exports (all_imply (MayLeave features k) (MayLeave features after) still exports leave.1) (all_new k export exports new.1 distinct.0) distinct.1,
    )

names_asked : (before : KindCounts) (earlier items : List NamedItem) → names_of (exports_after before earlier items) ≡ map (λ (item : NamedItem). item.name) items
names_asked before earlier [] = refl
names_asked before earlier (item ∷ items) = ap (λ names. item.name ∷ names) (names_asked before (earlier ++ item ∷ []) items)

all_leave : (features : Features) (k : Spaces) (exports : List Export) (types : List (ExternalType ℕ)) → named_in k exports ≡ map (λ type. Some type) types
    → AllByRecursion (λ type. may_leave features (Some type) ≡ true) types → AllByRecursion (MayLeave features k) exports
all_leave features k exports types are may =
    from_map exports (subst (AllByRecursion (λ (item : Option (ExternalType ℕ)). may_leave features item ≡ true)) (sym are) (to_map types may))
  where
    to_map : (types : List (ExternalType ℕ)) → AllByRecursion (λ type. may_leave features (Some type) ≡ true) types
        → AllByRecursion (λ (item : Option (ExternalType ℕ)). may_leave features item ≡ true) (map (λ type. Some type) types)
    to_map [] all = tt
    to_map (type ∷ types) all = (all.0, to_map types all.1)

    from_map : (exports : List Export) → AllByRecursion (λ (item : Option (ExternalType ℕ)). may_leave features item ≡ true) (named_in k exports) → AllByRecursion (MayLeave features k) exports
    from_map [] all = tt
    from_map (export ∷ exports) all = (all.0, from_map exports all.1)

none_yet : (k : Spaces) (exports : List Export) → k.exports ≡ [] → AllByRecursion (IsNew k) exports
none_yet k [] first = tt
none_yet k (export ∷ exports) first = (ap (λ earlier. list_any (bytes_eq export.name) (names_of earlier)) first, none_yet k exports first)

-- Exports with distinct names keep their rules where the items are made for them that may leave the module.
pub exports_kept : (features : Features) (spaces : Spaces) (before : KindCounts) (f : ℕ → ℕ) (items : List NamedItem) → spaces.exports ≡ [] → StandFrom spaces before (moved_types f items)
    → IsDistinct bytes_eq (map (λ item. item.name) items) → AllByRecursion (λ type. may_leave features (Some type) ≡ true) (moved_types f items)
    → KeepAll features spaces (map of_export (shape_exports_from before items))
exports_kept features spaces before f items first stand distinct may =
    let exports = shape_exports_from before items in
    all_keep features spaces exports (all_leave features spaces exports (moved_types f items) (exports_named spaces before f items stand) may) (none_yet spaces exports first)
    (subst (IsDistinct bytes_eq) (sym (names_asked before [] items)) distinct)

pub exports_step : (c : Config) (old new : Spaces) (before : KindCounts) (f : ℕ → ℕ) (items : List NamedItem) → old.exports ≡ [] → StandFrom old before (moved_types f items)
    → IsDistinct bytes_eq (map (λ item. item.name) items)
    → ((features : Features) → AreFeaturesOf c features → AllByRecursion (λ type. may_leave features (Some type) ≡ true) (moved_types f items))
    → new.exports ≡ shape_exports_from before items → new ≡ spaces_after_all old (map of_export new.exports) → IsStep c of_export old new new.exports
exports_step c old new before f items first stand distinct may are known = record {
  keep = λ features on. subst (λ exports. KeepAll features old (map of_export exports)) (sym are) (exports_kept features old before f items first stand distinct (may features on));
  known = known;
}

-- ---- the spaces after them

spaces_grow : (k : Spaces) (exports : List Export) → spaces_after_all k (map of_export exports) ≡ record k { exports = k.exports ++ exports }
spaces_grow k [] = ap (λ exports. record k { exports = exports }) (sym (append-nil k.exports))
spaces_grow k (export ∷ exports) =
    spaces_grow (spaces_after k (of_export export)) exports ∙ ap (λ all. record k { exports = all }) (append_assoc k.exports (export ∷ []) exports)

pub spaces_known : (old new : Spaces) → old.exports ≡ [] → new ≡ record old { exports = new.exports } → new ≡ spaces_after_all old (map of_export new.exports)
spaces_known old new first h = h ∙ ap (λ earlier. record old { exports = earlier ++ new.exports }) (sym first) ∙ sym (spaces_grow old new.exports)

pub still_known : (old now new : Spaces) (export : Export) → now ≡ record old { exports = now.exports } → new ≡ record now { exports = now.exports ++ export ∷ [] } → new ≡ record old { exports = new.exports }
still_known old now new export before added =
    let exports : new.exports ≡ now.exports ++ export ∷ [] = ap (λ (k : Spaces). k.exports) added in
    added ∙ ap (λ (k : Spaces). record k { exports = now.exports ++ export ∷ [] }) before ∙ ap (λ all. record old { exports = all }) (sym exports)
