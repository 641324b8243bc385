-- The imports that are made of the entries of a shape are those of the entries that are taken, with their names, their types moved.
use Rattle.std.proofs.Common.{◌≡◌, ℕ, ◌+◌, ◌<◌, ◌≤◌, Bool, true, false, List, [], ◌∷◌, ◌++◌, length, map, drop, get_or, append_assoc, refl, ap, sym, ◌∙◌, inl, inr, subst, if◌then◌else◌, arith}
use Rattle.std.specs.List.{AllByRecursion, filter, flat_map}
use Rattle.std.proofs.lemmas.Bool.{cases_lt, le-ltb, lt-ltb}
use Rattle.std.proofs.lemmas.List.{append-nil, drop_all, drop_more, length-map, map-append}
use Rattle.std.proofs.lemmas.List.Concat.{flat_map-append}
use Rattle.wasm_spec.specs.Features.{Features}
use Rattle.wasm_spec.specs.Syntax.{ImportEntry, ImportItem, Import, CompactItems, CompactNames, imported_by}
use Rattle.wasm_spec.specs.TypeReferences.{external_map}
use Rattle.wasm_spec.specs.Types.{ExternalType}
use Rattle.wasm_smith_config.specs.Config.{AreFeaturesOf}
use Rattle.wasm_smith_config.specs.declared.config.Config.{Config}
use Rattle.wasm_smith_definitions.specs.Steps.{IsStep}
use Rattle.wasm_smith_types.proofs.ListLaws.{all_append}
use Rattle.wasm_smith_types.specs.Growing.{with_front}
use Rattle.wasm_smith_validity.specs.Rules.{keep_items}
use Rattle.wasm_smith_validity.specs.Spaces.{Spaces, with_items}
use Rattle.wasm_smith_definitions.specs.Parts.{IsPart, none, kept, left_out}
use Rattle.wasm_smith_externs.proofs.AddedLaws.{with_more}
use Rattle.wasm_smith_externs.proofs.ImportLaws.{keep_entries, spaces_by_entries}
use Rattle.wasm_smith_externs.proofs.NamedLaws.{types_named}
use Rattle.wasm_smith_externs.specs.Imports.{IsLone, IsMadeEntry, of_import}
use Rattle.wasm_smith_externs.specs.Named.{Named, all_named, named, named_by, named_item, types_of}
use Rattle.wasm_smith_externs.specs.ShapeImports.{chosen_at, entry_map, has_imports, import_map, lone, named_map, shape_imports_at, takes_at, written}

-- ---- entry by entry

-- what an entry comes to, and then those after it
pub entries_go_on : (drawn compact : Bool) (f : ℕ → ℕ) (front : List ImportEntry) (entry : ImportEntry) (entries : List ImportEntry) (s t : List ℕ) (takes : Bool) → takes_at drawn s ≡ (takes, t)
    → with_front front (shape_imports_at drawn compact f (entry ∷ entries) s) ≡ with_front (front ++ (if takes then written compact (entry_map f entry) else [])) (shape_imports_at drawn compact f entries t)
unfolding with_front shape_imports_at chosen_at
entries_go_on drawn compact f front entry entries s t takes e =
    ap (λ (d : Bool × List ℕ).
    let others = chosen_at drawn entries d.1 in
    (front ++ flat_map (written compact) (map (entry_map f) ((if d.0 then entry ∷ [] else []) ++ others.0)), others.1)) e
    ∙ ap (λ imports. (imports, (chosen_at drawn entries t).1)) (go takes)
  where
    go : (b : Bool) → front ++ flat_map (written compact) (map (entry_map f) ((if b then entry ∷ [] else []) ++ (chosen_at drawn entries t).0))
        ≡ (front ++ (if b then written compact (entry_map f entry) else [])) ++ flat_map (written compact) (map (entry_map f) (chosen_at drawn entries t).0)
    go true = sym (append_assoc front (written compact (entry_map f entry)) (flat_map (written compact) (map (entry_map f) (chosen_at drawn entries t).0)))
    go false = ap (λ xs. xs ++ flat_map (written compact) (map (entry_map f) (chosen_at drawn entries t).0)) (sym (append-nil front))

pub entries_end : (drawn compact : Bool) (f : ℕ → ℕ) (front : List ImportEntry) (s : List ℕ) → with_front front (shape_imports_at drawn compact f [] s) ≡ (front, s)
unfolding with_front shape_imports_at chosen_at
entries_end drawn compact f front s = ap (λ imports. (imports, s)) (append-nil front)

pub entries_begin : (drawn compact : Bool) (f : ℕ → ℕ) (entries : List ImportEntry) (s : List ℕ) → with_front [] (shape_imports_at drawn compact f entries s) ≡ shape_imports_at drawn compact f entries s
unfolding with_front
entries_begin drawn compact f entries s = refl

-- the same, as a loop over a list sees it
pub next_entry : {X : Type 0} (view : X → ImportEntry) (drawn compact : Bool) (f : ℕ → ℕ) (xs : List X) (i : ℕ) (x : X) (front more : List ImportEntry) (whole : List ImportEntry × List ℕ) (s t : List ℕ) (takes : Bool)
    → i < length xs → x ≡ get_or xs i x → takes_at drawn s ≡ (takes, t) → more ≡ front ++ (if takes then written compact (entry_map f (view x)) else [])
    → with_front front (shape_imports_at drawn compact f (map view (drop i xs)) s) ≡ whole → with_front more (shape_imports_at drawn compact f (map view (drop (i + 1) xs)) t) ≡ whole
next_entry view drawn compact f xs i x front more whole s t takes within is draw added before =
    let left : drop i xs ≡ x ∷ drop (i + 1) xs = drop_more xs i x within ∙ ap (λ y. y ∷ drop (i + 1) xs) (sym is) in
    ap (λ written. with_front written (shape_imports_at drawn compact f (map view (drop (i + 1) xs)) t)) added
    ∙ sym (entries_go_on drawn compact f front (view x) (map view (drop (i + 1) xs)) s t takes draw)
    ∙ ap (λ ys. with_front front (shape_imports_at drawn compact f (map view ys) s)) (sym left) ∙ before

pub last_entry : {X : Type 0} (view : X → ImportEntry) (drawn compact : Bool) (f : ℕ → ℕ) (xs : List X) (i : ℕ) (front : List ImportEntry) (whole : List ImportEntry × List ℕ) (s : List ℕ)
    → length xs ≤ i → with_front front (shape_imports_at drawn compact f (map view (drop i xs)) s) ≡ whole → (front, s) ≡ whole
last_entry view drawn compact f xs i front whole s past before =
    sym (entries_end drawn compact f front s) ∙ ap (λ ys. with_front front (shape_imports_at drawn compact f (map view ys) s)) (sym (drop_all i xs past)) ∙ before

-- ---- entries that are taken

pub all_chosen : (drawn : Bool) (entries : List ImportEntry) (s : List ℕ) → drawn ≡ false → chosen_at drawn entries s ≡ (entries, s)
unfolding chosen_at
all_chosen drawn entries s e = ap (λ d. chosen_at d entries s) e ∙ go entries
  where
    go : (entries : List ImportEntry) → chosen_at false entries s ≡ (entries, s)
    go [] = refl
    go (entry ∷ entries) = ap (λ (d : List ImportEntry × List ℕ). (entry ∷ d.0, d.1)) (go entries)

-- ---- imports with their names

moved : (f : ℕ → ℕ) (entry : ImportEntry) → named_by (entry_map f entry) ≡ map (named_map f) (named_by entry)
moved f (Import origin name type) = refl
moved f (CompactItems origin items) = items_moved items
  where
    items_moved : (items : List ImportItem) → map (named_item origin) (map (import_map f) items) ≡ map (named_map f) (map (named_item origin) items)
    items_moved [] = refl
    items_moved (item ∷ items) = ap (λ xs. named_map f (named_item origin item) ∷ xs) (items_moved items)
moved f (CompactNames origin type names) = names_moved names
  where
    names_moved : (names : List (List ℕ)) → map (named origin (external_map f type)) names ≡ map (named_map f) (map (named origin type) names)
    names_moved [] = refl
    names_moved (name ∷ names) = ap (λ xs. named origin (external_map f type) name ∷ xs) (names_moved names)

apart : (xs : List Named) → all_named (map lone xs) ≡ xs
apart [] = refl
apart (x ∷ xs) = ap (λ ys. x ∷ ys) (apart xs)

as_many : (entry : ImportEntry) → length (named_by entry) ≡ length (imported_by entry)
as_many entry = sym (length-map (named_by entry) (λ (x : Named). x.type)) ∙ ap length (types_named entry)

nothing : {A : Type 0} (xs : List A) → length xs ≤ 0 → [] ≡ xs
nothing [] few = refl
nothing (x ∷ xs) few = absurd (omega (arith, few))

named_written : (compact : Bool) (entry : ImportEntry) → all_named (written compact entry) ≡ named_by entry
named_written false entry = apart (named_by entry)
named_written true entry = elim (cases_lt 0 (length (imported_by entry))) [
  | inl some ↦ ap (λ b. all_named (if b then entry ∷ [] else [])) (lt-ltb 0 (length (imported_by entry)) some) ∙ append-nil (named_by entry)
  | inr few ↦ ap (λ b. all_named (if b then entry ∷ [] else [])) (le-ltb 0 (length (imported_by entry)) few) ∙ nothing (named_by entry) (omega (arith, few, as_many entry))
]

all_written : (compact : Bool) (f : ℕ → ℕ) (entries : List ImportEntry) → all_named (flat_map (written compact) (map (entry_map f) entries)) ≡ map (named_map f) (all_named entries)
all_written compact f [] = refl
all_written compact f (entry ∷ entries) =
    flat_map-append named_by (written compact (entry_map f entry)) (flat_map (written compact) (map (entry_map f) entries))
    ∙ ap (λ xs. xs ++ all_named (flat_map (written compact) (map (entry_map f) entries))) (named_written compact (entry_map f entry) ∙ moved f entry)
    ∙ ap (λ xs. map (named_map f) (named_by entry) ++ xs) (all_written compact f entries)
    ∙ sym (map-append (named_map f) (named_by entry) (all_named entries))

-- Names and types are those of the entries that are taken, the types moved.
pub imports_named : (drawn compact : Bool) (f : ℕ → ℕ) (entries : List ImportEntry) (s : List ℕ)
    → all_named (shape_imports_at drawn compact f entries s).0 ≡ map (named_map f) (all_named (chosen_at drawn entries s).0)
unfolding shape_imports_at
imports_named drawn compact f entries s = all_written compact f (chosen_at drawn entries s).0

pub all_types : (entries : List ImportEntry) → types_of (all_named entries) ≡ flat_map imported_by entries
all_types [] = refl
all_types (entry ∷ entries) =
    map-append (λ (x : Named). x.type) (named_by entry) (all_named entries) ∙ ap (λ types. types ++ types_of (all_named entries)) (types_named entry)
    ∙ ap (λ types. imported_by entry ++ types) (all_types entries)

types_moved : (f : ℕ → ℕ) (xs : List Named) → types_of (map (named_map f) xs) ≡ map (external_map f) (types_of xs)
types_moved f [] = refl
types_moved f (x ∷ xs) = ap (λ types. external_map f x.type ∷ types) (types_moved f xs)

pub imports_moved : (drawn compact : Bool) (f : ℕ → ℕ) (entries : List ImportEntry) (s : List ℕ)
    → flat_map imported_by (shape_imports_at drawn compact f entries s).0 ≡ map (external_map f) (flat_map imported_by (chosen_at drawn entries s).0)
imports_moved drawn compact f entries s =
    let chosen = (chosen_at drawn entries s).0 in
    sym (all_types (shape_imports_at drawn compact f entries s).0) ∙ ap types_of (imports_named drawn compact f entries s) ∙ types_moved f (all_named chosen)
    ∙ ap (map (external_map f)) (all_types chosen)

-- Where nothing is drawn, all entries are taken, and no byte is.
pub none_drawn : (drawn compact : Bool) (f : ℕ → ℕ) (entries : List ImportEntry) (s : List ℕ) → drawn ≡ false
    → shape_imports_at drawn compact f entries s ≡ (flat_map (written compact) (map (entry_map f) entries), s)
unfolding shape_imports_at
none_drawn drawn compact f entries s e =
    ap (λ (taken : List ImportEntry × List ℕ). (flat_map (written compact) (map (entry_map f) taken.0), taken.1)) (all_chosen drawn entries s e)

-- ---- forms of entries

true_is_not_false : true ≡ false → ⊥
true_is_not_false e = cc

all_lone : (c : Config) (xs : List Named) → AllByRecursion (IsMadeEntry c) (map lone xs)
all_lone c [] = tt
all_lone c (x ∷ xs) = (record { some = omega arith; lone = λ off. tt }, all_lone c xs)

written_made : (c : Config) (compact : Bool) (entry : ImportEntry) → c.compact_imports_enabled ≡ compact → AllByRecursion (IsMadeEntry c) (written compact entry)
written_made c false entry is = all_lone c (named_by entry)
written_made c true entry is = elim (cases_lt 0 (length (imported_by entry))) [
  | inl some ↦
      let one : AllByRecursion (IsMadeEntry c) (entry ∷ []) = (record { some = some; lone = λ off. absurd (true_is_not_false (sym is ∙ off)) }, tt) in
      subst (λ b. AllByRecursion (IsMadeEntry c) (if b then entry ∷ [] else [])) (sym (lt-ltb 0 (length (imported_by entry)) some)) one
  | inr few ↦ subst (λ b. AllByRecursion (IsMadeEntry c) (if b then entry ∷ [] else [])) (sym (le-ltb 0 (length (imported_by entry)) few)) tt
]

all_made : (c : Config) (compact : Bool) (entries : List ImportEntry) → c.compact_imports_enabled ≡ compact → AllByRecursion (IsMadeEntry c) (flat_map (written compact) entries)
all_made c compact [] is = tt
all_made c compact (entry ∷ entries) is =
    all_append (IsMadeEntry c) (written compact entry) (flat_map (written compact) entries) (written_made c compact entry is) (all_made c compact entries is)

-- Each entry has an import, and is one by itself without compact forms.
pub imports_made : (drawn : Bool) (f : ℕ → ℕ) (entries : List ImportEntry) (s : List ℕ) (c : Config)
    → AllByRecursion (IsMadeEntry c) (shape_imports_at drawn c.compact_imports_enabled f entries s).0
unfolding shape_imports_at
imports_made drawn f entries s c = all_made c c.compact_imports_enabled (map (entry_map f) (chosen_at drawn entries s).0) refl

some_made : (compact : Bool) (entry : ImportEntry) → AllByRecursion (λ e. 0 < length (imported_by e)) (written compact entry)
some_made false entry = go (named_by entry)
  where
    go : (xs : List Named) → AllByRecursion (λ e. 0 < length (imported_by e)) (map lone xs)
    go [] = tt
    go (x ∷ xs) = (omega arith, go xs)
some_made true entry = elim (cases_lt 0 (length (imported_by entry))) [
  | inl some ↦
      let one : AllByRecursion (λ e. 0 < length (imported_by e)) (entry ∷ []) = (some, tt) in
      subst (λ b. AllByRecursion (λ e. 0 < length (imported_by e)) (if b then entry ∷ [] else [])) (sym (lt-ltb 0 (length (imported_by entry)) some)) one
  | inr few ↦ subst (λ b. AllByRecursion (λ e. 0 < length (imported_by e)) (if b then entry ∷ [] else [])) (sym (le-ltb 0 (length (imported_by entry)) few)) tt
]

pub imports_some : (drawn compact : Bool) (f : ℕ → ℕ) (entries : List ImportEntry) (s : List ℕ)
    → AllByRecursion (λ entry. 0 < length (imported_by entry)) (shape_imports_at drawn compact f entries s).0
unfolding shape_imports_at
imports_some drawn compact f entries s = go (map (entry_map f) (chosen_at drawn entries s).0)
  where
    go : (entries : List ImportEntry) → AllByRecursion (λ entry. 0 < length (imported_by entry)) (flat_map (written compact) entries)
    go [] = tt
    go (entry ∷ entries) = all_append (λ e. 0 < length (imported_by e)) (written compact entry) (flat_map (written compact) entries) (some_made compact entry) (go entries)

-- Without compact forms each entry is an import by itself.
pub imports_lone : (drawn : Bool) (f : ℕ → ℕ) (entries : List ImportEntry) (s : List ℕ) → AllByRecursion IsLone (shape_imports_at drawn false f entries s).0
unfolding shape_imports_at
imports_lone drawn f entries s = go (map (entry_map f) (chosen_at drawn entries s).0)
  where
    lone_each : (xs : List Named) → AllByRecursion IsLone (map lone xs)
    lone_each [] = tt
    lone_each (x ∷ xs) = (tt, lone_each xs)

    go : (entries : List ImportEntry) → AllByRecursion IsLone (flat_map (written false) entries)
    go [] = tt
    go (entry ∷ entries) = all_append IsLone (map lone (named_by entry)) (flat_map (written false) entries) (lone_each (named_by entry)) (go entries)

-- With compact forms the entries are those that are taken, less those without imports.
pub imports_compact : (drawn : Bool) (f : ℕ → ℕ) (entries : List ImportEntry) (s : List ℕ)
    → (shape_imports_at drawn true f entries s).0 ≡ filter has_imports (map (entry_map f) (chosen_at drawn entries s).0)
unfolding shape_imports_at
imports_compact drawn f entries s = go (map (entry_map f) (chosen_at drawn entries s).0)
  where
    either : (b : Bool) (entry : ImportEntry) (others : List ImportEntry) → (if b then entry ∷ [] else []) ++ others ≡ (if b then entry ∷ others else others)
    either true entry others = refl
    either false entry others = refl

    go : (entries : List ImportEntry) → flat_map (written true) entries ≡ filter has_imports entries
    go [] = refl
    go (entry ∷ entries) = either (has_imports entry) entry (flat_map (written true) entries) ∙ ap (λ others. if has_imports entry then entry ∷ others else others) (go entries)

-- ---- the imports that are taken are a part of all

pub all_kept : {A : Type 0} (xs : List A) → IsPart xs xs
all_kept [] = none
all_kept (x ∷ xs) = kept (all_kept xs)

part_kept : {A : Type 0} (xs : List A) {ys zs : List A} → IsPart ys zs → IsPart (xs ++ ys) (xs ++ zs)
part_kept [] part = part
part_kept (x ∷ xs) part = kept (part_kept xs part)

part_left_out : {A : Type 0} (xs : List A) {ys zs : List A} → IsPart ys zs → IsPart ys (xs ++ zs)
part_left_out [] part = part
part_left_out (x ∷ xs) part = left_out (part_left_out xs part)

pub part_shorter : {A : Type 0} {xs ys : List A} → IsPart xs ys → length xs ≤ length ys
part_shorter none = omega arith
part_shorter (kept part) = omega (arith, part_shorter part)
part_shorter (left_out part) = omega (arith, part_shorter part)

part_if : (b : Bool) (entry : ImportEntry) (others : List ImportEntry) (items : List (ExternalType ℕ)) → IsPart (flat_map imported_by others) items
    → IsPart (flat_map imported_by ((if b then entry ∷ [] else []) ++ others)) (imported_by entry ++ items)
part_if true entry others items part = part_kept (imported_by entry) part
part_if false entry others items part = part_left_out (imported_by entry) part

pub chosen_part : (drawn : Bool) (entries : List ImportEntry) (s : List ℕ) → IsPart (flat_map imported_by (chosen_at drawn entries s).0) (flat_map imported_by entries)
unfolding chosen_at
chosen_part drawn [] s = none
chosen_part drawn (entry ∷ entries) s =
    let others = chosen_at drawn entries (takes_at drawn s).1 in
    part_if (takes_at drawn s).0 entry others.0 (flat_map imported_by entries) (chosen_part drawn entries (takes_at drawn s).1)

pub chosen_fewer : (drawn : Bool) (entries : List ImportEntry) (s : List ℕ) → length (flat_map imported_by (chosen_at drawn entries s).0) ≤ length (flat_map imported_by entries)
chosen_fewer drawn entries s = part_shorter (chosen_part drawn entries s)

-- ---- the spaces of what is imported

pub next_imported : {X : Type 0} (view : X → ImportEntry) (xs : List X) (i : ℕ) (x : X) (now new whole : Spaces) → i < length xs → x ≡ get_or xs i x → new ≡ with_items now (imported_by (view x))
    → with_items now (flat_map imported_by (map view (drop i xs))) ≡ whole → with_items new (flat_map imported_by (map view (drop (i + 1) xs))) ≡ whole
next_imported view xs i x now new whole within is added before =
    let left : drop i xs ≡ x ∷ drop (i + 1) xs = drop_more xs i x within ∙ ap (λ y. y ∷ drop (i + 1) xs) (sym is) in
    ap (λ spaces. with_items spaces (flat_map imported_by (map view (drop (i + 1) xs)))) added
    ∙ sym (with_more now (imported_by (view x)) (flat_map imported_by (map view (drop (i + 1) xs))))
    ∙ ap (λ ys. with_items now (flat_map imported_by (map view ys))) (sym left) ∙ before

-- ---- the step

pub imports_step : (c : Config) (old new : Spaces) (drawn : Bool) (f : ℕ → ℕ) (entries : List ImportEntry) (s : List ℕ)
    → ((features : Features) → AreFeaturesOf c features → keep_items features old (map (external_map f) (flat_map imported_by (chosen_at drawn entries s).0)) ≡ true)
    → new ≡ with_items old (flat_map imported_by (shape_imports_at drawn c.compact_imports_enabled f entries s).0)
    → IsStep c of_import old new (shape_imports_at drawn c.compact_imports_enabled f entries s).0
imports_step c old new drawn f entries s keep known =
    let made = (shape_imports_at drawn c.compact_imports_enabled f entries s).0 in
    let types = all_types made ∙ imports_moved drawn c.compact_imports_enabled f entries s in
    record {
      keep = λ features on. keep_entries c features old made (imports_made drawn f entries s c) (subst (λ items. keep_items features old items ≡ true) (sym types) (keep features on));
      known = known ∙ ap (with_items old) (sym (all_types made)) ∙ spaces_by_entries old made;
    }
