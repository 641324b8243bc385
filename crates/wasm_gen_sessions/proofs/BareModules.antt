-- Modules of types and of functions without locals, and of nothing else.
use Rattle.std.proofs.Common.{◌≡◌, ℕ, zero, suc, is_some, ◌<◌, ◌≤◌, ◌^◌, Bool, true, false, not, List, [], ◌∷◌, ◌++◌, length, map, refl, sym, subst, ap, ◌∙◌, arith, inl, inr, ◌⊎◌, length-append, append_assoc}
use Rattle.std.specs.List.{AllByRecursion}
use Rattle.std.proofs.lemmas.Bool.{and_parts, le-ltb}
use Rattle.std.proofs.lemmas.List.{append-nil, length-map}
use Rattle.wasm_smith_module.specs.Measures.{counts_of, item_limits, lengths_of, measures_of_type, numbers_of, sizes_of, type_measures}
use Rattle.wasm_smith_module.proofs.EntryNumbers.{within_append}
use Rattle.wasm_smith_module.specs.Generating.{bare_body, bare_module}
use Rattle.wasm_smith_sections.specs.ModuleEncoding.{HasLongFront, HasManyItems, IsLongSection, PassesLength, SomeByRecursion, SomeHaveLongFront}
use Rattle.wasm_smith_types.specs.Bounds.{AreSmall, IsSmallComposite}
use Rattle.wasm_smith_types.specs.DrawnGroups.{AreSome}
use Rattle.wasm_smith_validity.specs.ValidGroups.{types_of}
use Rattle.wasm_smith_validity.specs.Made.{Made, MadeBody}
use Rattle.wasm_smith_validity.specs.Sections.{sections_with, unless_empty}
use Rattle.wasm_smith_validity.specs.Rules.{KeepAll}
use Rattle.wasm_smith_validity.specs.Spaces as validity
use Rattle.wasm_smith_validity.specs.Spaces.{func_type_at, spaces_after, spaces_of_types}
use Rattle.wasm_smith_validity.specs.Validity.{IsValidByIndex}
use Rattle.wasm_smith_validity.proofs.MadeSections.{rules_of}
use Rattle.wasm_spec.specs.Features.{Features}
use Rattle.wasm_spec.specs.Groups.{items_in}
use Rattle.wasm_spec.specs.Limits.{Limit, Name, Types, Functions, most}
use Rattle.wasm_spec.specs.Shortest.{unsigned_encoding, list_encoding, framed_encoding}
use Rattle.wasm_spec.specs.SmallIndexes.{IsSmallIndex}
use Rattle.wasm_spec.specs.Syntax.{Section, TypeSection, FunctionSection, CodeSection}
use Rattle.wasm_spec.specs.Trees.{section_types, types_from}
use Rattle.wasm_spec.specs.Types.{CompositeType, FuncComposite, StructComposite, ArrayComposite, ContComposite, RecGroup, SubType, ValType}
use Rattle.wasm_spec.proofs.UnsignedEncodings.{at_most_five}
use Rattle.wasm_validity.specs.Context.{Context, after, after_all, at_first, functions_in}
use Rattle.wasm_validity.specs.Entries.{Entry, OfFunction, OfType, OfBody, entries_of}
use Rattle.wasm_validity.specs.IndexSpaces.{Spaces, spaces_in, spaces_of}
use Rattle.wasm_validity.specs.Rules.{KeepLimits, PassLimit, Passes, are_within, is_past, measures}
use Rattle.wasm_gen_sessions.proofs.BodyEncodings.{AreFewSmall, IsFewSmall, IsShortBody, as_many_bodies, bodies_short, entry_length}
use Rattle.wasm_gen_sessions.proofs.Forms.{list_length}
use Rattle.wasm_gen_sessions.proofs.RunEncodings.{few_fit}
use Rattle.wasm_gen_sessions.proofs.TypeLengths.{few_groups, groups_length, groups_short}

-- ---- its sections

abbrev of_types : List (RecGroup ℕ) → List Section
of_types groups = unless_empty (λ xs. TypeSection xs) groups

abbrev of_funcs : List ℕ → List Section
of_funcs funcs = unless_empty (λ xs. FunctionSection xs) funcs

abbrev of_code : List (List ℕ) → List Section
of_code bodies = unless_empty (λ xs. CodeSection xs) bodies

abbrev sections : List (RecGroup ℕ) → List ℕ → List (List ℕ) → List Section
sections groups funcs bodies = of_types groups ++ (of_funcs funcs ++ of_code bodies)

sections_are : (counted : Bool) (groups : List (RecGroup ℕ)) (funcs : List ℕ) (bodies : List (List ℕ))
    → sections_with counted bodies (bare_module groups funcs) ≡ sections groups funcs bodies
sections_are true groups funcs bodies = ap (λ l. of_types groups ++ (of_funcs funcs ++ l)) (append-nil (of_code bodies))
sections_are false groups funcs bodies = ap (λ l. of_types groups ++ (of_funcs funcs ++ l)) (append-nil (of_code bodies))

-- ---- its entries

abbrev of_groups : List (RecGroup ℕ) → List Entry
of_groups groups = map (λ x. OfType x) groups

abbrev of_functions : List ℕ → List Entry
of_functions funcs = map (λ x. OfFunction x) funcs

abbrev of_bodies : List (List ℕ) → List Entry
of_bodies bodies = map (λ x. OfBody x) bodies

-- ---- limits

counts_within : (groups : List (RecGroup ℕ)) (funcs : List ℕ) → AreSome groups → length (types_of groups) ≤ most Types → length funcs ≤ most Functions
    → are_within (counts_of (bare_module groups funcs)) ≡ true
counts_within groups funcs some few_types few_funcs =
    let few : length groups ≤ 1000000 = omega (arith, few_types, few_groups groups some) in
    rw (le-ltb 1000000 (length (types_of groups)) few_types, le-ltb 1000000 (length groups) few, le-ltb 1000000 (length funcs) few_funcs) refl

-- a small type is within its limits
type_within : (c : CompositeType ℕ) → IsSmallComposite c → are_within (map (λ limit. (limit, items_in c limit)) item_limits) ≡ true
type_within (FuncComposite type) small =
    let params = small.0 in
    let results = small.1 in
    rw (le-ltb 1000 (length type.params) (omega (arith, params)), le-ltb 1000 (length type.results) (omega (arith, results))) refl
type_within (StructComposite fields) small = rw (le-ltb 10000 (length fields) (omega (arith, small))) refl
type_within (ArrayComposite field) small = refl
type_within (ContComposite function) small = refl

types_within : (types : List (SubType ℕ)) → AreSmall types → are_within (type_measures types) ≡ true
types_within [] small = refl
types_within (type ∷ types) small =
    within_append (measures_of_type type) (type_measures types) (type_within type.composite_type small.0) (types_within types small.1)

numbers_within : (groups : List (RecGroup ℕ)) (funcs : List ℕ) → AreSmall (types_of groups) → AreSome groups → length (types_of groups) ≤ most Types
    → length funcs ≤ most Functions → are_within (numbers_of [] (bare_module groups funcs)) ≡ true
numbers_within groups funcs small some few_types few_funcs =
    let m = bare_module groups funcs in
    within_append (counts_of m) (sizes_of [] m) (counts_within groups funcs some few_types few_funcs)
    (within_append (type_measures (types_of groups)) (lengths_of [] m) (types_within (types_of groups) small) refl)

is_not : (b : Bool) → not b ≡ true → b ≡ true → ⊥
is_not true h k = absurd cc
is_not false h k = absurd cc

none_passes : (limit : Limit) (measured : List (Limit × ℕ)) → are_within measured ≡ true → Passes limit measured → ⊥
none_passes limit [] h p = p
none_passes limit (m ∷ ms) h (inl p) = is_not (is_past m.0 m.1) (and_parts (not (is_past m.0 m.1)) (are_within ms) h).0 p.1
none_passes limit (m ∷ ms) h (inr p) = none_passes limit ms (and_parts (not (is_past m.0 m.1)) (are_within ms) h).1 p

none_passed : (limit : Limit) (cx : Context) (entries : List Entry) → KeepLimits cx entries → PassLimit limit cx entries → ⊥
none_passed limit cx [] h p = p
none_passed limit cx (entry ∷ entries) h (inl p) = none_passes limit (measures cx entry) h.0.numbers p
none_passed limit cx (entry ∷ entries) h (inr (inl p)) = h.0.types limit p
none_passed limit cx (entry ∷ entries) h (inr (inr p)) = none_passed limit (after cx entry) entries h.1 p

-- the law of limits
abbrev LimitLaw : Type 0
LimitLaw = (features : Features) (m : Made) (counted : Bool) (bodies : List (List ℕ)) → IsValidByIndex features m
    → AllByRecursion (λ custom. length custom.name ≤ most Name) m.customs → are_within (numbers_of bodies m) ≡ true
    → KeepLimits at_first (entries_of (sections_with counted bodies m))

pub no_limit : LimitLaw → (features : Features) (groups : List (RecGroup ℕ)) (funcs : List ℕ) (counted : Bool) (limit : Limit) → IsValidByIndex features (bare_module groups funcs)
    → AreSmall (types_of groups) → AreSome groups → length (types_of groups) ≤ most Types → length funcs ≤ most Functions
    → PassLimit limit at_first (entries_of (sections_with counted [] (bare_module groups funcs))) → ⊥
no_limit law features groups funcs counted limit v small some few_types few_funcs p =
    none_passed limit at_first (entries_of (sections_with counted [] (bare_module groups funcs)))
    (law features (bare_module groups funcs) counted [] v tt (numbers_within groups funcs small some few_types few_funcs)) p

-- ---- lengths

some_append : (P : Section → Type 0) (xs ys : List Section) → SomeByRecursion P (xs ++ ys) → SomeByRecursion P xs ⊎ SomeByRecursion P ys
some_append P [] ys h = inr h
some_append P (x ∷ xs) ys (inl p) = inl (inl p)
some_append P (x ∷ xs) ys (inr h) = elim (some_append P xs ys h) [
  | inl first ↦ inl (inr first)
  | inr other ↦ inr other
]

some_of : {A : Type 0} (P : Section → Type 0) (section : List A → Section) (items : List A) → SomeByRecursion P (unless_empty section items) → P (section items)
some_of P section [] h = absurd h
some_of P section (item ∷ items) (inl p) = p
some_of P section (item ∷ items) (inr h) = absurd h

-- one of the three sections
some_section : (P : Section → Type 0) (groups : List (RecGroup ℕ)) (funcs : List ℕ) (bodies : List (List ℕ)) → SomeByRecursion P (sections groups funcs bodies)
    → P (TypeSection groups) ⊎ P (FunctionSection funcs) ⊎ P (CodeSection bodies)
some_section P groups funcs bodies h = elim (some_append P (of_types groups) (of_funcs funcs ++ of_code bodies) h) [
  | inl p ↦ inl (some_of P (λ xs. TypeSection xs) groups p)
  | inr others ↦ elim (some_append P (of_funcs funcs) (of_code bodies) others) [
    | inl p ↦ inr (inl (some_of P (λ xs. FunctionSection xs) funcs p))
    | inr q ↦ inr (inr (some_of P (λ xs. CodeSection xs) bodies q))
  ]
]

no_long_front : (locals : List (ValType ℕ)) → AreFewSmall locals → HasLongFront locals → ⊥
no_long_front locals h long = few_fit long.0 (omega (arith, h.0, ap length long.2, length-append long.0 long.1)) long.3

none_long : (made : List MadeBody) → AllByRecursion IsFewSmall made → SomeHaveLongFront made → ⊥
none_long [] h some = some
none_long (first ∷ others) h (inl long) = no_long_front first.locals h.0.0 long
none_long (first ∷ others) h (inr some) = none_long others h.1 some

abbrev bare_bodies : List ℕ → List MadeBody
bare_bodies funcs = map (λ _. bare_body) funcs

without_locals : (funcs : List ℕ) → AllByRecursion IsFewSmall (bare_bodies funcs)
without_locals [] = tt
without_locals (function ∷ funcs) = (((omega arith, tt), refl), without_locals funcs)

-- an index that names a function type is below the number of types
below_types : (types : List (SubType ℕ)) (index : ℕ) → is_some (func_type_at types index) ≡ true → index < length types
below_types [] index e = absurd cc
below_types (type ∷ types) zero e = omega arith
below_types (type ∷ types) (suc index) e = omega (arith, below_types types index e)

named_funcs : (features : Features) (k : validity.Spaces) (funcs : List ℕ) (rest : List Entry) → KeepAll features k (of_functions funcs ++ rest) → length k.types ≤ most Types
    → AllByRecursion IsSmallIndex funcs
named_funcs features k [] rest h few = tt
named_funcs features k (function ∷ funcs) rest h few =
    (omega (arith, few, below_types k.types function h.0), named_funcs features (spaces_after k (OfFunction function)) funcs rest h.1 few)

short_funcs : (funcs : List ℕ) → AllByRecursion IsSmallIndex funcs → length funcs ≤ most Functions → length (list_encoding unsigned_encoding funcs) < 2 ^ 32
short_funcs funcs h few = omega (arith, few, list_length unsigned_encoding IsSmallIndex 5 at_most_five funcs h (omega (arith, few)))

short_code : (bodies : List (List ℕ)) → AllByRecursion IsShortBody bodies → length bodies ≤ most Functions → length (list_encoding framed_encoding bodies) < 2 ^ 32
short_code bodies h few = omega (arith, few, list_length framed_encoding IsShortBody 1112 entry_length bodies h (omega (arith, few)))

pub no_length : (features : Features) (groups : List (RecGroup ℕ)) (funcs : List ℕ) (counted : Bool) → IsValidByIndex features (bare_module groups funcs)
    → AreSmall (types_of groups) → AreSome groups → length (types_of groups) ≤ most Types → length funcs ≤ most Functions
    → PassesLength counted (bare_module groups funcs) → ⊥
no_length features groups funcs counted v small some few_types few_funcs (inl many) =
    elim (some_section HasManyItems groups funcs [] (subst (SomeByRecursion HasManyItems) (sections_are counted groups funcs []) many)) [
      | inl types ↦ omega (arith, types, few_types, few_groups groups some)
      | inr others ↦ elim others [
        | inl functions ↦ omega (arith, functions, few_funcs)
        | inr code ↦ omega (arith, code)
      ]
    ]
no_length features groups funcs counted v small some few_types few_funcs (inr (inl many)) =
    omega (arith, many, few_funcs, length-map {B = MadeBody} funcs (λ _. bare_body))
no_length features groups funcs counted v small some few_types few_funcs (inr (inr (inl front))) = none_long (bare_bodies funcs) (without_locals funcs) front
no_length features groups funcs counted v small some few_types few_funcs (inr (inr (inr long))) =
    let short = bodies_short (bare_bodies funcs) long.0 (without_locals funcs) long.1 in
    let few : length long.0 ≤ most Functions = omega (arith, few_funcs, as_many_bodies (bare_bodies funcs) long.0 long.1, length-map {B = MadeBody} funcs (λ _. bare_body)) in
    elim (some_section IsLongSection groups funcs long.0 (subst (SomeByRecursion IsLongSection) (sections_are counted groups funcs long.0) long.2)) [
      | inl types ↦ omega (arith, types, groups_length groups (groups_short features groups (rules_of features (bare_module groups funcs) v).valid small some few_types))
      | inr others ↦ elim others [
        | inl functions ↦ omega (arith, functions, short_funcs funcs (named_funcs features (spaces_of_types (types_of groups)) funcs [] (rules_of features (bare_module groups funcs) v).behind_types few_types) few_funcs)
        | inr code ↦ omega (arith, code, short_code long.0 short few)
      ]
    ]

-- ---- what it shows

entries_are : (groups : List (RecGroup ℕ)) (funcs : List ℕ) (bodies : List (List ℕ)) → entries_of (sections groups funcs bodies) ≡ of_groups groups ++ (of_functions funcs ++ of_bodies bodies)
entries_are [] [] [] = refl
entries_are [] [] (b ∷ bs) = append-nil (of_bodies (b ∷ bs))
entries_are [] (f ∷ fs) [] = refl
entries_are [] (f ∷ fs) (b ∷ bs) = ap (λ l. of_functions (f ∷ fs) ++ l) (append-nil (of_bodies (b ∷ bs)))
entries_are (g ∷ gs) [] [] = refl
entries_are (g ∷ gs) [] (b ∷ bs) = ap (λ l. of_groups (g ∷ gs) ++ l) (append-nil (of_bodies (b ∷ bs)))
entries_are (g ∷ gs) (f ∷ fs) [] = refl
entries_are (g ∷ gs) (f ∷ fs) (b ∷ bs) = ap (λ l. of_groups (g ∷ gs) ++ (of_functions (f ∷ fs) ++ l)) (append-nil (of_bodies (b ∷ bs)))

after_append : (cx : Context) (xs ys : List Entry) → after_all cx (xs ++ ys) ≡ after_all (after_all cx xs) ys
after_append cx [] ys = refl
after_append cx (x ∷ xs) ys = after_append (after cx x) xs ys

shown_groups : (cx : Context) (groups : List (RecGroup ℕ)) → spaces_in (after_all cx (of_groups groups)) ≡ record (spaces_in cx) { types = types_from cx.types groups }
shown_groups cx [] = refl
shown_groups cx (group ∷ groups) = shown_groups (after cx (OfType group)) groups

shown_functions : (cx : Context) (functions : List ℕ)
    → spaces_in (after_all cx (of_functions functions)) ≡ record (spaces_in cx) { functions = functions_in cx ++ functions }
shown_functions cx [] = ap (λ l. record (spaces_in cx) { functions = l }) (sym (append-nil (functions_in cx)))
shown_functions cx (function ∷ functions) =
    let one : functions_in (after cx (OfFunction function)) ≡ functions_in cx ++ function ∷ [] = sym (append_assoc cx.imported_functions cx.own_functions (function ∷ [])) in
    shown_functions (after cx (OfFunction function)) functions
    ∙ ap (λ l. record (spaces_in cx) { functions = l }) (ap (λ l. l ++ functions) one ∙ append_assoc (functions_in cx) (function ∷ []) functions)

shown_bodies : (cx : Context) (bodies : List (List ℕ)) → spaces_in (after_all cx (of_bodies bodies)) ≡ spaces_in cx
shown_bodies cx [] = refl
shown_bodies cx (body ∷ bodies) = shown_bodies (after cx (OfBody body)) bodies

-- its types and functions, and nothing else
pub spaces_are : (counted : Bool) (groups : List (RecGroup ℕ)) (funcs : List ℕ) (bodies : List (List ℕ)) → spaces_of (sections_with counted bodies (bare_module groups funcs)) ≡ record {
  types = section_types groups;
  functions = funcs;
  tables = [];
  memories = [];
  globals = [];
  tags = [];
  elements = [];
  imported = [];
  exports = [];
}
spaces_are counted groups funcs bodies =
    let typed = after_all at_first (of_groups groups) in
    ap (λ sections. spaces_of sections) (sections_are counted groups funcs bodies)
    ∙ ap (λ es. spaces_in (after_all at_first es)) (entries_are groups funcs bodies)
    ∙ ap spaces_in (after_append at_first (of_groups groups) (of_functions funcs ++ of_bodies bodies) ∙ after_append typed (of_functions funcs) (of_bodies bodies))
    ∙ shown_bodies (after_all typed (of_functions funcs)) bodies ∙ shown_functions typed funcs
    ∙ ap (λ (spaces : Spaces). record spaces { functions = spaces.functions ++ funcs }) (shown_groups at_first groups)
