-- From each spelling of a list that list is drawn.
use Rattle.std.proofs.Common.{◌≡◌, ℕ, ◌%◌, zero, suc, ◌+◌, ◌-◌, ◌≤◌, Bool, true, false, cond, List, [], ◌∷◌, ◌++◌, length, map, Some, refl, sym, ap, ◌∙◌, append_assoc, inl, inr, arith}
use Rattle.std.specs.Prelude.{◌==◌, ◌&&◌, nat_lt, option_map}
use Rattle.std.proofs.lemmas.Bool.{cond-true, cond-false}
use Rattle.std.proofs.lemmas.List.{append-nil}
use Rattle.std.proofs.lemmas.Bool.Decides.{eqb_tells}
use Rattle.wasm_spec.specs.Types.{CompositeType, FuncComposite, StructComposite, ArrayComposite, ContComposite, SubType, RecGroup, Single}
use Rattle.wasm_smith_unstructured.specs.Draws.{bool_at}
use Rattle.wasm_smith_config.specs.declared.config.Config.{Config}
use Rattle.wasm_smith_types.specs.Drawing.{Offers, function_at, function_type_at, no_groups}
use Rattle.wasm_smith_types.specs.DrawnGroups.{drawn_groups_at}
use Rattle.wasm_smith_validity.specs.ValidGroups.{entry}
use Rattle.wasm_smith_types.specs.Growing.{grows_from, grows_at, grow_from, grow_at, with_front}
use Rattle.wasm_smith_types.specs.Offering.{function_types_at, gc_groups_at, offers}
use Rattle.wasm_smith_types.specs.Spelling.{SpellsChoice, SpellsEach, SpellsList, SpellsGroups, SpellsNo}
use Rattle.wasm_smith_types.proofs.ReachLaws.{Reaches, bool_false, more_room, choice_reach, grow_stop, front_last, each_reach, from_start, list_reach, values_reach, groups_reach}
use Rattle.wasm_smith_definitions.specs.FunctionTypes.{function_indexes}
use Rattle.wasm_smith_definitions.specs.Indexes.{index_at}
use Rattle.wasm_smith_externs.specs.Wanted.{functions_at, wanted_tags}
use Rattle.wasm_smith_externs.specs.Candidates.{can_import_some}
use Rattle.wasm_smith_externs.specs.Imports.{asked_imports}
use Rattle.wasm_smith_externs.specs.declared.bounds.ImportBounds.{ImportBounds}
use Rattle.wasm_smith_definitions.specs.Steps.{asked}
use Rattle.wasm_smith_module.specs.Asked.{import_bounds}
use Rattle.wasm_smith_module.specs.Generating.{front_at, has_shape, left_for_functions, with_functions}
use Rattle.wasm_smith_validity.specs.ValidGroups as flat
use Rattle.wasm_smith_validity.specs.Spaces.{spaces_of_types}
use Rattle.wasm_smith_witness.specs.Asking.{asks_for_import, asks_for_tag, full_bounds}
use Rattle.wasm_smith_witness.specs.Family.{IsAskable, types_of}
use Rattle.wasm_smith_witness.specs.Spelling.{SpellsLoneComposite, SpellsLoneFunction, SpellsTypes, SpellsFunctions, Spells}
use Rattle.wasm_smith_witness.proofs.LoneLaws.{SpellsLone, are_lone}
use Rattle.wasm_smith_witness.proofs.MemberLaws.{bounds_are, flat_entries, no_min_types, no_min_imports, no_min_tags, no_min_funcs}

-- ---- the last list, which nothing follows, or an even byte

from_zero : {A : Type 0} (step : List ℕ → A × List ℕ) (min max : ℕ) (s : List ℕ) → min ≡ 0 → grow_at step min max 0 s ≡ grow_from step 0 max s
from_zero step min max s e = rw e (from_start step max s)

-- nothing is drawn from nothing
nothing_left : {A : Type 0} (step : List ℕ → A × List ℕ) (room : ℕ) → grow_from step 0 room [] ≡ ([], [])
unfolding grow_from bool_at
nothing_left step zero = refl
nothing_left step (suc room) = grow_stop step room [] [] (more_room room [])

last_reach : {A : Type 0} (SpellsA : A → List ℕ → Type 0) (step : List ℕ → A × List ℕ) → Reaches SpellsA step → (max : ℕ) (xs : List A) (s : List ℕ) → length xs ≤ max → SpellsEach SpellsA xs s → grow_from step 0 max s ≡ (xs, [])
last_reach SpellsA step law max xs s le h =
    let none : s ++ [] ≡ s = append-nil s in
    let all : grow_from step 0 max (s ++ []) ≡ with_front xs (grow_from step 0 (max - length xs) []) = each_reach SpellsA step law xs max s [] le h in
    (rw none at all) ∙ rw (nothing_left step (max - length xs)) (front_last xs [])

even_ends : {A : Type 0} (step : List ℕ → A × List ℕ) (room b : ℕ) (rest : List ℕ) → b % 2 ≡ 0 → (grow_from step 0 room (b ∷ rest)).0 ≡ []
unfolding grow_from
even_ends step zero b rest even = refl
even_ends step (suc room) b rest even = ap (λ d. d.0) (grow_stop step room (b ∷ rest) rest (more_room room (b ∷ rest) ∙ bool_false (b ∷ []) rest (b, refl, even)))

front_first : {A : Type 0} (xs : List A) (d : List A × List ℕ) → d.0 ≡ [] → (with_front xs d).0 ≡ xs
unfolding with_front
front_first xs d none = rw none (append-nil xs)

last_on : {A : Type 0} (SpellsA : A → List ℕ → Type 0) (step : List ℕ → A × List ℕ) → Reaches SpellsA step → (max : ℕ) (xs : List A) (s : List ℕ) (b : ℕ) (rest : List ℕ) → length xs ≤ max → SpellsEach SpellsA xs s → b % 2 ≡ 0 → (grow_from step 0 max (s ++ b ∷ rest)).0 ≡ xs
last_on SpellsA step law max xs s b rest le h even =
    ap (λ d. d.0) (each_reach SpellsA step law xs max s (b ∷ rest) le h) ∙ front_first xs (grow_from step 0 (max - length xs) (b ∷ rest)) (even_ends step (max - length xs) b rest even)

-- ---- groups

-- final function types
function_reach : (o : Offers) (composite : CompositeType ℕ) (s rest : List ℕ) → SpellsLoneComposite o composite s → function_type_at o (s ++ rest) ≡ (record { is_final = true; supertypes = []; composite_type = composite }, rest)
unfolding function_type_at function_at
function_reach o (FuncComposite type) s rest (a, b, e, params, results) =
    let split : s ++ rest ≡ a ++ (b ++ rest) = rw e (append_assoc a b rest) in
    rw (split, values_reach o 0 20 type.params a (b ++ rest) params, values_reach o 0 o.most_results type.results b rest results) refl
function_reach o (StructComposite fields) s rest h = absurd h
function_reach o (ArrayComposite field) s rest h = absurd h
function_reach o (ContComposite function) s rest h = absurd h

final_type : (type : SubType ℕ) → type.is_final ≡ true → type.supertypes ≡ [] → record { is_final = true; supertypes = []; composite_type = type.composite_type } ≡ type
final_type type final none =
    ap (λ (b : Bool). record { is_final = b; supertypes = []; composite_type = type.composite_type }) (sym final) ∙ ap (λ (above : List ℕ). record { is_final = type.is_final; supertypes = above; composite_type = type.composite_type }) (sym none)

lone_reach : (o : Offers) → Reaches (SpellsLone o) (function_type_at o)
lone_reach o type s rest h = function_reach o type.composite_type s rest h.2 ∙ ap (λ (t : SubType ℕ). (t, rest)) (final_type type h.0 h.1)

types_reach : (c : Config) → c.min_types ≡ 0 → (groups : List (List (SubType ℕ))) (s rest : List ℕ) → SpellsList (SpellsLoneFunction (offers c)) c.max_types groups s → function_types_at c (s ++ rest) ≡ (types_of groups, rest)
unfolding function_types_at
types_reach c none groups s rest h =
    let lone = are_lone (offers c) groups h.0 h.3 in
    from_zero (function_type_at (offers c)) c.min_types c.max_types (s ++ rest) none
    ∙ list_reach (SpellsLone (offers c)) (function_type_at (offers c)) (lone_reach (offers c)) c.max_types (types_of groups) s rest (h.0, h.1, h.2, lone.spells, rw lone.many h.4, rw lone.many h.5)

drawn_without_gc : (c : Config) → c.gc_enabled ≡ false → c.min_types ≡ 0 → (groups : List (List (SubType ℕ))) (s rest : List ℕ) → SpellsList (SpellsLoneFunction (offers c)) c.max_types groups s
    → drawn_groups_at c (s ++ rest) ≡ Some (map entry groups, rest)
unfolding drawn_groups_at
drawn_without_gc c off none groups s rest h =
    cond-false c.gc_enabled _ _ off
    ∙ ap (λ (drawn : List (SubType ℕ) × List ℕ). Some (map Single drawn.0, drawn.1)) (types_reach c none groups s rest h)
    ∙ ap (λ (gs : List (RecGroup ℕ)). Some (gs, rest)) (are_lone (offers c) groups h.0 h.3).entries

gc_groups_reach : (c : Config) (groups : List (List (SubType ℕ))) (s rest : List ℕ) → SpellsGroups (offers c) c.max_types no_groups groups s → gc_groups_at c (s ++ rest) ≡ Some (groups, rest)
unfolding gc_groups_at
gc_groups_reach c groups s rest h = groups_reach (offers c) c.max_types (c.max_types + 1) no_groups groups s rest (omega arith) h

drawn_with_gc : (c : Config) → c.gc_enabled ≡ true → c.min_types ≡ 0 → (groups : List (List (SubType ℕ))) (s rest : List ℕ) → SpellsGroups (offers c) c.max_types no_groups groups s
    → drawn_groups_at c (s ++ rest) ≡ Some (map entry groups, rest)
unfolding drawn_groups_at
drawn_with_gc c on none groups s rest h =
    cond-true c.gc_enabled _ _ on
    ∙ cond-true (c.min_types == 0) _ _ (ap (λ n. n == 0) none)
    ∙ ap (option_map (λ (drawn : List (List (SubType ℕ)) × List ℕ). (map entry drawn.0, drawn.1))) (gc_groups_reach c groups s rest h)

groups_drawn : (c : Config) (groups : List (List (SubType ℕ))) (s rest : List ℕ) → IsAskable c → SpellsTypes c.gc_enabled (offers c) c.max_types groups s → drawn_groups_at c (s ++ rest) ≡ Some (map entry groups, rest)
groups_drawn c groups s rest asked h = by_gc c.gc_enabled refl h
  where
    by_gc : (gc : Bool) → c.gc_enabled ≡ gc → SpellsTypes gc (offers c) c.max_types groups s → drawn_groups_at c (s ++ rest) ≡ Some (map entry groups, rest)
    by_gc true on h = drawn_with_gc c on (no_min_types c asked) groups s rest h
    by_gc false off h = drawn_without_gc c off (no_min_types c asked) groups s rest h

-- ---- imports and tags, of which there is none

-- the first draw of a step, where nothing is owed
first_draw : (min max : ℕ) (s : List ℕ) → min ≡ 0 → grows_at min max 0 s ≡ cond (nat_lt 0 max) (bool_at s) (false, s)
unfolding grows_at grows_from
first_draw min max s none =
    let owed : min - 0 ≡ 0 = omega (arith, none) in
    let room : max - 0 ≡ max = omega arith in
    rw (owed, room) refl

no_first : (can : Bool) (min max : ℕ) (s rest : List ℕ) → min ≡ 0 → SpellsNo (can && nat_lt 0 max) s → cond can (grows_at min max 0 (s ++ rest)) (false, s ++ rest) ≡ (false, rest)
no_first true min max s rest none h = first_draw min max (s ++ rest) none ∙ by_room (nat_lt 0 max) h
  where
    by_room : (room : Bool) → SpellsNo room s → cond room (bool_at (s ++ rest)) (false, s ++ rest) ≡ (false, rest)
    by_room true h = bool_false s rest h
    by_room false h = rw h refl
no_first false min max s rest none h = rw h refl

no_imports : (c : Config) → IsAskable c → (types : List (SubType ℕ)) (s rest : List ℕ) → SpellsNo (asks_for_import c types) s
    → asked_imports c (import_bounds c types) (spaces_of_types types) (s ++ rest) ≡ (false, rest)
no_imports c asked_for types s rest h =
    ap (λ (b : ImportBounds). asked_imports c b (spaces_of_types types) (s ++ rest)) (bounds_are c asked_for types)
    ∙ no_first (can_import_some c (full_bounds c) (spaces_of_types types)) c.min_imports c.max_imports s rest (no_min_imports c asked_for) h

no_tags : (c : Config) → IsAskable c → (types : List (SubType ℕ)) (s rest : List ℕ) → SpellsNo (asks_for_tag c types) s → asked (wanted_tags c) (spaces_of_types types) (s ++ rest) ≡ (false, rest)
no_tags c asked_for types s rest h = no_first ((wanted_tags c).can (spaces_of_types types)) c.min_tags c.max_tags s rest (no_min_tags c asked_for) h

none_between : (c : Config) → IsAskable c → (groups : List (RecGroup ℕ)) (types : List (SubType ℕ)) (imports tags rest : List ℕ) → flat.types_of groups ≡ types
    → SpellsNo (asks_for_import c types) imports → SpellsNo (asks_for_tag c types) tags → left_for_functions c groups (imports ++ (tags ++ rest)) ≡ Some rest
none_between c asked_for groups types imports tags rest are of_imports of_tags =
    rw (are, no_imports c asked_for types imports (tags ++ rest) of_imports, no_tags c asked_for types tags rest of_tags) refl

-- ---- functions

index_reach : (indexes : List ℕ) → Reaches (SpellsChoice indexes) (index_at indexes)
unfolding index_at
index_reach indexes index s rest h = rw (choice_reach indexes index s rest h) refl

no_types : (c : Config) (s : List ℕ) → functions_at c [] 0 s ≡ ([], s)
unfolding functions_at
no_types c s = refl

some_types : (c : Config) → c.min_funcs ≡ 0 → (first : ℕ) (others s : List ℕ) → functions_at c (first ∷ others) 0 s ≡ grow_from (index_at (first ∷ others)) 0 c.max_funcs s
unfolding functions_at
some_types c none first others s =
    elim (eqb_tells (length (first ∷ others)) 0) [
      | inl (t, e) ↦ absurd (omega arith)
      | inr (t, ne) ↦ rw t (from_zero (index_at (first ∷ others)) c.min_funcs c.max_funcs s none)
    ]

funcs_reach : (c : Config) → c.min_funcs ≡ 0 → (indexes funcs s : List ℕ) → SpellsFunctions indexes c.max_funcs funcs s → functions_at c indexes 0 s ≡ (funcs, [])
funcs_reach c none [] funcs s h = rw (h.0, h.1) (no_types c [])
funcs_reach c none (first ∷ others) funcs s h =
    some_types c none first others s ∙ last_reach (SpellsChoice (first ∷ others)) (index_at (first ∷ others)) (index_reach (first ∷ others)) c.max_funcs funcs s h.1 h.0

funcs_on : (c : Config) → c.min_funcs ≡ 0 → (indexes funcs s : List ℕ) (byte : ℕ) (rest : List ℕ) → SpellsFunctions indexes c.max_funcs funcs s → byte % 2 ≡ 0 → (functions_at c indexes 0 (s ++ byte ∷ rest)).0 ≡ funcs
funcs_on c none [] funcs s byte rest h even = ap (λ d. d.0) (no_types c (s ++ byte ∷ rest)) ∙ sym h.0
funcs_on c none (first ∷ others) funcs s byte rest h even =
    ap (λ d. d.0) (some_types c none first others (s ++ byte ∷ rest)) ∙ last_on (SpellsChoice (first ∷ others)) (index_at (first ∷ others)) (index_reach (first ∷ others)) c.max_funcs funcs s byte rest h.1 h.0 even

-- ---- modules

-- the functions of these groups
flat_functions : (c : Config) (groups : List (List (SubType ℕ))) (s : List ℕ) → with_functions c (map entry groups) s
    ≡ ((map entry groups, (functions_at c (function_indexes 0 (types_of groups)) 0 s).0), (functions_at c (function_indexes 0 (types_of groups)) 0 s).1)
flat_functions c groups s =
    ap (λ types. ((map entry groups, (functions_at c (function_indexes 0 types) 0 s).0), (functions_at c (function_indexes 0 types) 0 s).1)) (flat_entries groups)

front_parts : (c : Config) (groups : List (List (SubType ℕ))) (funcs s more : List ℕ) → IsAskable c → (h : Spells c groups funcs s)
    → front_at c (s ++ more) ≡ Some ((map entry groups, (functions_at c (function_indexes 0 (types_of groups)) 0 (h.back ++ more)).0), (functions_at c (function_indexes 0 (types_of groups)) 0 (h.back ++ more)).1)
unfolding front_at
front_parts c groups funcs s more asked_for h =
    let after = h.back ++ more in
    let split : s ++ more ≡ h.front ++ (h.imports ++ (h.tags ++ after)) = rw h.parts (simp append_assoc) in
    let between = none_between c asked_for (map entry groups) (types_of groups) h.imports h.tags after (flat_entries groups) h.spells_imports h.spells_tags in
    cond-false (has_shape c) _ _ asked_for.no_shapes
    ∙ rw (split, groups_drawn c groups h.front (h.imports ++ (h.tags ++ after)) asked_for h.spells_groups, between) (ap (λ d. Some d) (flat_functions c groups after))

pub whole_reach : (c : Config) (groups : List (List (SubType ℕ))) (funcs s : List ℕ) → IsAskable c → Spells c groups funcs s → front_at c s ≡ Some ((map entry groups, funcs), [])
whole_reach c groups funcs s asked_for h =
    let whole : s ++ [] ≡ s = append-nil s in
    let back : h.back ++ [] ≡ h.back = append-nil h.back in
    let parts = rw (whole, back) at (front_parts c groups funcs s [] asked_for h) in
    parts ∙ ap (λ drawn. Some ((map entry groups, drawn.0), drawn.1)) (funcs_reach c (no_min_funcs c asked_for) (function_indexes 0 (types_of groups)) funcs h.back h.spells_funcs)

-- the groups stay, whatever follows
pub groups_on : (c : Config) (groups : List (List (SubType ℕ))) (funcs s rest : List ℕ) → IsAskable c → Spells c groups funcs s → (more left : List ℕ) × (front_at c (s ++ rest) ≡ Some ((map entry groups, more), left))
groups_on c groups funcs s rest asked_for h =
    let drawn = functions_at c (function_indexes 0 (types_of groups)) 0 (h.back ++ rest) in
    (drawn.0, drawn.1, front_parts c groups funcs s rest asked_for h)

-- the functions stay too, where an even byte follows
pub funcs_stay : (c : Config) (groups : List (List (SubType ℕ))) (funcs s : List ℕ) (byte : ℕ) (rest : List ℕ) → IsAskable c → Spells c groups funcs s → byte % 2 ≡ 0 → (left : List ℕ) × (front_at c (s ++ byte ∷ rest) ≡ Some ((map entry groups, funcs), left))
funcs_stay c groups funcs s byte rest asked_for h even =
    let drawn = functions_at c (function_indexes 0 (types_of groups)) 0 (h.back ++ byte ∷ rest) in
    let stay : drawn.0 ≡ funcs = funcs_on c (no_min_funcs c asked_for) (function_indexes 0 (types_of groups)) funcs h.back byte rest h.spells_funcs even in
    (drawn.1, front_parts c groups funcs s (byte ∷ rest) asked_for h ∙ ap (λ fs. Some ((map entry groups, fs), drawn.1)) stay)
