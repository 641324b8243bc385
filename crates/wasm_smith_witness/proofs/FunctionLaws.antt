-- The places of function types that are kept, and the spelling of functions.
use Rattle.std.proofs.Common.{◌≡◌, ℕ, zero, suc, ◌+◌, ◌-◌, ◌≤◌, ◌<◌, ◌^◌, Bool, true, false, cond, List, [], ◌∷◌, ◌++◌, length, map, drop, get_or, Some, None, refl, sym, ◌∙◌, ap, append_assoc, arith}
use Rattle.std.specs.Prelude.{◌||◌, is_some, slice_get}
use Rattle.std.specs.List.{list_all}
use Rattle.std.specs.Option.{option_flatten}
use Rattle.std.proofs.lemmas.List.{append-nil, drop_more}
use Rattle.std.proofs.lemmas.Option.{slice_get_within}
use Rattle.std.proofs.lemmas.Bool.{and_parts}
use Rattle.wasm_spec.specs.Types.{SubType}
use Rattle.wasm_core_types.specs.SubTypes.{sub_type}
use Rattle.wasm_core_types.specs.declared.types.SubType as code
use Rattle.wasm_smith_types.specs.Spelling.{SpellsChoice, SpellsEach}
use Rattle.wasm_smith_witness.specs.Family.{is_function_at}
use Rattle.wasm_smith_witness.specs.Functions.{AreKept, are_some_resultless, places_after, place_in, place_word}
use Rattle.wasm_smith_definitions.specs.FunctionTypes.{is_function, is_resultless, function_indexes}
use Rattle.wasm_smith_witness.specs.Spelling.{SpellsFunctions}
use Rattle.wasm_smith_witness.specs.Words.{each_word, index_word, int_word, place_of}
use Rattle.wasm_smith_witness.specs.declared.functions.FunctionTypes.{FunctionTypes}
use Rattle.wasm_smith_witness.proofs.SpellLaws.{int_spells, each_spells}

-- ---- types that are kept

as_many : (types : List (SubType ℕ)) (a b : ℕ) → length (function_indexes a types) ≡ length (function_indexes b types)
as_many [] a b = refl
as_many (type ∷ types) a b = by_kind (is_function type.composite_type) (as_many types (suc a) (suc b))
  where
    by_kind : (kind : Bool) → length (function_indexes (suc a) types) ≡ length (function_indexes (suc b) types)
        → length (cond kind (a ∷ function_indexes (suc a) types) (function_indexes (suc a) types)) ≡ length (cond kind (b ∷ function_indexes (suc b) types) (function_indexes (suc b) types))
    by_kind true e = ap suc e
    by_kind false e = e

-- one more type
kept_resultless : (old now one others all : Bool) → now ≡ (old || one) → (old || (one || others)) ≡ all → (now || others) ≡ all
kept_resultless true now one others all e kept = rw e kept
kept_resultless false now one others all e kept = rw e kept

pub kept_function : (old new : FunctionTypes) (type : SubType ℕ) (rest types : List (SubType ℕ)) → is_function type.composite_type ≡ true → new.places.items ≡ old.places.items ++ Some old.count ∷ [] → new.count ≡ old.count + 1
    → new.has_resultless ≡ (old.has_resultless || is_resultless type.composite_type) → AreKept old (type ∷ rest) types → AreKept new rest types
kept_function old new type rest types is placed counted seen kept =
    let places : old.places.items ++ (Some old.count ∷ places_after (old.count + 1) rest) ≡ places_after 0 types = rw is at kept.places in
    let count : old.count + suc (length (function_indexes 1 rest)) ≡ length (function_indexes 0 types) = rw is at kept.count in
    record {
      places = rw (placed, counted) (simp append_assoc places);
      count = omega (arith, counted, count, as_many rest 1 0);
      resultless = kept_resultless old.has_resultless new.has_resultless (is_resultless type.composite_type) (are_some_resultless rest) (are_some_resultless types) seen kept.resultless;
    }

pub kept_other : (old new : FunctionTypes) (type : SubType ℕ) (rest types : List (SubType ℕ)) → is_function type.composite_type ≡ false → new.places.items ≡ old.places.items ++ None ∷ [] → new.count ≡ old.count
    → new.has_resultless ≡ (old.has_resultless || is_resultless type.composite_type) → AreKept old (type ∷ rest) types → AreKept new rest types
kept_other old new type rest types is placed counted seen kept =
    let places : old.places.items ++ (None ∷ places_after old.count rest) ≡ places_after 0 types = rw is at kept.places in
    let count : old.count + length (function_indexes 1 rest) ≡ length (function_indexes 0 types) = rw is at kept.count in
    record {
      places = rw (placed, counted) (simp append_assoc places);
      count = omega (arith, counted, count, as_many rest 1 0);
      resultless = kept_resultless old.has_resultless new.has_resultless (is_resultless type.composite_type) (are_some_resultless rest) (are_some_resultless types) seen kept.resultless;
    }

-- the next type of a group
pub next_type : (group : List code.SubType) (i : ℕ) (type : code.SubType) → i < length group → type ≡ get_or group i type → map sub_type (drop i group) ≡ sub_type type ∷ map sub_type (drop (i + 1) group)
next_type group i type lt is = ap (map sub_type) (drop_more group i type lt ∙ ap (λ t. t ∷ drop (i + 1) group) (sym is))

-- ---- places

found : (types : List (SubType ℕ)) (count index : ℕ) → option_flatten (slice_get (places_after count types) index) ≡ cond (is_function_at types index) (Some (count + place_of types index)) None
found [] count index = refl
found (type ∷ types) count zero = by_kind (is_function type.composite_type)
  where
    by_kind : (kind : Bool) → option_flatten (slice_get (cond kind (Some count ∷ places_after (count + 1) types) (None ∷ places_after count types)) 0) ≡ cond kind (Some (count + 0)) None
    by_kind true = let k : count + 0 ≡ count = omega arith in rw k refl
    by_kind false = refl
found (type ∷ types) count (suc index) = by_kind (is_function type.composite_type) (found types (count + 1) index) (found types count index)
  where
    by_kind : (kind : Bool) → option_flatten (slice_get (places_after (count + 1) types) index) ≡ cond (is_function_at types index) (Some (count + 1 + place_of types index)) None
        → option_flatten (slice_get (places_after count types) index) ≡ cond (is_function_at types index) (Some (count + place_of types index)) None
        → option_flatten (slice_get (cond kind (Some count ∷ places_after (count + 1) types) (None ∷ places_after count types)) (suc index))
        ≡ cond (is_function_at types index) (Some (count + cond kind (suc (place_of types index)) (place_of types index))) None
    by_kind true one other = let k : count + suc (place_of types index) ≡ count + 1 + place_of types index = omega arith in rw k one
    by_kind false one other = other

place_known : (known : FunctionTypes) (types : List (SubType ℕ)) → AreKept known [] types → (index : ℕ) → place_in known index ≡ cond (is_function_at types index) (Some (place_of types index)) None
place_known known types kept index =
    let all : known.places.items ≡ places_after 0 types = sym (append-nil known.places.items) ∙ kept.places in
    let k : 0 + place_of types index ≡ place_of types index = omega arith in
    rw all (rw k at (found types 0 index))

some_is : (b : Bool) (n : ℕ) → is_some (cond b (Some n) None) ≡ b
some_is true n = refl
some_is false n = refl

pub all_known : (known : FunctionTypes) (types : List (SubType ℕ)) → AreKept known [] types → (funcs : List ℕ) → list_all (λ index. is_some (place_in known index)) funcs ≡ list_all (is_function_at types) funcs
all_known known types kept [] = refl
all_known known types kept (index ∷ funcs) =
    let one : is_some (place_in known index) ≡ is_function_at types index = rw (place_known known types kept index) (some_is (is_function_at types index) (place_of types index)) in
    rw (one, all_known known types kept funcs) refl

word_known : (known : FunctionTypes) (types : List (SubType ℕ)) → AreKept known [] types → (index : ℕ) → is_function_at types index ≡ true → place_word known (place_in known index) ≡ index_word types index
word_known known types kept index on =
    let place : place_in known index ≡ Some (place_of types index) = rw on at (place_known known types kept index) in
    let count : known.count ≡ length (function_indexes 0 types) = omega (arith, kept.count) in
    rw (place, count) refl

pub words_known : (known : FunctionTypes) (types : List (SubType ℕ)) → AreKept known [] types → (funcs : List ℕ) → list_all (is_function_at types) funcs ≡ true
    → each_word (λ index. place_word known (place_in known index)) funcs ≡ each_word (index_word types) funcs
unfolding each_word
words_known known types kept [] all = refl
words_known known types kept (index ∷ funcs) all =
    let both = and_parts (is_function_at types index) (list_all (is_function_at types) funcs) all in
    rw (word_known known types kept index both.0, words_known known types kept funcs both.1) refl

-- ---- spellings

placed : (types : List (SubType ℕ)) (first index : ℕ) → is_function_at types index ≡ true → slice_get (function_indexes first types) (place_of types index) ≡ Some (first + index)
placed [] first index on = absurd cc
placed (type ∷ types) first zero on = let k : first + 0 ≡ first = omega arith in rw (on, k) refl
placed (type ∷ types) first (suc index) on =
    let k : first + suc index ≡ suc first + index = omega arith in
    rw k (by_kind (is_function type.composite_type) (placed types (suc first) index on))
  where
    by_kind : (b : Bool) → slice_get (function_indexes (suc first) types) (place_of types index) ≡ Some (suc first + index)
        → slice_get (cond b (first ∷ function_indexes (suc first) types) (function_indexes (suc first) types)) (cond b (suc (place_of types index)) (place_of types index)) ≡ Some (suc first + index)
    by_kind true rest = rest
    by_kind false rest = rest

indexes_few : (types : List (SubType ℕ)) (first : ℕ) → length (function_indexes first types) ≤ length types
indexes_few [] first = omega arith
indexes_few (type ∷ types) first = by_kind (is_function type.composite_type) (indexes_few types (suc first))
  where
    by_kind : (b : Bool) → length (function_indexes (suc first) types) ≤ length types → length (cond b (first ∷ function_indexes (suc first) types) (function_indexes (suc first) types)) ≤ suc (length types)
    by_kind true le = omega (arith, le)
    by_kind false le = omega (arith, le)

function_spells : (types : List (SubType ℕ)) → length types < 2 ^ 32 → (index : ℕ) → is_function_at types index ≡ true
    → SpellsChoice (function_indexes 0 types) index (int_word (length (function_indexes 0 types) - 1) (place_of types index))
function_spells types low index on =
    let k : 0 + index ≡ index = omega arith in
    let at : slice_get (function_indexes 0 types) (place_of types index) ≡ Some index = placed types 0 index on ∙ ap (λ n. Some n) k in
    let lt : place_of types index < length (function_indexes 0 types) = slice_get_within (function_indexes 0 types) (place_of types index) index at in
    let few : length (function_indexes 0 types) ≤ length types = indexes_few types 0 in
    (place_of types index, at, int_spells (length (function_indexes 0 types) - 1) (place_of types index) (omega arith) (omega arith))

no_functions : (types : List (SubType ℕ)) (funcs : List ℕ) → function_indexes 0 types ≡ [] → list_all (is_function_at types) funcs ≡ true → funcs ≡ []
no_functions types [] none all = refl
no_functions types (index ∷ funcs) none all =
    let both = and_parts (is_function_at types index) (list_all (is_function_at types) funcs) all in
    let at : slice_get (function_indexes 0 types) (place_of types index) ≡ Some (0 + index) = placed types 0 index both.0 in
    let lt : place_of types index < length (function_indexes 0 types) = slice_get_within (function_indexes 0 types) (place_of types index) (0 + index) at in
    let bad : place_of types index < 0 = rw none at lt in
    absurd (omega (arith, bad))

pub functions_spell : (types : List (SubType ℕ)) (max : ℕ) (funcs : List ℕ) → length types < 2 ^ 32 → list_all (is_function_at types) funcs ≡ true → length funcs ≤ max → SpellsFunctions (function_indexes 0 types) max funcs (each_word (index_word types) funcs)
unfolding each_word
functions_spell types max funcs low all few =
    by_list (function_indexes 0 types) refl (each_spells (is_function_at types) (SpellsChoice (function_indexes 0 types)) (index_word types) (function_spells types low) funcs all)
  where
    by_list : (indexes : List ℕ) → function_indexes 0 types ≡ indexes → SpellsEach (SpellsChoice indexes) funcs (each_word (index_word types) funcs) → SpellsFunctions indexes max funcs (each_word (index_word types) funcs)
    by_list [] none h = let nothing : funcs ≡ [] = no_functions types funcs none all in (nothing, rw nothing refl)
    by_list (first ∷ others) e h = (h, few)
