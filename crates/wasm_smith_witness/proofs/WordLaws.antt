-- Spellings as loops write them.
use Rattle.std.proofs.Common.{◌≡◌, ℕ, zero, suc, ◌-◌, ◌+◌, ◌≤◌, ◌<◌, List, [], ◌∷◌, ◌++◌, length, map, take, drop, get_or, cond, Bool, Result, Ok, Err, refl, sym, ap, ◌∙◌, append_assoc, arith}
use Rattle.std.specs.Prelude.{IfOk, is_ok, nat_lt}
use Rattle.std.specs.Int.{bytes_high_first}
use Rattle.std.proofs.lemmas.List.{append-nil, drop_more, at_drop_all, take_all, length-map}
use Rattle.wasm_core_types.specs.SubTypes.{composite_type, sub_type}
use Rattle.wasm_core_types.specs.declared.types.SubType.{SubType}
use Rattle.wasm_smith_unstructured.specs.Draws.{width}
use Rattle.wasm_smith_config.specs.declared.config.Config.{Config}
use Rattle.wasm_smith_types.specs.Drawing.{asks_then, asked_after}
use Rattle.wasm_smith_witness.specs.Words.{no_word, int_word, each_word, list_word, type_word, members_word, lone_composite_word, lone_word}

-- ---- one after the other

pub each_step : {A : Type 0} (word : A → List ℕ) (out one two : List ℕ) (xs : List A) (i : ℕ) (d : A) (total : List ℕ) → i < length xs → one ≡ out ++ 1 ∷ [] → two ≡ one ++ word (get_or xs i d)
    → out ++ each_word word (drop i xs) ≡ total → two ++ each_word word (drop (i + 1) xs) ≡ total
unfolding each_word
each_step word out one two xs i d total lt first second so_far =
    let e : drop i xs ≡ get_or xs i d ∷ drop (i + 1) xs = drop_more xs i d lt in
    rw (second, first) (simp append_assoc (rw e at so_far))

-- the same where the item is named
pub each_item : {A : Type 0} (word : A → List ℕ) (out one two : List ℕ) (xs : List A) (i : ℕ) (x : A) (total : List ℕ) → i < length xs → x ≡ get_or xs i x → one ≡ out ++ 1 ∷ [] → two ≡ one ++ word x
    → out ++ each_word word (drop i xs) ≡ total → two ++ each_word word (drop (i + 1) xs) ≡ total
each_item word out one two xs i x total lt is first second so_far = each_step word out one two xs i x total lt first (second ∙ ap (λ y. one ++ word y) is) so_far

pub each_done : {A : Type 0} (word : A → List ℕ) (out : List ℕ) (xs : List A) (i : ℕ) (total : List ℕ) → length xs ≤ i → out ++ each_word word (drop i xs) ≡ total → out ≡ total
unfolding each_word
each_done word out xs i total le so_far =
    let none : each_word word (drop i xs) ≡ [] = at_drop_all (each_word word) xs i le in
    sym (append-nil out) ∙ (rw none at so_far)

each_map : {A B : Type 0} (word : B → List ℕ) (f : A → B) (xs : List A) → each_word (λ x. word (f x)) xs ≡ each_word word (map f xs)
unfolding each_word
each_map word f [] = refl
each_map word f (x ∷ xs) = rw (each_map word f xs) refl

each_seen : {A B : Type 0} (word : B → List ℕ) (f : A → B) (old out : List ℕ) (xs : List A) (i : ℕ) → length xs ≤ i → out ++ each_word (λ x. word (f x)) (drop i xs) ≡ old ++ each_word (λ x. word (f x)) xs → out ≡ old ++ each_word word (map f xs)
each_seen word f old out xs i le so_far = each_done (λ x. word (f x)) out xs i (old ++ each_word (λ x. word (f x)) xs) le so_far ∙ ap (λ w. old ++ w) (each_map word f xs)

-- the end of a list
pub list_end : {A B : Type 0} (word : B → List ℕ) (f : A → B) (max : ℕ) (old out new : List ℕ) (asked : Bool) (xs : List A) (i : ℕ) → length xs ≤ i → asked ≡ nat_lt (length xs) max → new ≡ out ++ no_word asked
    → out ++ each_word (λ x. word (f x)) (drop i xs) ≡ old ++ each_word (λ x. word (f x)) xs → new ≡ old ++ list_word word max (map f xs)
unfolding list_word
list_end word f max old out new asked xs i le is last so_far =
    rw (length-map xs f, sym is, last, each_seen word f old out xs i le so_far) (append_assoc old (each_word word (map f xs)) (no_word asked))

-- ---- types

pub members_step : (c : Config) (bound : ℕ) (asked : Bool) (out two : List ℕ) (types : List SubType) (i : ℕ) (type : SubType) (total : List ℕ) → i < length types → type ≡ get_or types i type → two ≡ out ++ type_word c bound asked (sub_type type)
    → out ++ members_word c bound asked (map sub_type (drop i types)) ≡ total → two ++ members_word c bound (asks_then asked (sub_type type)) (map sub_type (drop (i + 1) types)) ≡ total
unfolding members_word
members_step c bound asked out two types i type total lt is written so_far =
    let e : drop i types ≡ type ∷ drop (i + 1) types = drop_more types i type lt ∙ ap (λ t. t ∷ drop (i + 1) types) (sym is) in
    rw written (simp append_assoc (rw e at so_far))

pub asks_step : (asked : Bool) (types : List SubType) (i : ℕ) (type : SubType) (total : Bool) → i < length types → type ≡ get_or types i type
    → asked_after asked (map sub_type (drop i types)) ≡ total → asked_after (asks_then asked (sub_type type)) (map sub_type (drop (i + 1) types)) ≡ total
asks_step asked types i type total lt is so_far =
    let e : drop i types ≡ type ∷ drop (i + 1) types = drop_more types i type lt ∙ ap (λ t. t ∷ drop (i + 1) types) (sym is) in
    rw e at so_far

pub asks_done : (asked : Bool) (types : List SubType) (i : ℕ) (total : Bool) → length types ≤ i → asked_after asked (map sub_type (drop i types)) ≡ total → asked ≡ total
asks_done asked types i total le so_far =
    let none : asked_after asked (map sub_type (drop i types)) ≡ asked = at_drop_all (λ ts. asked_after asked (map sub_type ts)) types i le in
    sym none ∙ so_far

pub members_done : (c : Config) (bound : ℕ) (asked : Bool) (out : List ℕ) (types : List SubType) (i : ℕ) (total : List ℕ) → length types ≤ i → out ++ members_word c bound asked (map sub_type (drop i types)) ≡ total → out ≡ total
unfolding members_word
members_done c bound asked out types i total le so_far =
    let none : members_word c bound asked (map sub_type (drop i types)) ≡ [] = at_drop_all (λ ts. members_word c bound asked (map sub_type ts)) types i le in
    sym (append-nil out) ∙ (rw none at so_far)

-- the types of a group without garbage collection
pub lone_step : (c : Config) (out two : List ℕ) (types : List SubType) (i : ℕ) (type : SubType) (total : List ℕ) → i < length types → type ≡ get_or types i type → two ≡ out ++ lone_composite_word c (composite_type type.composite_type)
    → out ++ lone_word c (map sub_type (drop i types)) ≡ total → two ++ lone_word c (map sub_type (drop (i + 1) types)) ≡ total
unfolding lone_word
lone_step c out two types i type total lt is written so_far =
    let e : drop i types ≡ type ∷ drop (i + 1) types = drop_more types i type lt ∙ ap (λ t. t ∷ drop (i + 1) types) (sym is) in
    rw written (simp append_assoc (rw e at so_far))

pub lone_done : (c : Config) (out : List ℕ) (types : List SubType) (i : ℕ) (total : List ℕ) → length types ≤ i → out ++ lone_word c (map sub_type (drop i types)) ≡ total → out ≡ total
unfolding lone_word
lone_done c out types i total le so_far =
    let none : lone_word c (map sub_type (drop i types)) ≡ [] = at_drop_all (λ ts. lone_word c (map sub_type ts)) types i le in
    sym (append-nil out) ∙ (rw none at so_far)

-- ---- numbers

low_bytes : (more w n : ℕ) → drop more (bytes_high_first (more + w) n) ≡ bytes_high_first w n
low_bytes zero w n = let k : 0 + w ≡ w = omega arith in rw k refl
low_bytes (suc more) w n = let k : suc more + w ≡ suc (more + w) = omega arith in rw k (low_bytes more w n)

pub high_length : (w n : ℕ) → length (bytes_high_first w n) ≡ w
high_length zero n = refl
high_length (suc w) n = ap suc (high_length w n)

pub int_written : {E : Type 0} (greatest n w : ℕ) (old new bytes : List ℕ) (r : Result (Unit {0}) E) → w ≡ width greatest → w ≤ 8 → bytes ≡ bytes_high_first 8 n → new ≡ cond (is_ok r) (old ++ take (8 - (8 - w)) (drop (8 - w) bytes)) old → IfOk r (λ _. new ≡ old ++ int_word greatest n)
unfolding int_word
int_written greatest n w old new bytes (Err e) is few all h = tt
int_written greatest n w old new bytes (Ok u) is few all h =
    let k : 8 ≡ 8 - w + w = omega arith in
    let whole : bytes ≡ bytes_high_first (8 - w + w) n = all ∙ ap (λ m. bytes_high_first m n) k in
    let low : drop (8 - w) bytes ≡ bytes_high_first w n = ap (drop (8 - w)) whole ∙ low_bytes (8 - w) w n in
    let every : take (8 - (8 - w)) (bytes_high_first w n) ≡ bytes_high_first w n = take_all _ _ (omega (arith, high_length w n)) in
    h ∙ ap (λ ys. old ++ ys) (ap (take (8 - (8 - w))) low ∙ every ∙ ap (λ m. bytes_high_first m n) is)
