-- Imported items of the code as those of the specification.
use Rattle.std.proofs.Common.{◌≡◌, ◌<◌, ◌≤◌, ◌+◌, ℕ, List, [], ◌∷◌, ◌++◌, length, map, drop, get_or, refl, ap, sym, ◌∙◌}
use Rattle.std.specs.List.{flat_map}
use Rattle.std.proofs.lemmas.List.{drop_more, drop_all}
use Rattle.wasm_spec.specs.Types.{ExternalType, SubType}
use Rattle.wasm_smith_module.specs.Measured.{HasNoOwn}
use Rattle.wasm_smith_module.proofs.MadeNumbers.{alone, items_append}
use Rattle.wasm_smith_validity.specs.Spaces.{Spaces, spaces_of_types, with_items}

-- as many items of one type as there are names
pub named_alike : {A B C : Type 0} (f : A → B) (x : C) (names : List A) → map (λ name. x) (map f names) ≡ map (λ name. x) names
named_alike f x [] = refl
named_alike f x (name ∷ names) = ap (λ l. x ∷ l) (named_alike f x names)

pub imported_alone : (types : List (SubType ℕ)) (items : List (ExternalType ℕ)) → HasNoOwn (with_items (spaces_of_types types) items)
imported_alone types items =
    let same = sym (alone (spaces_of_types types) items) in
    record { functions = ap (λ (k : Spaces). k.own_functions) same; globals = ap (λ (k : Spaces). k.own_globals) same }

-- the items of one more entry
pub next_items : {A : Type 0} (f : A → List (ExternalType ℕ)) (xs : List A) (i : ℕ) (x : A) (k more all : Spaces) → i < length xs → x ≡ get_or xs i x → more ≡ with_items k (f x)
    → with_items k (flat_map f (drop i xs)) ≡ all → with_items more (flat_map f (drop (i + 1) xs)) ≡ all
next_items f xs i x k more all within is added so_far =
    let split : drop i xs ≡ x ∷ drop (i + 1) xs = drop_more xs i x within ∙ ap (λ y. y ∷ drop (i + 1) xs) (sym is) in
    ap (λ k. with_items k (flat_map f (drop (i + 1) xs))) added
    ∙ (sym (items_append k (f x) (flat_map f (drop (i + 1) xs))) ∙ (ap (λ l. with_items k (flat_map f l)) (sym split) ∙ so_far))

pub all_items : {A : Type 0} (f : A → List (ExternalType ℕ)) (xs : List A) (i : ℕ) (k all : Spaces) → length xs ≤ i → with_items k (flat_map f (drop i xs)) ≡ all → k ≡ all
all_items f xs i k all past so_far = ap (λ l. with_items k (flat_map f l)) (sym (drop_all i xs past)) ∙ so_far

-- what entries have, view by view
pub mapped_items : {A B : Type 0} (g : B → List (ExternalType ℕ)) (h : A → B) (xs : List A) → flat_map g (map h xs) ≡ flat_map (λ x. g (h x)) xs
mapped_items g h [] = refl
mapped_items g h (x ∷ xs) = ap (λ l. g (h x) ++ l) (mapped_items g h xs)
