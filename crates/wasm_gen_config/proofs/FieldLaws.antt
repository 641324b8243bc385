-- The values that the field of a key takes, kind of field by kind of field.
use Rattle.std.proofs.Common.{◌≡◌, ℕ, ◌++◌, ◌||◌, Bool, cond, map, Bor, List, [], ◌∷◌, Option, Some, None, refl, sym, ap, ◌∙◌, inl, inr}
use Rattle.std.specs.List.{find, list_any}
use Rattle.std.specs.Option.{option_map}
use Rattle.std.specs.Str.{bytes_eq}
use Rattle.std.proofs.lemmas.Bool.{cases_Bool}
use Rattle.wasm_gen_config.specs.Fields.{switches, counts, sizes, wide_sizes, kinds, weights, names, is_in, each_takes, largest, known, takes}
use Rattle.wasm_gen_config.specs.declared.bad_key.Takes.{Takes}
use Rattle.wasm_gen_config.specs.declared.bad_key.Takes.TheVariants.{Boolean, NumberTo, Kinds, Weights}

-- a key among names that are lent
pub among : (key : List ℕ) (all : List (Bor (List ℕ))) → list_any (λ name. bytes_eq name.now key) all ≡ is_in key (map (λ name. name.now) all)
unfolding is_in
among key [] = refl
among key (name ∷ all) = ap (λ rest. bytes_eq name.now key || rest) (among key all)

-- the answer of a test on names that are lent, for the names
pub told : (key : List ℕ) (lent : List (Bor (List ℕ))) (all : List (List ℕ)) (result answer : Bool)
    → result ≡ is_in key (map (λ name. name.now) lent) → map (λ name. name.now) lent ≡ all → result ≡ answer → is_in key all ≡ answer
told key lent all result answer is same answered = ap (is_in key) (sym same) ∙ sym is ∙ answered

-- the first of these rows that has the key
abbrev taken_by : List ℕ → List (List ℕ × Takes) → Option Takes
taken_by key rows = option_map (λ entry. entry.1) (find (λ entry. bytes_eq entry.0 key) rows)

-- names of one kind first
first_names : (key : List ℕ) (what : Takes) (all : List (List ℕ)) (rest : List (List ℕ × Takes)) (after : Option Takes) → taken_by key rest ≡ after
    → taken_by key (each_takes what all ++ rest) ≡ cond (is_in key all) (Some what) after
unfolding is_in
first_names key what [] rest after is = is
first_names key what (name ∷ all) rest after is =
    elim (cases_Bool (bytes_eq name key)) [
      | inl same ↦ rw same
      | inr other ↦ rw other (first_names key what all rest after is)
    ]

-- names of one kind alone
last_names : (key : List ℕ) (what : Takes) (all : List (List ℕ)) → taken_by key (each_takes what all) ≡ cond (is_in key all) (Some what) None
unfolding is_in
last_names key what [] = refl
last_names key what (name ∷ all) =
    elim (cases_Bool (bytes_eq name key)) [
      | inl same ↦ rw same
      | inr other ↦ rw other (last_names key what all)
    ]

-- the values for a key that is among names of these kinds
abbrev pub taken_among : Bool → Bool → Bool → Bool → Bool → Bool → Option Takes
taken_among switch count size wide_size kind weight =
    cond switch (Some Boolean) (cond count (Some (NumberTo (largest 32))) (cond size (Some (NumberTo (largest 64)))
    (cond wide_size (Some (NumberTo (largest 128))) (cond kind (Some Kinds) (cond weight (Some Weights) None)))))

-- the names from each kind on
from_weights : List (List ℕ × Takes)
from_weights = each_takes Weights (names weights)

from_kinds : List (List ℕ × Takes)
from_kinds = each_takes Kinds (names kinds) ++ from_weights

from_wide_sizes : List (List ℕ × Takes)
from_wide_sizes = each_takes (NumberTo (largest 128)) (names wide_sizes) ++ from_kinds

from_sizes : List (List ℕ × Takes)
from_sizes = each_takes (NumberTo (largest 64)) (names sizes) ++ from_wide_sizes

from_counts : List (List ℕ × Takes)
from_counts = each_takes (NumberTo (largest 32)) (names counts) ++ from_sizes

takes_is : (key : List ℕ) → takes key ≡ taken_among (is_in key (names switches)) (is_in key (names counts)) (is_in key (names sizes)) (is_in key (names wide_sizes)) (is_in key (names kinds)) (is_in key (names weights))
unfolding takes known from_weights from_kinds from_wide_sizes from_sizes from_counts
takes_is key =
    first_names key Boolean (names switches) from_counts _ (
    first_names key (NumberTo (largest 32)) (names counts) from_sizes _ (
    first_names key (NumberTo (largest 64)) (names sizes) from_wide_sizes _ (
    first_names key (NumberTo (largest 128)) (names wide_sizes) from_kinds _ (
    first_names key Kinds (names kinds) from_weights _ (
    last_names key Weights (names weights))))))

same_among : (s t a b c d e f g h i j : Bool) → s ≡ t → a ≡ b → c ≡ d → e ≡ f → g ≡ h → i ≡ j → taken_among s a c e g i ≡ taken_among t b d f h j
same_among s t a b c d e f g h i j st ab cd ef gh ij = rw (st, ab, cd, ef, gh, ij)

pub takes_among : (key : List ℕ) (switch count size wide_size kind weight : Bool) → is_in key (names switches) ≡ switch → is_in key (names counts) ≡ count
    → is_in key (names sizes) ≡ size → is_in key (names wide_sizes) ≡ wide_size → is_in key (names kinds) ≡ kind → is_in key (names weights) ≡ weight
    → takes key ≡ taken_among switch count size wide_size kind weight
takes_among key switch count size wide_size kind weight a b c d e f =
    takes_is key ∙ same_among _ switch _ count _ size _ wide_size _ kind _ weight a b c d e f
