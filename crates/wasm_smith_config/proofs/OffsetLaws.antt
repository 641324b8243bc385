-- Texts of numbers with commas between them.
use Rattle.std.proofs.Common.{◌≡◌, ℕ, ◌^◌, ◌+◌, ◌<◌, ◌==◌, ◌&&◌, Bool, true, false, List, [], ◌∷◌, Option, Some, None, Result, Ok, Err, length, get_or, nat_lt, if◌then◌else◌, refl, sym, ap, ◌∙◌, arith}
use Rattle.std.specs.List.{position_or_len}
use Rattle.std.specs.Result.{OkIff, result_ok}
use Rattle.std.specs.Str.{all_ascii_digits}
use Rattle.std.specs.Str.Parse.{digits_value}
use Rattle.std.proofs.lemmas.Bool.{lt-ltb, ltb-true}
use Rattle.std.proofs.lemmas.List.{drop_all}
use Rattle.std.proofs.lemmas.Str.Parse.{IsNumeralModel, numerals_by_value, tells_all_ascii_digits}
use Rattle.wasm_smith_config.specs.Offsets.{number_at, choices_of, choices_at, front, rest}

pub digits : IsNumeralModel (λ text. all_ascii_digits text ≡ true) (digits_value 10)
digits = numerals_by_value _ tells_all_ascii_digits

some_false : (a b c : Bool) (n : ℕ) → (a ≡ true → b ≡ true → c ≡ true → ⊥) → (if a && b && c then Some n else None) ≡ None
some_false true true true n not = absurd (not refl refl refl)
some_false true true false n not = refl
some_false true false c n not = refl
some_false false b c n not = refl

all_true : (a b c : Bool) (n : ℕ) → a ≡ true → b ≡ true → c ≡ true → (if a && b && c then Some n else None) ≡ Some n
all_true true true true n _ _ _ = refl
all_true true true false n _ _ is = absurd cc
all_true true false c n _ is _ = absurd cc
all_true false b c n is _ _ = absurd cc

-- what a number without a plus is read as
pub number_is : {E : Type 0} → (text : List ℕ) (r : Result ℕ E) → OkIff r ((all_ascii_digits text ≡ true) × (0 < length text) × (digits_value 10 text < 2 ^ 32)) (digits_value 10 text) → result_ok r ≡ number_at text
unfolding number_at
number_is text (Ok n) ((all, some, small), same) =
    ap Some same ∙ sym (all_true (all_ascii_digits text) (nat_lt 0 (length text)) (nat_lt (digits_value 10 text) (2 ^ 32)) (digits_value 10 text) all (lt-ltb 0 (length text) some) (lt-ltb (digits_value 10 text) (2 ^ 32) small))
number_is text (Err e) not =
    sym (some_false (all_ascii_digits text) (nat_lt 0 (length text)) (nat_lt (digits_value 10 text) (2 ^ 32)) (digits_value 10 text)
    (λ all some small. not (all, ltb-true 0 (length text) some, ltb-true (digits_value 10 text) (2 ^ 32) small)))

-- with a plus it is none
pub no_plus : (text : List ℕ) → get_or text 0 0 ≡ 43 → None ≡ number_at text
unfolding number_at
no_plus [] is = refl
no_plus (byte ∷ bytes) is = let same : byte ≡ 43 = is in rw same refl

nothing : number_at [] ≡ None
unfolding number_at
nothing = refl

-- what has no comma has nothing after it, and so no number
no_rest : (text : List ℕ) → position_or_len (λ b. b == 44) text ≡ length text → rest text ≡ []
no_rest text none = drop_all (position_or_len (λ b. b == 44) text + 1) text (omega arith)

no_second : (first third : Option ℕ) → choices_of first None third ≡ None
no_second None third = refl
no_second (Some first) third = refl

no_third : (first second : Option ℕ) → choices_of first second None ≡ None
no_third None second = refl
no_third (Some first) None = refl
no_third (Some first) (Some second) = refl

pub no_comma : (text : List ℕ) → position_or_len (λ b. b == 44) text ≡ length text → None ≡ choices_at text
unfolding choices_at
no_comma text none = sym (
    ap (λ after. choices_of (number_at (front text)) (number_at (front after)) (number_at (rest after))) (no_rest text none)
    ∙ ap (λ second. choices_of (number_at (front text)) second (number_at (rest []))) nothing
    ∙ no_second (number_at (front text)) (number_at (rest [])))

pub one_comma : (text after : List ℕ) → after ≡ rest text → position_or_len (λ b. b == 44) after ≡ length after → None ≡ choices_at text
unfolding choices_at
one_comma text after is none = sym (
    ap (λ after. choices_of (number_at (front text)) (number_at (front after)) (number_at (rest after))) (sym is)
    ∙ ap (λ third. choices_of (number_at (front text)) (number_at (front after)) (number_at third)) (no_rest after none)
    ∙ ap (choices_of (number_at (front text)) (number_at (front after))) nothing
    ∙ no_third (number_at (front text)) (number_at (front after)))

pub three_parts : (text after first second third : List ℕ) → first ≡ front text → after ≡ rest text → second ≡ front after → third ≡ rest after → choices_of (number_at first) (number_at second) (number_at third) ≡ choices_at text
unfolding choices_at
three_parts text after first second third is_first is_after is_second is_third = rw (is_first, is_second, is_third, is_after) refl

-- the weights where each number is read, and where one is not
pub read_first : (text : List ℕ) (first second third : Option ℕ) → choices_of first second third ≡ choices_at text → None ≡ first → None ≡ choices_at text
read_first text first second third same none = ap (λ first. choices_of first second third) none ∙ same

pub read_second : (text : List ℕ) (first second third : Option ℕ) → choices_of first second third ≡ choices_at text → None ≡ second → None ≡ choices_at text
read_second text first second third same none = sym (no_second first third) ∙ ap (λ second. choices_of first second third) none ∙ same

pub read_third : (text : List ℕ) (first second third : Option ℕ) → choices_of first second third ≡ choices_at text → None ≡ third → None ≡ choices_at text
read_third text first second third same none = sym (no_third first second) ∙ ap (choices_of first second) none ∙ same

pub read_all : (text : List ℕ) (first second third : Option ℕ) (a b c : ℕ) → choices_of first second third ≡ choices_at text → Some a ≡ first → Some b ≡ second → Some c ≡ third → choices_of (Some a) (Some b) (Some c) ≡ choices_at text
read_all text first second third a b c same is_first is_second is_third =
    ap (λ o. choices_of o (Some b) (Some c)) is_first ∙ ap (λ o. choices_of first o (Some c)) is_second ∙ ap (choices_of first second) is_third ∙ same
