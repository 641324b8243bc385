-- Functions are declared by flags, one after the other.
use Rattle.std.proofs.Common.{◌≡◌, ◌≢◌, ◌≤◌, ◌<◌, ◌+◌, inl, inr, ℕ, zero, suc, Bool, true, false, List, [], ◌∷◌, ◌++◌, length, take, Result, Ok, Err, IfOk, refl, sym, ap, subst, ◌∙◌, arith}
use Rattle.std.specs.Prelude.{◌||◌, get_or, nat_eq, replicate, set}
use Rattle.std.specs.List.{AllByRecursion, list_any}
use Rattle.std.proofs.Math.Path.{fun_ext}
use Rattle.std.proofs.lemmas.Bool.Decides.{eqb_tells}
use Rattle.std.proofs.lemmas.Grind.{get_or-set_at}
use Rattle.std.proofs.lemmas.List.{append-nil, get_or-replicate, get_or-set_other, get_or_past, length-append, length-replicate, take_all}
use Rattle.wasm_core_read.proofs.Forms.{ltb_tells}
use Rattle.std.proofs.lemmas.List.Folds.{list_any-append}
use Rattle.wasm_spec.specs.Constants.{ConstantOperator, ConstantExpression}
use Rattle.wasm_validity.specs.Context.{Context, named_by, named_in, with_functions}
use Rattle.wasmparser_entries.specs.ConstOperators.{const_operator}
use Rattle.wasmparser_entries.specs.declared.const_operator.ConstOperator.{ConstOperator}
use Rattle.wasmparser_entries.specs.declared.const_operator.ConstOperator.TheVariants as operators
use Rattle.wasmparser_error.specs.declared.error.Error.{Error}
use Rattle.wasmparser_module_state.specs.State.{AreThere}

-- ---- flags

abbrev flagged : List Bool → ℕ → Bool
flagged flags = λ function. get_or flags function false

pub flag_is_set : (flags : List Bool) (place : ℕ) → place < length flags → flagged (set flags place true) ≡ with_functions (flagged flags) (place ∷ [])
flag_is_set flags place lt = fun_ext (λ function. at function)
  where
    at : (function : ℕ) → flagged (set flags place true) function ≡ with_functions (flagged flags) (place ∷ []) function
    at function = elim (eqb_tells function place) [
      | inl (t, same) ↦ get_or-set_at flags place function true false same lt ∙ rw t refl
      | inr (t, other) ↦ get_or-set_other flags place function true false other ∙ rw t refl
    ]

none_in : (count function : ℕ) → flagged (replicate count false) function ≡ false
none_in count function = elim (ltb_tells function count) [
  | inl (t, lt) ↦ get_or-replicate count function false false lt
  | inr (t, le) ↦ get_or_past (replicate count false) function false (subst (λ n. n ≤ function) (sym (length-replicate count false)) le)
]

more_add_none : (flags more : List Bool) (function : ℕ) → ((place : ℕ) → flagged more place ≡ false) → flagged (flags ++ more) function ≡ flagged flags function
more_add_none [] more function none = none function
more_add_none (flag ∷ flags) more zero none = refl
more_add_none (flag ∷ flags) more (suc function) none = more_add_none flags more function none

-- room for more functions declares none
pub room_adds_none : (flags new : List Bool) (count more : ℕ) → length flags ≤ count → new ≡ take count flags ++ replicate more false → flagged new ≡ flagged flags
room_adds_none flags new count more le is =
    fun_ext (λ function. ap (λ items. flagged items function) (is ∙ ap (λ front. front ++ replicate more false) (take_all count flags le))
    ∙ more_add_none flags (replicate more false) function (none_in more))

-- ---- several functions

any_moved : (a b c : Bool) → (b || (a || c)) ≡ ((a || b) || c)
any_moved true true c = refl
any_moved true false c = refl
any_moved false b true = refl
any_moved false true false = refl
any_moved false false false = refl

-- some functions and then others
pub in_turn : (declared : ℕ → Bool) (xs ys : List ℕ) → with_functions (with_functions declared xs) ys ≡ with_functions declared (xs ++ ys)
in_turn declared xs ys = fun_ext (λ function. any_moved (list_any (nat_eq function) xs) (list_any (nat_eq function) ys) (declared function) ∙ ap (λ any. any || declared function) (sym (list_any-append (nat_eq function) xs ys)))

-- ---- lists of functions

pub all_below : (n m : ℕ) (functions : List ℕ) → n ≤ m → AllByRecursion (λ function. function < n) functions → AllByRecursion (λ function. function < m) functions
all_below n m [] le all = tt
all_below n m (function ∷ functions) le all = (omega (arith, le, all.0), all_below n m functions le all.1)

pub first_part : (P : ℕ → Type 0) (xs ys : List ℕ) → AllByRecursion P (xs ++ ys) → AllByRecursion P xs
first_part P [] ys all = tt
first_part P (x ∷ xs) ys all = (all.0, first_part P xs ys all.1)

pub second_part : (P : ℕ → Type 0) (xs ys : List ℕ) → AllByRecursion P (xs ++ ys) → AllByRecursion P ys
second_part P [] ys all = all
second_part P (x ∷ xs) ys all = second_part P xs ys all.1

pub both_parts : (P : ℕ → Type 0) (xs ys : List ℕ) → AllByRecursion P xs → AllByRecursion P ys → AllByRecursion P (xs ++ ys)
both_parts P [] ys first second = second
both_parts P (x ∷ xs) ys first second = (first.0, both_parts P xs ys first.1 second)

-- functions have their flags where there is room for each
pub functions_fit : (cx : Context) (room : ℕ) (functions : List ℕ) → length cx.imported_functions + length cx.own_functions ≤ room → AreThere cx functions → AllByRecursion (λ function. function < room) functions
functions_fit cx room functions le are = all_below (length (cx.imported_functions ++ cx.own_functions)) room functions (omega (arith, le, length-append cx.imported_functions cx.own_functions)) are

-- where none are named nothing more is declared
pub none_named : (cx : Context) (functions : List ℕ) (result : Result (Unit {0}) Error) → functions ≡ [] → IfOk result (λ _. cx ≡ record cx { declared = with_functions cx.declared functions })
none_named cx functions (Ok x) none = ap (λ list. record cx { declared = with_functions cx.declared list }) (sym none)
none_named cx functions (Err e) none = tt

-- ---- the functions that an expression names

-- Some operators were read, and what they name was declared: with what is named by those that are left as much is declared as with all, and there is room for it.
abbrev pub IsDeclaring : (first : ℕ → Bool) (first_room : ℕ) (all : ConstantExpression) (now : ℕ → Bool) (room : ℕ) (left : ConstantExpression) → Type 0
IsDeclaring first first_room all now room left =
    AllByRecursion (λ function. function < room) (named_in left) × (with_functions now (named_in left) ≡ with_functions first (named_in all)) × (room ≡ first_room)

pub operator_read : (first now new : ℕ → Bool) (first_room room new_room : ℕ) (operator : ConstantOperator) (all old next : ConstantExpression) → old ≡ operator ∷ next → IsDeclaring first first_room all now room old
    → new ≡ with_functions now (named_by operator) → new_room ≡ room → IsDeclaring first first_room all new new_room next
operator_read first now new first_room room new_room operator all old next parts (fit, sets, same) added kept = (
  subst (λ n. AllByRecursion (λ function. function < n) (named_in next)) (sym kept)
      (second_part (λ function. function < room) (named_by operator) (named_in next) (subst (λ expression. AllByRecursion (λ function. function < room) (named_in expression)) parts fit)),
  ap (λ set. with_functions set (named_in next)) added ∙ in_turn now (named_by operator) (named_in next) ∙ ap (λ expression. with_functions now (named_in expression)) (sym parts) ∙ sets,
  kept ∙ same,
)

-- no operator but one names functions
pub other_names_none : (operator : ConstOperator) → ((function : ℕ) → operator ≢ operators.RefFunc function) → named_by (const_operator operator) ≡ []
other_names_none (operators.I32Const value) other = refl
other_names_none (operators.I64Const value) other = refl
other_names_none (operators.F32Const bits) other = refl
other_names_none (operators.F64Const bits) other = refl
other_names_none (operators.V128Const bytes) other = refl
other_names_none (operators.RefNull type) other = refl
other_names_none (operators.RefFunc function) other = absurd (other function refl)
other_names_none (operators.GlobalGet global) other = refl
other_names_none operators.I32Add other = refl
other_names_none operators.I32Sub other = refl
other_names_none operators.I32Mul other = refl
other_names_none operators.I64Add other = refl
other_names_none operators.I64Sub other = refl
other_names_none operators.I64Mul other = refl
other_names_none (operators.StructNew type) other = refl
other_names_none (operators.StructNewDefault type) other = refl
other_names_none (operators.ArrayNew type) other = refl
other_names_none (operators.ArrayNewDefault type) other = refl
other_names_none (operators.ArrayNewFixed type len) other = refl
other_names_none operators.AnyConvertExtern other = refl
other_names_none operators.ExternConvertAny other = refl
other_names_none operators.RefI31 other = refl

-- what an expression names that is a single operator
pub named_alone : (operator : ConstantOperator) (expression : ConstantExpression) → expression ≡ operator ∷ [] → named_in expression ≡ named_by operator
named_alone operator expression is = ap named_in is ∙ append-nil (named_by operator)

pub ruleset flag_steps = (flag_is_set)

pub ruleset room_steps = (room_adds_none)

pub ruleset fitting_steps = (functions_fit)
