-- Items of types that are asked for, made one after the other.
use Rattle.std.proofs.Common.{◌≡◌, ℕ, zero, suc, ◌+◌, ◌<◌, ◌≤◌, Bool, true, false, ◌&&◌, ◌||◌, List, [], ◌∷◌, ◌++◌, map, length, length-append, refl, ap, sym, ◌∙◌, append_assoc, append-nil, arith, inl, inr, ◌⊎◌, subst, drop, get_or, nat_eq, Some}
use Rattle.std.specs.List.{AllByRecursion, Any}
use Rattle.std.proofs.lemmas.Bool.{and_from, and_parts, or_cases, or_right}
use Rattle.std.proofs.lemmas.List.{drop_all, drop_more, get_or-map, length-map, map_push}
use Rattle.wasm_spec.specs.Constants.{ConstantExpression}
use Rattle.wasm_spec.specs.Features.{Features, has, FunctionReferences, MultiMemory, ReferenceTypes}
use Rattle.wasm_spec.specs.Gates.{is_allowed}
use Rattle.wasm_spec.specs.Types as types
use Rattle.wasm_spec.specs.Types.{HeapType, Abstract, Concrete, Func, GlobalType, MemoryType, Ref, TableType}
use Rattle.wasm_validity.specs.Entries.{Entry}
use Rattle.wasm_validity.specs.Rules.{value_of}
use Rattle.wasm_validity.specs.TypeRules.{is_funcref, is_memory_type}
use Rattle.wasm_smith_config.specs.Config.{AreFeaturesOf}
use Rattle.wasm_smith_config.specs.declared.config.Config.{Config}
use Rattle.wasm_smith_unstructured.specs.declared.error.Error.{Error}
use Rattle.wasm_smith_unstructured.specs.declared.error.Error.TheVariants.{EmptyChoose, Memory}
use Rattle.wasm_smith_validity.specs.Constants.{IsConstant}
use Rattle.wasm_smith_validity.specs.Rules.{KeepAll, is_table_type}
use Rattle.wasm_smith_validity.specs.Spaces.{Spaces, is_named, is_value, spaces_after, spaces_after_all}
use Rattle.wasm_smith_validity.specs.ValidGroups.{AllKeepTypeRules}
use Rattle.wasm_smith_definitions.specs.Constants.{Gives, MayWrite}
use Rattle.wasm_smith_definitions.specs.Kinds.{of_memory, of_table}
use Rattle.wasm_smith_definitions.specs.OwnItems.{HasFewOf, KeepsOwnTableType, initialiser_at}
use Rattle.wasm_smith_definitions.specs.Steps.{Allows, IsStep}
use Rattle.wasm_smith_definitions.proofs.OfferedLaws.{asked_since}
use Rattle.wasm_smith_definitions.proofs.StepLaws.{known_append, no_step, one_more}
use Rattle.wasm_smith_definitions.proofs.TableLaws.{same_scope}

-- ---- a list of types

-- what is left of a list from an item on
pub left_is : {A B : Type 0} (f : A → B) (xs : List A) (i : ℕ) (d : A) → i < length xs → map f (drop i xs) ≡ f (get_or xs i d) ∷ map f (drop (i + 1) xs)
left_is f xs i d lt = ap (map f) (drop_more xs i d lt)

-- one of a list
pub any_at : {A B : Type 0} (P : B → Type 0) (f : A → B) (xs : List A) (i : ℕ) (d : A) → i < length xs → P (f (get_or xs i d)) → Any P (map f xs)
any_at P f xs i d lt holds =
    let within : i < length (map f xs) = omega (arith, length-map xs f, lt) in
    (i, f (get_or xs i d), within, get_or-map f xs i d (f (get_or xs i d)) lt, holds)

-- an error for an item is one for the list
pub one_refused : {A B : Type 0} (P : B → Type 0) (f : A → B) (xs : List A) (i : ℕ) (d : A) (e : Error) → i < length xs → (e ≡ Memory) ⊎ ((e ≡ EmptyChoose) × P (f (get_or xs i d)))
    → (e ≡ Memory) ⊎ ((e ≡ EmptyChoose) × Any P (map f xs))
one_refused P f xs i d e lt refused = elim refused [
  | inl memory ↦ inl memory
  | inr empty ↦ inr (empty.0, any_at P f xs i d lt empty.1)
]

pub not_empty : {A : Type 0} (xs : List A) (i : ℕ) → i < length xs → xs ≡ [] → ⊥
not_empty [] i lt e = omega (arith, lt)
not_empty (x ∷ xs) i lt e = cc

-- ---- items of these types

-- The invariant of a loop over types that makes an item of each: the items are a step, and of the types so far.
pub record AreMade {A B : Type 0} (c : Config) (entry : A → Entry) (type : A → B) (all : List B) (old now : Spaces) (items : List A) (rest : List B) : Type 0 where
  pub step : IsStep c entry old now items
  pub types : map type items ++ rest ≡ all

module _ {A B : Type 0} (c : Config) (entry : A → Entry) (type : A → B) (all : List B) where
  pub made_begins : (k : Spaces) (items : List A) → items ≡ [] → AreMade c entry type all k k items all
  made_begins k items none = rw none (record { step = no_step c entry k; types = refl })

  pub made_goes_on : (old k new : Spaces) (xs items : List A) (x : A) (first : B) (rest : List B) → AreMade c entry type all old k xs (first ∷ rest) → Allows c k (entry x) → type x ≡ first
      → new ≡ spaces_after k (entry x) → items ≡ xs ++ x ∷ [] → AreMade c entry type all old new items rest
  made_goes_on old k new xs items x first rest h allowed is e pushed =
      rw (e, pushed) (record {
        step = one_more c entry old k xs x h.step allowed;
        types = ap (λ ts. ts ++ rest) (map_push type xs x) ∙ append_assoc (map type xs) (type x ∷ []) rest ∙ ap (λ t. map type xs ++ t ∷ rest) is ∙ h.types;
      })

  pub made_ends : (old now : Spaces) (items : List A) → AreMade c entry type all old now items [] → map type items ≡ all
  made_ends old now items h = sym (append-nil (map type items)) ∙ h.types

-- the spaces after an item more
pub known_more : {A : Type 0} (entry : A → Entry) (old k new : Spaces) (xs items : List A) (x : A) → k ≡ spaces_after_all old (map entry xs) → new ≡ spaces_after k (entry x) → items ≡ xs ++ x ∷ []
    → new ≡ spaces_after_all old (map entry items)
known_more entry old k new xs items x known e pushed =
    rw (e, pushed) (ap (λ spaces. spaces_after spaces (entry x)) known ∙ sym (ap (spaces_after_all old) (map_push entry xs x) ∙ known_append old (map entry xs) (entry x ∷ [])))

-- an item is moved from the front of what is left to the end of what is made
pub one_moved : {A : Type 0} (xs items rest all : List A) (x : A) → xs ++ x ∷ rest ≡ all → items ≡ xs ++ x ∷ [] → items ++ rest ≡ all
one_moved xs items rest all x so_far pushed = rw pushed (append_assoc xs (x ∷ []) rest ∙ so_far)

pub all_moved : {A B : Type 0} (f : A → B) (made : List B) (xs : List A) (i : ℕ) → length xs ≤ i → made ++ map f (drop i xs) ≡ map f xs → made ≡ map f xs
all_moved f made xs i le so_far = sym (append-nil made) ∙ sym (ap (λ left. made ++ map f left) (drop_all i xs le)) ∙ so_far

-- ---- tables

-- what holds of the types of tables that are still to be made
pub record MayHoldTables (c : Config) (k : Spaces) (rest : List (TableType ℕ)) : Type 0 where
  pub rules : AllKeepTypeRules k.types
  pub no_own_globals : k.own_globals ≡ []
  pub kept : (features : Features) → AreFeaturesOf c features → AllByRecursion (KeepsOwnTableType features k.types) rest
  pub few : (features : Features) → AreFeaturesOf c features → HasFewOf (has features ReferenceTypes) (length k.tables + length rest)

pub one_table_less : (c : Config) (k new : Spaces) (type made : TableType ℕ) (rest : List (TableType ℕ)) → MayHoldTables c k (type ∷ rest) → made ≡ type → new ≡ record k { tables = k.tables ++ made ∷ [] } → MayHoldTables c new rest
one_table_less c k new type made rest h is e = rw (e, is) (record {
  rules = h.rules;
  no_own_globals = h.no_own_globals;
  kept = λ features f. (h.kept features f).1;
  few = λ features f off. let before = h.few features f off in let one = length-append k.tables (type ∷ []) in omega (arith, before, one);
})

-- there is none yet, or there may be several
pub first_or_several : (count others : ℕ) (several : Bool) → HasFewOf several (count + suc others) → (nat_eq count 0 || several) ≡ true
first_or_several zero others several few = refl
first_or_several (suc count) others true few = or_right _ true refl
first_or_several (suc count) others false few = let one = few refl in absurd (omega (arith, one))

both : true ≡ false → ⊥
both e = cc

-- an initialiser comes with garbage collection
pub initialised_since : (c : Config) (nullable written : Bool) (s t : List ℕ) → initialiser_at c nullable s ≡ (written, t) → written ≡ true → nullable ≡ true → (c.gc_enabled && c.reference_types_enabled) ≡ true
initialised_since c true written s t drawn is n = asked_since (c.gc_enabled && c.reference_types_enabled) s t written drawn is
initialised_since c false written s t drawn is n = absurd (both (sym n))

pub filled_own_table : (c : Config) (k : Spaces) (type : TableType ℕ) (e : ConstantExpression) → ((features : Features) → AreFeaturesOf c features → KeepsOwnTableType features k.types type)
    → ((features : Features) → AreFeaturesOf c features → (nat_eq (length k.tables) 0 || has features ReferenceTypes) ≡ true) → k.own_globals ≡ []
    → (type.element_type.nullable ≡ true → (c.gc_enabled && c.reference_types_enabled) ≡ true) → Gives c k (value_of type.element_type) e → Allows c k (of_table (record { type = type; initialiser = Some e }))
filled_own_table c k type e kept few none on gives features f = record {
  type = and_from (is_table_type features k.types type) _ (kept features f).type (few features f);
  filled = with_references type.element_type.nullable refl;
  initialiser = subst (λ s. IsConstant features s (value_of type.element_type) e) (same_scope features k none) (gives features f);
}
  where
    with_references : (nullable : Bool) → type.element_type.nullable ≡ nullable → has features FunctionReferences ≡ true
    with_references true is = f FunctionReferences ∙ (and_parts c.gc_enabled c.reference_types_enabled (on is)).0
    with_references false is = (kept features f).filled is

funcref_allowed : (features : Features) (nullable : Bool) (heap : HeapType ℕ) → is_funcref (record { nullable = nullable; heap_type = heap }) ≡ true → (nullable ≡ true → has features ReferenceTypes ≡ true)
    → is_allowed features (Ref nullable heap) ≡ true
funcref_allowed features true (Abstract Func) e on = and_from (has features ReferenceTypes) true (on refl) refl
funcref_allowed features true (Abstract types.Extern) e on = absurd cc
funcref_allowed features true (Abstract types.Any) e on = absurd cc
funcref_allowed features true (Abstract types.None) e on = absurd cc
funcref_allowed features true (Abstract types.NoExtern) e on = absurd cc
funcref_allowed features true (Abstract types.NoFunc) e on = absurd cc
funcref_allowed features true (Abstract types.Eq) e on = absurd cc
funcref_allowed features true (Abstract types.Struct) e on = absurd cc
funcref_allowed features true (Abstract types.Array) e on = absurd cc
funcref_allowed features true (Abstract types.I31) e on = absurd cc
funcref_allowed features true (Abstract types.Exn) e on = absurd cc
funcref_allowed features true (Abstract types.NoExn) e on = absurd cc
funcref_allowed features true (Abstract types.Cont) e on = absurd cc
funcref_allowed features true (Abstract types.NoCont) e on = absurd cc
funcref_allowed features true (Concrete index) e on = absurd cc
funcref_allowed features false heap e on = absurd cc

-- the elements of a table that has an initialiser are of a type that the module may write
pub own_element_written : (c : Config) (k : Spaces) (type : TableType ℕ) → ((features : Features) → AreFeaturesOf c features → KeepsOwnTableType features k.types type)
    → (type.element_type.nullable ≡ true → (c.gc_enabled && c.reference_types_enabled) ≡ true) → MayWrite c k (value_of type.element_type)
own_element_written c k type kept on features f =
    let element = type.element_type in
    let parts = and_parts (is_funcref element || is_allowed features (value_of element)) (is_named k.types element.heap_type) (and_parts _ _ (kept features f).type).0 in
    let references : element.nullable ≡ true → has features ReferenceTypes ≡ true = λ null. f ReferenceTypes ∙ (and_parts c.gc_enabled c.reference_types_enabled (on null)).1 in
    let allowed : is_allowed features (value_of element) ≡ true = elim (or_cases (is_funcref element) (is_allowed features (value_of element)) parts.0) [
      | inl func ↦ funcref_allowed features element.nullable element.heap_type func references
      | inr here ↦ here
    ] in
    and_from (is_allowed features (value_of element)) _ allowed parts.1

-- ---- memories

-- memories of types that keep their rule are a step, under each configuration
pub memories_keep : (features : Features) (k : Spaces) (ms : List MemoryType) → AllByRecursion (λ type. is_memory_type features type ≡ true) ms → HasFewOf (has features MultiMemory) (length k.memories + length ms)
    → KeepAll features k (map of_memory ms)
memories_keep features k [] all few = tt
memories_keep features k (m ∷ ms) all few = (
  and_from (is_memory_type features m) _ all.0 (first_or_several (length k.memories) (length ms) (has features MultiMemory) few),
  memories_keep features (spaces_after k (of_memory m)) ms all.1 (λ off. let before = few off in let one = length-append k.memories (m ∷ []) in omega (arith, before, one)),
)

-- the memories of these types are a step for each configuration whose features allow them
pub memories_step : (c : Config) (old new : Spaces) (made all : List MemoryType) → made ≡ all → new ≡ spaces_after_all old (map of_memory made)
    → ((features : Features) → AreFeaturesOf c features → AllByRecursion (λ type. is_memory_type features type ≡ true) all)
    → ((features : Features) → AreFeaturesOf c features → HasFewOf (has features MultiMemory) (length old.memories + length all)) → IsStep c of_memory old new made
memories_step c old new made all is known kept few = record {
  keep = λ features f. rw is (memories_keep features old all (kept features f) (few features f));
  known = known;
}

-- ---- globals

-- what holds of the types of globals that are still to be made
pub record MayHoldGlobals (c : Config) (k : Spaces) (rest : List (GlobalType ℕ)) : Type 0 where
  pub rules : AllKeepTypeRules k.types
  pub kept : (features : Features) → AreFeaturesOf c features → AllByRecursion (λ type. is_value features k.types type.value_type ≡ true) rest

pub one_global_less : (c : Config) (k new : Spaces) (type made : GlobalType ℕ) (rest : List (GlobalType ℕ)) → MayHoldGlobals c k (type ∷ rest) → new ≡ record k { own_globals = k.own_globals ++ made ∷ [] } → MayHoldGlobals c new rest
one_global_less c k new type made rest h e = rw e (record { rules = h.rules; kept = λ features f. (h.kept features f).1 })
