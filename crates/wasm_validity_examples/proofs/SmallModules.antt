-- Small modules: their types keep the rules and pass no limit, and what stands at the place of a function.
use Rattle.std.proofs.Common.{◌≡◌, ◌≤◌, ◌<◌, ℕ, zero, suc, true, List, [], ◌∷◌, length, slice_get, Some, refl, sym, subst, arith, length-append, ap}
use Rattle.wasm_bodies.specs.Bodies.{IsFunctionBody, in_function}
use Rattle.wasm_bodies.specs.BodyContext.{ModuleItems}
use Rattle.wasm_bodies.specs.Effects.{effect}
use Rattle.wasm_bodies.specs.Operands.{State, fresh}
use Rattle.wasm_bodies.specs.Operators.{Operator}
use Rattle.wasm_spec.specs.Bytes.{IsU32}
use Rattle.wasm_spec.specs.Features.{Features}
use Rattle.wasm_spec.specs.Groups.{PassesLimit, items_in}
use Rattle.wasm_spec.specs.Limits.{Limit, Fields, Params, Results, most}
use Rattle.wasm_spec.specs.Syntax.{Section, bodies_of, functions_of, types_of}
use Rattle.wasm_spec.specs.Trees.{DefType, tree_of, unrolled}
use Rattle.wasm_spec.specs.Types.{FieldType, FuncComposite, FuncType, Group, I32, StructComposite, SubType}
use Rattle.wasm_spec_examples.specs.TypeExamples.{empty_function, empty_structure, final_type, gives, takes}
use Rattle.wasm_validity.specs.ModuleBodies.{Below, BodyAt, TellsBelow, func_type_in, items_in as module_items}
use Rattle.wasm_validity.specs.Modules.{IsTypedBody, IsValid}
use Rattle.wasm_validity.specs.Context.{Context}
use Rattle.wasm_validity.specs.DefinedTypes.{PassesGroupLimit}
use Rattle.wasm_validity.specs.Rules.{KeepsTypeRules}
use Rattle.wasm_validity.specs.Validity.{context_of}
use Rattle.wasm_validity_examples.proofs.SmallSections.{lone_group, lone_passes_none}
use Rattle.wasm_validity_examples.proofs.SmallBodies.{IsRead, IsRest, is_simple, read, stepped}
use Rattle.wasm_validity_examples.proofs.Telling.{AreTold, IsAlone, mark, telling, told_one, told_two}
use Rattle.wasm_validity_examples.specs.ModuleExamples.{a_number, alone, no_result, one_type}

-- ---- rules on types

pub no_result_kept : (features : Features) (cx : Context) → KeepsTypeRules features cx no_result
no_result_kept features cx = record {
  rules = record {
    allowed = refl;
    in_range = tt;
    each = (record { earlier = tt; extends = record { at_most_one = omega arith; each = tt }; continues = tt }, tt);
  };
  small = tt;
}

pub a_number_kept : (features : Features) (cx : Context) → KeepsTypeRules features cx a_number
a_number_kept features cx = record {
  rules = record {
    allowed = refl;
    in_range = tt;
    each = (record { earlier = tt; extends = record { at_most_one = omega arith; each = tt }; continues = tt }, tt);
  };
  small = tt;
}

-- ---- limits on types

pub few_values : (function : FuncType DefType) → length function.params ≤ 20 → length function.results ≤ 20 → (limit : Limit) → items_in (FuncComposite function) limit ≤ most limit
few_values function params results Params = omega (arith, params)
few_values function params results Results = omega (arith, results)
few_values function params results _ = omega arith

pub few_fields : (fields : List (FieldType DefType)) → length fields ≤ 20 → (limit : Limit) → items_in (StructComposite fields) limit ≤ most limit
few_fields fields few Fields = omega (arith, few)
few_fields fields few _ = omega arith

-- a group of two types
abbrev of_pair : List DefType → SubType ℕ → SubType ℕ → ℕ → DefType
of_pair before a b place = record { tree = tree_of before (Group (a ∷ b ∷ [])); place = place }

pub pair_group : (before : List DefType) (a b : SubType ℕ) → ((limit : Limit) → PassesLimit unrolled (of_pair before a b 0) limit → ⊥)
    → ((limit : Limit) → PassesLimit unrolled (of_pair before a b 1) limit → ⊥) → (limit : Limit) → PassesGroupLimit before (Group (a ∷ b ∷ [])) limit → ⊥
pair_group before a b h k limit p = at_place p.place p.type p.at p.passes
  where
    at_place : (place : ℕ) (other : DefType) → slice_get (of_pair before a b 0 ∷ of_pair before a b 1 ∷ []) place ≡ Some other → PassesLimit unrolled other limit → ⊥
    at_place zero other at passes =
        let same : of_pair before a b 0 ≡ other = cc in
        h limit (subst (λ t. PassesLimit unrolled t limit) (sym same) passes)
    at_place (suc zero) other at passes =
        let same : of_pair before a b 1 ≡ other = cc in
        k limit (subst (λ t. PassesLimit unrolled t limit) (sym same) passes)
    at_place (suc (suc place)) other at passes = absurd cc

pub no_result_passes_none : (before : List DefType) (limit : Limit) → PassesGroupLimit before no_result limit → ⊥
no_result_passes_none before =
    lone_group before (final_type empty_function) (lone_passes_none _ (final_type empty_function) refl refl (few_values (takes []) (omega arith) (omega arith)))

pub a_number_passes_none : (before : List DefType) (limit : Limit) → PassesGroupLimit before a_number limit → ⊥
a_number_passes_none before =
    lone_group before (final_type (FuncComposite (gives (I32 ∷ []))))
    (lone_passes_none _ (final_type (FuncComposite (gives (I32 ∷ [])))) refl refl (few_values (gives (I32 ∷ [])) (omega arith) (omega arith)))

pub structure_passes_none : (before : List DefType) (limit : Limit) → PassesGroupLimit before (alone empty_structure) limit → ⊥
structure_passes_none before =
    lone_group before (final_type empty_structure) (lone_passes_none _ (final_type empty_structure) refl refl (few_fields [] (omega arith)))

-- ---- functions at their places

-- what holds at a place holds of the type and the body that are there
pub held : (Holds : FuncType ℕ → List ℕ → Type 0) (sections : List Section) (place index : ℕ) (type : FuncType ℕ) (body : List ℕ) → BodyAt Holds sections place
    → slice_get (functions_of sections) place ≡ Some index → func_type_in (types_of sections) index ≡ Some type → slice_get (bodies_of sections) place ≡ Some body → Holds type body
held Holds sections place index type body b indexed named has =
    let same_index : b.index ≡ index = cc (b.indexed, indexed) in
    let named' = subst (λ i. func_type_in (types_of sections) i ≡ Some b.type) same_index b.named in
    let same_type : b.type ≡ type = cc (named', named) in
    let same_body : b.body ≡ body = cc (b.has, has) in
    subst (λ t. Holds t body) same_type (subst (λ l. Holds b.type l) same_body b.holds)

-- what holds of each of one or two places
pub at_one : (P : ℕ → Type 0) → P 0 → (place : ℕ) → place < 1 → P place
at_one P p zero h = p
at_one P p (suc place) h = absurd (omega (arith, h))

pub at_two : (P : ℕ → Type 0) → P 0 → P 1 → (place : ℕ) → place < 2 → P place
at_two P p q zero h = p
at_two P p q (suc zero) h = q
at_two P p q (suc (suc place)) h = absurd (omega (arith, h))

-- ---- bodies that are read

-- a number has a byte
some_byte : (bytes : List ℕ) (n : ℕ) → IsU32 bytes n → 0 < length bytes
some_byte [] n h = absurd h
some_byte (b ∷ bs) n h = omega arith

-- so a body has one
pub no_body : {R : Type 0} (features : Features) (items : ModuleItems R) (type : FuncType R) → IsFunctionBody features items type [] → ⊥
no_body features items type b =
    let l = b.locals.declared in
    omega (arith, ap length b.begins, length-append b.locals_encoding b.code_encoding, ap length l.2, length-append l.0 l.1, some_byte l.0 _ l.3)

-- a body without locals, as it is read with some telling test
pub record IsReadIn (features : Features) (sections : List Section) (type : FuncType ℕ) (bytes : List ℕ) : Type 0 where
  pub is_below : Below
  pub tells : TellsBelow (context_of sections) is_below
  pub read : IsRead features (module_items (types_of sections) (context_of sections) is_below) type bytes

pub typed_read : (features : Features) (sections : List Section) (type : FuncType ℕ) (bytes : List ℕ) → AreTold (context_of sections).types
    → IsTypedBody features sections type (0x00 ∷ bytes) → IsReadIn features sections type bytes
typed_read features sections type bytes told typed =
    let t = telling (context_of sections) told in
    record { is_below = t.0; tells = t.1; read = read features _ type bytes (typed t.0 t.1) }

-- the body of a valid module's first function
pub first_read : (features : Features) (sections : List Section) (index : ℕ) (type : FuncType ℕ) (bytes : List ℕ) → AreTold (context_of sections).types → IsValid features sections
    → 0 < length (functions_of sections) → slice_get (functions_of sections) 0 ≡ Some index → func_type_in (types_of sections) index ≡ Some type
    → slice_get (bodies_of sections) 0 ≡ Some (0x00 ∷ bytes) → IsReadIn features sections type bytes
first_read features sections index type bytes told v some indexed named has =
    typed_read features sections type bytes told (held (IsTypedBody features sections) sections 0 index type (0x00 ∷ bytes) (v.bodies 0 some) indexed named has)

-- it begins with an operator
pub begins : {R : Type 0} (features : Features) (items : ModuleItems R) (type : FuncType R) (bytes : List ℕ) (r : IsRead features items type bytes) (operator : Operator ℕ) (others : List (Operator ℕ))
    → r.operators ≡ operator ∷ others → is_simple operator ≡ true
    → (m : State R) × (effect (in_function features items type r.runs) (type.results ∷ []) (fresh [] []) operator ≡ Some m) × IsRest (in_function features items type r.runs) m others
begins features items type bytes r operator others is plain =
    stepped (in_function features items type r.runs) (fresh [] []) operator others plain
    (subst (λ l. IsRest (in_function features items type r.runs) (fresh [] []) l) is r.rest)

-- ---- types that are told apart

pub first_is_alone : (before : List DefType) → IsAlone (record { tree = tree_of before no_result; place = 0 })
first_is_alone before = record { sub = final_type empty_function; is = refl; none = refl }

pub number_is_alone : (before : List DefType) → IsAlone (record { tree = tree_of before a_number; place = 0 })
number_is_alone before = record { sub = final_type (FuncComposite (gives (I32 ∷ []))); is = refl; none = refl }

abbrev pub first_type : DefType
first_type = record { tree = tree_of [] no_result; place = 0 }

abbrev pub first_number : DefType
first_number = record { tree = tree_of [] a_number; place = 0 }

abbrev pub second_type : DefType
second_type = record { tree = tree_of (first_type ∷ []) a_number; place = 0 }

pub first_told : AreTold (first_type ∷ [])
first_told = told_one first_type (first_is_alone [])

pub number_told : AreTold (first_number ∷ [])
number_told = told_one first_number (number_is_alone [])

pub both_told : AreTold (first_type ∷ second_type ∷ [])
both_told = told_two first_type second_type (first_is_alone []) (number_is_alone (first_type ∷ [])) (λ e. let f : 0 ≡ 1 = ap mark e in absurd cc)

-- a test that tells
pub some_test : (is_below : Below) × TellsBelow (context_of one_type) is_below
some_test = telling (context_of one_type) first_told
