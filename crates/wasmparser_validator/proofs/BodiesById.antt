-- A body keeps the rules over ids exactly where it keeps them over type indexes.
use Rattle.std.proofs.Common.{◌≡◌, ◌↔◌, ℕ, Bool, false, List, length, Some, option_map, Result, Ok, Err, IfErr, OnOk, sym, ap, ◌∙◌, subst, slice_get}
use Rattle.std.specs.Prelude.{⊤}
use Rattle.wasm_bodies.specs.Bodies.{IsFunctionBody, HasManyLocals, HasOtherOperator}
use Rattle.wasm_bodies.specs.BodyContext.{ModuleItems, func_at}
use Rattle.wasm_bodies_laws.proofs.MappedFunctions.{function_body_along, function_body_back, many_locals_along, many_locals_back, other_operator_along, other_operator_back}
use Rattle.wasm_bodies_laws.proofs.MappedSignatures.{func_at_is}
use Rattle.wasm_bodies_laws.specs.References.{AgreeOn, AreWanted, TakesAndGives, WantedBy, items_map}
use Rattle.wasm_core_read.specs.Input.{Input}
use Rattle.wasm_spec.specs.Bytes.{AreBytes}
use Rattle.wasm_spec.specs.Features.{Features}
use Rattle.wasm_spec.specs.Syntax.{Section, types_of}
use Rattle.wasm_spec.specs.Trees.{DefType}
use Rattle.wasm_spec.specs.TypeReferences.{func_map}
use Rattle.wasm_spec.specs.Types.{FuncType, SubType, ValType}
use Rattle.wasm_validity.specs.ModuleBodies.{Below, TellsBelow, func_type_in, items_in}
use Rattle.wasm_validity_laws.proofs.BelowTest.{a_test}
use Rattle.wasm_validity_laws.proofs.PlainItems.{function_of_sections, under_of_sections}
use Rattle.wasm_validity_laws.proofs.PlainTypes.{written_plain}
use Rattle.wasm_validity_laws.proofs.WrittenItems.{function_by_index}
use Rattle.wasm_validity_laws.proofs.WrittenTypes.{section_written, stands, unroll_as_written, written_in_range}
use Rattle.wasm_validity_laws.specs.WantedTypes.{is_named_under}
use Rattle.wasm_validity.specs.Context.{Context, at_first}
use Rattle.wasm_validity.specs.Entries.{entries_of}
use Rattle.wasm_validity.specs.Rules.{KeepRules}
use Rattle.wasm_validity.specs.Validity.{context_of}
use Rattle.wasmparser_bodies.proofs.BodyLaws.{validated}
use Rattle.wasmparser_bodies.specs.BodyAnswers.{AnswersOutcome, IsBodyValidated, body_outcome}
use Rattle.wasmparser_type_relations.specs.Chains.{by_id}
use Rattle.wasmparser_error.specs.declared.error.Error.{Error}
use Rattle.wasmparser_type_relations.specs.Decision.{is_val_below}
use Rattle.wasmparser_types.specs.Index.{Index}
use Rattle.wasmparser_validator.proofs.Agreement.{agrees}
use Rattle.wasmparser_validator.proofs.ItemsById.{items_are}
use Rattle.wasmparser_validator.specs.BodyVerdicts.{IsBodyJudged}
use Rattle.wasmparser_validator.specs.TypesById.{AreKnown, AreWritten, index_at, items_by_ids}

-- ---- answers

if_ok : {P Q : Type 0} (answer : Result (Unit {0}) Error) → (P → Q) → OnOk answer P → OnOk answer Q
if_ok (Ok x) step h = step h
if_ok (Err e) step h = tt

if_err : {P Q : Error → Type 0} (answer : Result (Unit {0}) Error) → ((e : Error) → P e → Q e) → IfErr answer P → IfErr answer Q
if_err (Ok x) step h = tt
if_err (Err e) step h = step e h

-- what an answer says of items, it says of others of which the same holds
answered_along : {R S : Type 0} (features : Features) (items : ModuleItems R) (others : ModuleItems S) (type : FuncType R) (other : FuncType S) (bytes : List ℕ) (position : ℕ) (answer : Result (Unit {0}) Error)
    → IsFunctionBody features items type bytes ↔ IsFunctionBody features others other bytes
    → HasManyLocals features items type bytes ↔ HasManyLocals features others other bytes
    → HasOtherOperator features items type bytes ↔ HasOtherOperator features others other bytes
    → IsBodyValidated features items type bytes position answer → IsBodyValidated features others other bytes position answer
answered_along features items others type other bytes position answer bodies locals operators v = record {
  right = if_ok answer bodies.0 v.right;
  complete = if_err answer (λ e said body. said (bodies.1 body)) v.complete;
  operator = if_err answer (λ e said kind. operators.0 (said kind)) v.operator;
  limit = if_err answer (λ e said kind. locals.0 (said kind)) v.limit;
  broken = if_err answer (λ e said kind. let (no_body, within, known) = said kind in (λ body. no_body (bodies.1 body), λ many. within (locals.1 many), λ more. known (operators.1 more))) v.broken;
  others = v.others;
  from = v.from;
  to = v.to;
}

-- ---- bodies of a module

pub as_written : (features : Features) (sections : List Section) → KeepRules features at_first (entries_of sections) → AreWritten features (context_of sections).types (types_of sections)
as_written features sections keep =
    let entries = entries_of sections in
    subst (AreWritten features (context_of sections).types) (sym (section_written sections)) (record {
      count = (stands features entries keep).lengths;
      unrolls = unroll_as_written features entries keep;
      refer = λ index type e. written_in_range features entries index type keep e;
      plain = λ off index type e. written_plain features entries index type off keep e;
    })

module _ (features : Features) (sections : List Section) (keep : KeepRules features at_first (entries_of sections)) (ids : List ℕ) (interned : List DefType) (sub_types : List (SubType Index))
    (known : AreKnown features (context_of sections).types ids interned sub_types) where
  abbrev cx : Context
  cx = context_of sections

  abbrev f : ℕ → Index
  f = index_at ids

  abbrev below : ValType Index → ValType Index → Bool
  below = is_val_below (by_id (slice_get sub_types))

  abbrev by_ids : ModuleItems Index
  by_ids = items_by_ids ids sub_types cx

  same_items : (test : Below) → items_map f (items_in (types_of sections) cx test) below ≡ by_ids
  same_items test = items_are features cx (types_of sections) ids interned sub_types (as_written features sections keep) known test

  -- a type index names the same function type
  pub same_function : (index : ℕ) → func_at by_ids index ≡ option_map (func_map f) (func_type_in (types_of sections) index)
  same_function index =
      let none : Below = λ a b. false in
      ap (λ (items : ModuleItems Index). func_at items index) (sym (same_items none)) ∙ func_at_is f (items_in (types_of sections) cx none) below index
      ∙ ap (option_map (func_map f)) (function_by_index (types_of sections) cx none index)

  module _ (index : ℕ) (type : FuncType ℕ) (named : func_type_in (types_of sections) index ≡ Some type) (test : Below) (tells : TellsBelow cx test) (bytes : List ℕ) where
    abbrev items : ModuleItems ℕ
    items = items_in (types_of sections) cx test

    abbrev Wanted : ValType ℕ → Type 0
    Wanted = WantedBy (is_named_under (length cx.types) features)

    agree : AgreeOn Wanted f items below
    agree = agrees features cx ids interned sub_types known test tells (types_of sections)

    wanted : AreWanted Wanted features items
    wanted = under_of_sections features sections keep test

    both : TakesAndGives Wanted type
    both = function_of_sections features sections keep index type named

    pub same_bodies : IsFunctionBody features by_ids (func_map f type) bytes ↔ IsFunctionBody features items type bytes
    same_bodies = subst (λ (its : ModuleItems Index). IsFunctionBody features its (func_map f type) bytes ↔ IsFunctionBody features items type bytes) (same_items test)
        (function_body_back Wanted f features items below agree wanted type both bytes, function_body_along Wanted f features items below agree wanted type both bytes)

    pub same_locals : HasManyLocals features by_ids (func_map f type) bytes ↔ HasManyLocals features items type bytes
    same_locals = subst (λ (its : ModuleItems Index). HasManyLocals features its (func_map f type) bytes ↔ HasManyLocals features items type bytes) (same_items test)
        (many_locals_back f features items below type bytes, many_locals_along f features items below type bytes)

    pub same_operators : HasOtherOperator features by_ids (func_map f type) bytes ↔ HasOtherOperator features items type bytes
    same_operators = subst (λ (its : ModuleItems Index). HasOtherOperator features its (func_map f type) bytes ↔ HasOtherOperator features items type bytes) (same_items test)
        (other_operator_back Wanted f features items below agree wanted type both bytes, other_operator_along Wanted f features items below agree wanted type both bytes)

    pub same_answer : (position : ℕ) (answer : Result (Unit {0}) Error) → IsBodyValidated features by_ids (func_map f type) bytes position answer → IsBodyValidated features items type bytes position answer
    same_answer position answer v = answered_along features by_ids items (func_map f type) type bytes position answer same_bodies same_locals same_operators v

-- ---- verdicts

-- what holds by each test, of which there is one
judged : (features : Features) (sections : List Section) (type : FuncType ℕ) (bytes : List ℕ) (position : ℕ) (answer : Result (Unit {0}) Error) (test : Below) → TellsBelow (context_of sections) test
    → ((each : Below) → TellsBelow (context_of sections) each → IsBodyValidated features (items_in (types_of sections) (context_of sections) each) type bytes position answer)
    → IsBodyJudged features sections type bytes position answer
judged features sections type bytes position (Ok x) test tells all =
    record { right = λ each told. (all each told).right; complete = tt; operator = tt; limit = tt; broken = tt; others = tt; from = tt; to = tt }
judged features sections type bytes position (Err e) test tells all =
    let v = all test tells in
    record {
      right = tt;
      complete = λ typed. v.complete (typed test tells);
      operator = λ kind each told. (all each told).operator kind;
      limit = λ kind each told. (all each told).limit kind;
      broken = λ kind each told. (all each told).broken kind;
      others = v.others;
      from = v.from;
      to = v.to;
    }

pub judged_by_ids : (features : Features) (sections : List Section) (ids : List ℕ) (interned : List DefType) (sub_types : List (SubType Index)) (index : ℕ) (type : FuncType ℕ) (bytes : List ℕ) (position : ℕ)
    (answer : Result (Unit {0}) Error) → KeepRules features at_first (entries_of sections) → AreKnown features (context_of sections).types ids interned sub_types
    → func_type_in (types_of sections) index ≡ Some type
    → IsBodyValidated features (items_by_ids ids sub_types (context_of sections)) (func_map (index_at ids) type) bytes position answer → IsBodyJudged features sections type bytes position answer
judged_by_ids features sections ids interned sub_types index type bytes position answer keep known named v =
    let (test, tells) = a_test features (entries_of sections) keep in
    judged features sections type bytes position answer test tells (λ each told. same_answer features sections keep ids interned sub_types known index type named each told bytes position answer v)

pub answered_by_ids : (features : Features) (sections : List Section) (ids : List ℕ) (interned : List DefType) (sub_types : List (SubType Index)) (index : ℕ) (type : FuncType ℕ) (test : Below) (bytes : List ℕ) (position : ℕ)
    (answer : Result (Unit {0}) Error) → KeepRules features at_first (entries_of sections) → AreKnown features (context_of sections).types ids interned sub_types
    → func_type_in (types_of sections) index ≡ Some type → TellsBelow (context_of sections) test
    → IsBodyValidated features (items_by_ids ids sub_types (context_of sections)) (func_map (index_at ids) type) bytes position answer → IsBodyValidated features (items_in (types_of sections) (context_of sections) test) type bytes position answer
answered_by_ids features sections ids interned sub_types index type test bytes position answer keep known named tells v =
    same_answer features sections keep ids interned sub_types known index type named test tells bytes position answer v

-- so is an answer that is what the bytes are judged as over ids
pub answer_by_ids : (features : Features) (sections : List Section) (ids : List ℕ) (interned : List DefType) (sub_types : List (SubType Index)) (index : ℕ) (type : FuncType ℕ) (body : Input)
    (answer : Result (Unit {0}) Error) → KeepRules features at_first (entries_of sections) → AreKnown features (context_of sections).types ids interned sub_types
    → func_type_in (types_of sections) index ≡ Some type → AreBytes body.rest
    → AnswersOutcome ⊥ (λ (left : ℕ). ⊤) body answer (body_outcome features (items_by_ids ids sub_types (context_of sections)) index body.rest) → IsBodyJudged features sections type body.rest body.position answer
answer_by_ids features sections ids interned sub_types index type body answer keep known named are outcome =
    let function = same_function features sections keep ids interned sub_types known index ∙ ap (option_map (func_map (index_at ids))) named in
    judged_by_ids features sections ids interned sub_types index type body.rest body.position answer keep known named
    (validated features (items_by_ids ids sub_types (context_of sections)) index (func_map (index_at ids) type) function (λ left. ⊤) body answer are outcome)
