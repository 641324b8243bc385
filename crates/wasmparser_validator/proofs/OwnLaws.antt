-- The functions of a module's own, whose bodies are validated by ids.
use Rattle.std.proofs.Common.{◌≡◌, inl, inr, ℕ, ◌≤◌, ◌+◌, ◌-◌, Bool, false, List, [], length, map, Option, Some, None, Result, Err, slice_get, refl, sym, ap, subst, ◌∙◌, arith}
use Rattle.std.specs.Option.{IsSome, unwrap_or}
use Rattle.wasm_bodies.specs.Bodies.{parameter}
use Rattle.wasm_bodies.specs.BodyContext.{Local, ModuleItems, func_at}
use Rattle.wasm_bodies.specs.Operators.{Indexed}
use Rattle.wasm_bodies.specs.Signatures.{from_to}
use Rattle.wasm_bodies_laws.specs.Machine.{Machine, at_start, frame_type}
use Rattle.wasm_core_types.specs.Features.{feature_set}
use Rattle.wasm_core_types.specs.declared.features.WasmFeatures.{WasmFeatures}
use Rattle.wasm_core_types.specs.declared.limits.Limit as core
use Rattle.wasm_core_types.specs.declared.limits.Limit.TheVariants as limits
use Rattle.wasm_core_read.specs.Input.{Input}
use Rattle.wasm_spec.specs.Features.{Features}
use Rattle.wasm_spec.specs.Types.{FuncType}
use Rattle.wasm_validity.specs.Context.{Context}
use Rattle.wasmparser_bodies.specs.BodyAnswers.{IsBodyValidated}
use Rattle.wasmparser_bodies.specs.BodyStates.{IsAtStart}
use Rattle.wasmparser_error.specs.Error.{placed}
use Rattle.wasmparser_error.specs.declared.error.Error.{Error}
use Rattle.wasmparser_error.specs.declared.error.ErrorKind.{ErrorKind}
use Rattle.wasmparser_error.specs.declared.error.ErrorKind.TheVariants as kinds
use Rattle.wasmparser_func_validator.specs.FromBytes.{state_of}
use Rattle.wasmparser_func_validator.specs.Validation.{IsRefusedStart}
use Rattle.wasmparser_module_state.specs.State.{context, features_of}
use Rattle.wasmparser_module_state.specs.StateResources.{state_resources}
use Rattle.wasmparser_module_state.specs.declared.module_state.ModuleState.{ModuleState}
use Rattle.wasmparser_module_types.specs.ModuleTypes.{AreKnownTypes}
use Rattle.wasmparser_types.specs.Index.{Index, packable}
use Rattle.wasmparser_validator.specs.Bodies.{AreNamed, ValidatesOwn}
use Rattle.wasmparser_validator.specs.Functions.{HasFunction, TellsModule, resources_of}
use Rattle.wasmparser_validator.specs.KnownSpaces.{IsReached}
use Rattle.wasmparser_validator.specs.declared.resources.ValidatorResources.{ValidatorResources}
use Rattle.wasmparser_validator.proofs.Counts.{are_few}
use Rattle.wasmparser_validator.proofs.ResourceLaws.{few_params, few_types, is_function}

-- there are no more functions than a number of 32 bits counts
pub few_functions : (s : ModuleState) → IsReached s → length (context s).imported_functions + length (context s).own_functions ≤ 1000000
few_functions s reached =
    subst (λ (cx : Context). length cx.imported_functions + length cx.own_functions ≤ 1000000) (sym reached.known) (are_few reached.entries reached.limits).functions

-- the type index of a function of the module's own names a function type by ids
pub own_named : (s : ModuleState) → AreKnownTypes s.types → AreNamed (context s) → (place index : ℕ) → slice_get (context s).own_functions place ≡ Some index → IsSome (func_at (state_resources s).items index)
own_named s known named place index at = is_function s known index (named place index at)

some_is : {A : Type 0} (found : Option A) → IsSome found → (a : A) × (found ≡ Some a)
some_is None h = absurd cc
some_is (Some a) h = (a, refl)

pub validates_own : (s : ModuleState) (place index : ℕ) (body : Input) (answer : Result (Unit {0}) Error) → AreKnownTypes s.types → AreNamed (context s) → slice_get (context s).own_functions place ≡ Some index
    → ((type : FuncType Index) → func_at (state_resources s).items index ≡ Some type → IsBodyValidated (features_of s) (state_resources s).items type body.rest body.position answer)
    → ValidatesOwn (features_of s) (state_resources s).items (context s) place body answer
validates_own s place index body answer known named at validated =
    let type = some_is (func_at (state_resources s).items index) (own_named s known named place index at) in
    record { index = index; type = type.0; indexed = at; named = type.1; validated = validated type.0 type.1 }

-- running out of memory at a body's first byte is an answer to any body
memory_answers : (features : Features) (items : ModuleItems Index) (type : FuncType Index) (body : Input) (e : Error) → e.kind ≡ kinds.Memory → e.offset ≡ body.position
    → IsBodyValidated features items type body.rest body.position (Err e)
memory_answers features items type body e memory at = record {
  right = tt;
  complete = λ fine. memory;
  operator = λ is. let f = sym memory ∙ is in absurd cc;
  limit = λ is. let f = sym memory ∙ is in absurd cc;
  broken = λ is. let f = sym memory ∙ is in absurd cc;
  others = inr (inr (inr memory));
  from = omega (arith, at);
  to = omega (arith, at);
}

-- a body is begun unless memory runs out, for parameters alone aren't too many
only_memory : (type : FuncType Index) (kind : ErrorKind) (at : ℕ) → length type.params ≤ 1000 → IsRefusedStart type.params kind at → kind ≡ kinds.Memory
only_memory type (kinds.Limit l) at few refused = by_limit l refused
  where
    by_limit : (l : core.Limit) → IsRefusedStart type.params (kinds.Limit l) at → kinds.Limit l ≡ kinds.Memory
    by_limit limits.Locals refused = absurd (omega (arith, few, refused.0))
    by_limit _ refused = absurd refused
only_memory type kinds.Memory at few refused = refl
only_memory type kinds.Malformed at few refused = absurd refused
only_memory type kinds.Invalid at few refused = absurd refused
only_memory type kinds.Operator at few refused = absurd refused
only_memory type kinds.Body at few refused = absurd refused
only_memory type kinds.Total at few refused = absurd refused
only_memory type kinds.Order at few refused = absurd refused
only_memory type kinds.Failed at few refused = absurd refused

-- a body that isn't begun is refused at its first byte
pub not_begun : (s : ModuleState) (place index : ℕ) (body : Input) (e : Error) → AreKnownTypes s.types → IsReached s → AreNamed (context s) → slice_get (context s).own_functions place ≡ Some index
    → IsRefusedStart (frame_type (state_resources s).items (Indexed index)).params e.kind e.offset
    → ValidatesOwn (features_of s) (state_resources s).items (context s) place body (Err (record { offset = placed e.kind body.position e.offset; kind = e.kind }))
not_begun s place index body e known reached named at refused =
    let there : Error = record { offset = placed e.kind body.position e.offset; kind = e.kind } in
    validates_own s place index body (Err there) known named at (λ type is.
    let start = subst (λ (found : Option (FuncType Index)). IsRefusedStart (unwrap_or found (from_to [] [])).params e.kind e.offset) is refused in
    let memory = only_memory type e.kind e.offset (few_params s known reached index type is) start in
    memory_answers (features_of s) (state_resources s).items type body there memory (ap (λ k. placed k body.position e.offset) memory))

-- what a validator answers that begins with what is known of a module
abbrev pub AnswersFrom : Features → ModuleState → ℕ → List (Local Index) → Machine Index → Bool → Input → Result (Unit {0}) Error → Type 0
AnswersFrom features s ty locals machine failed body answer =
    failed ≡ false → length (state_resources s).items.types ≤ packable → IsAtStart (state_of features (state_resources s).items ty locals machine failed) → (type : FuncType Index) → func_at (state_resources s).items ty ≡ Some type
    → IsBodyValidated features (state_resources s).items type body.rest body.position answer

pub answered : (s there : ModuleState) (features : Features) (place index ty : ℕ) (locals : List (Local Index)) (machine : Machine Index) (failed : Bool) (body : Input) (answer : Result (Unit {0}) Error)
    → AreKnownTypes s.types → AreNamed (context s) → slice_get (context s).own_functions place ≡ Some index → there ≡ s → features ≡ features_of s → ty ≡ index → failed ≡ false
    → machine ≡ at_start index → locals ≡ map parameter (frame_type (state_resources s).items (Indexed index)).params
    → AnswersFrom features there ty locals machine failed body answer → ValidatesOwn (features_of s) (state_resources s).items (context s) place body answer
answered s there features place index ty locals machine failed body answer known named at same_state same_features same_type going begins parameters answers =
    let here = subst (λ (t : ℕ). AnswersFrom (features_of s) s t locals machine failed body answer) same_type
    (subst (λ (f : Features). AnswersFrom f s ty locals machine failed body answer) same_features
    (subst (λ (x : ModuleState). AnswersFrom features x ty locals machine failed body answer) same_state answers)) in
    validates_own s place index body answer known named at (λ type is. here going (few_types s known) (record { parameters = parameters; begins = begins }) type is)

-- a function of the module's own, with resources that tell of the module
pub has_function : (s : ModuleState) (features : Features) (cx : Context) (place count own ty : ℕ) (flags : WasmFeatures) (resources : ValidatorResources) → context s ≡ cx → features_of s ≡ features → AreNamed (context s)
    → count ≡ length (context s).imported_functions + length (context s).own_functions → own ≡ length (context s).own_functions → slice_get (context s).own_functions place ≡ Some ty
    → feature_set flags ≡ features_of s → TellsModule features cx (resources_of resources)
    → HasFunction features cx place (record { resources = resources; index = count - own + place; ty = ty; features = flags })
has_function s features cx place count own ty flags resources same same_features named counted owned typed flagged tells =
    let at : slice_get cx.own_functions place ≡ Some ty = ap (λ (c : Context). slice_get c.own_functions place) (sym same) ∙ typed in
    record {
      index = omega (arith, counted, owned, ap (λ (c : Context). length c.imported_functions) same);
      typed = at;
      named = tells.functions ty (subst AreNamed same named place ty at);
      same_features = flagged ∙ same_features;
      tells = tells;
    }

-- the same of the place that a number is
pub has_function_at : (s : ModuleState) (features : Features) (cx : Context) (place number count own ty : ℕ) (flags : WasmFeatures) (resources : ValidatorResources) → place ≡ number → context s ≡ cx → features_of s ≡ features
    → AreNamed (context s) → count ≡ length (context s).imported_functions + length (context s).own_functions → own ≡ length (context s).own_functions → slice_get (context s).own_functions place ≡ Some ty
    → feature_set flags ≡ features_of s → TellsModule features cx (resources_of resources)
    → HasFunction features cx number (record { resources = resources; index = count - own + place; ty = ty; features = flags })
has_function_at s features cx place number count own ty flags resources at same same_features named counted owned typed flagged tells =
    subst (λ n. HasFunction features cx n (record { resources = resources; index = count - own + place; ty = ty; features = flags })) at
    (has_function s features cx place count own ty flags resources same same_features named counted owned typed flagged tells)
