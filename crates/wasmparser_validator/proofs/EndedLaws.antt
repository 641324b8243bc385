-- A module that has ended: its bodies are judged by what is known of it, with ids, and answered by what its sections say.
use Rattle.std.proofs.Common.{◌≡◌, ℕ, false, List, [], length, Option, Some, None, option_map, Result, Ok, Err, refl, sym, ap, ap₂, subst, ◌∙◌, slice_get, arith}
use Rattle.std.specs.Prelude.{IfErr, IfOk, true}
use Rattle.wasm_bodies.specs.BodyContext.{ModuleItems, func_at}
use Rattle.wasm_core_read.specs.Input.{Input}
use Rattle.wasm_spec.specs.Features.{Features}
use Rattle.wasm_spec.specs.Syntax.{Section, types_of, functions_of}
use Rattle.wasm_spec.specs.Trees.{DefType}
use Rattle.wasm_spec.specs.TypeReferences.{func_map}
use Rattle.wasm_spec.specs.Types.{FuncType, SubType}
use Rattle.wasm_validity.specs.ModuleBodies.{func_type_in}
use Rattle.wasm_validity.specs.Context.{Context, at_first}
use Rattle.wasm_validity.specs.Entries.{entries_of}
use Rattle.wasm_validity.specs.Rules.{KeepRules}
use Rattle.wasm_validity.specs.Validity.{context_of}
use Rattle.wasmparser_bodies.specs.BodyAnswers.{IsBodyValidated}
use Rattle.wasmparser_error.specs.declared.error.Error.{Error}
use Rattle.wasmparser_validator.specs.BodyVerdicts.{IsBodyJudged}
use Rattle.wasmparser_validator.specs.TypesById.{AreKnown, index_at, items_by_ids}
use Rattle.wasmparser_module_state.specs.History.{held}
use Rattle.wasmparser_module_state.specs.State.{context, features_of}
use Rattle.wasmparser_module_state.specs.StateResources.{state_resources}
use Rattle.wasmparser_module_state.specs.declared.module_state.ModuleState.{ModuleState}
use Rattle.wasmparser_module_types.specs.ModuleTypes.{AreKnownTypes, KnownTypes}
use Rattle.wasmparser_validator.specs.Sections.{AreAccepted, RefusesSections}
use Rattle.wasmparser_types.specs.Index.{Index}
use Rattle.wasmparser_validator.specs.Bodies.{ValidatedAt, ValidatesBodies}
use Rattle.wasmparser_validator.specs.Judges.{GoesOn, Judge, JudgesAll, waiting}
use Rattle.wasmparser_validator.specs.KnownSpaces.{KnownModule}
use Rattle.wasmparser_validator.specs.Validation.{IsValidated}
use Rattle.wasmparser_validator.specs.declared.validator.Stage.{Stage}
use Rattle.wasmparser_validator.specs.declared.validator.Stage.TheVariants as stages
use Rattle.wasmparser_validator.proofs.ResourceLaws.{are_known, items_are}
use Rattle.wasmparser_validator.proofs.VerdictLaws.{FirstFindRoom, FrontsAreFirst, JudgeBodies, JudgedAt, LimitsInTurn, NoneWithin, OwnFunctions, RulesInTurn, accepted_module, groups_held, nothing_held, refused_body, refused_sections}

-- ---- laws that are cited

-- what is answered to a body by ids is what the rules say of it
abbrev pub JudgedByIds : Type 0
JudgedByIds = (features : Features) (sections : List Section) (ids : List ℕ) (interned : List DefType) (sub_types : List (SubType Index)) (index : ℕ) (type : FuncType ℕ) (bytes : List ℕ) (position : ℕ)
    (answer : Result (Unit {0}) Error) → KeepRules features at_first (entries_of sections) → AreKnown features (context_of sections).types ids interned sub_types
    → func_type_in (types_of sections) index ≡ Some type
    → IsBodyValidated features (items_by_ids ids sub_types (context_of sections)) (func_map (index_at ids) type) bytes position answer → IsBodyJudged features sections type bytes position answer

abbrev pub FunctionsByIds : Type 0
FunctionsByIds = (features : Features) (sections : List Section) (ids : List ℕ) (interned : List DefType) (sub_types : List (SubType Index)) (index : ℕ) → KeepRules features at_first (entries_of sections)
    → AreKnown features (context_of sections).types ids interned sub_types
    → func_at (items_by_ids ids sub_types (context_of sections)) index ≡ option_map (func_map (index_at ids)) (func_type_in (types_of sections) index)

-- ---- bodies

-- what is mapped to something is something
mapped : {A B : Type 0} (f : A → B) (found : Option A) (b : B) → option_map f found ≡ Some b → (a : A) × (found ≡ Some a) × (f a ≡ b)
mapped f None b e = absurd cc
mapped f (Some a) b e = (a, refl, cc)

module _ (features : Features) (old_held : List DefType) (bytes : List ℕ) (ended : KnownModule) (given : List Input) (own : OwnFunctions) (by_ids : JudgedByIds) (functions : FunctionsByIds)
    (w : AreAccepted features old_held bytes ended given) (known : AreKnownTypes ended.state.types) where
  known_here : AreKnown features (context_of w.sections).types ended.state.types.ids ended.state.types.interned ended.state.types.sub_types
  known_here =
      subst (λ (cx : Context). AreKnown features cx.types ended.state.types.ids ended.state.types.interned ended.state.types.sub_types) w.known
      (subst (λ f. AreKnown f (context ended.state).types ended.state.types.ids ended.state.types.interned ended.state.types.sub_types) w.same_features (are_known ended.state known))

  items_here : (state_resources ended.state).items ≡ items_by_ids ended.state.types.ids ended.state.types.sub_types (context_of w.sections)
  items_here = items_are ended.state ∙ ap (items_by_ids ended.state.types.ids ended.state.types.sub_types) w.known

  by_module : (answer : Result (Unit {0}) Error) (place : ℕ) → ValidatedAt (features_of ended.state) (state_resources ended.state).items (context ended.state) given answer place
      → JudgedAt features w.sections given answer place
  by_module answer place v =
      let o = v.own in
      let named = sym (functions features w.sections ended.state.types.ids ended.state.types.interned ended.state.types.sub_types o.index w.fine.rules known_here)
      ∙ ap (λ (items : ModuleItems Index). func_at items o.index) (sym items_here) ∙ o.named in
      let type = mapped (func_map (index_at ended.state.types.ids)) (func_type_in (types_of w.sections) o.index) o.type named in
      let here = subst (λ t. IsBodyValidated features (items_by_ids ended.state.types.ids ended.state.types.sub_types (context_of w.sections)) t v.body.rest v.body.position answer) (sym type.2)
      (subst (λ (items : ModuleItems Index). IsBodyValidated features items o.type v.body.rest v.body.position answer) items_here
      (subst (λ f. IsBodyValidated f (state_resources ended.state).items o.type v.body.rest v.body.position answer) w.same_features o.validated)) in
      record {
        index = o.index;
        type = type.0;
        body = v.body;
        indexed = ap (λ (l : List ℕ). slice_get l place) (sym (own w.sections)) ∙ ap (λ (c : Context). slice_get c.own_functions place) (sym w.known) ∙ o.indexed;
        named = type.1;
        has = v.has;
        judged = by_ids features w.sections ended.state.types.ids ended.state.types.interned ended.state.types.sub_types o.index type.0 v.body.rest v.body.position answer w.fine.rules known_here type.1 here;
      }

  counted : length (context ended.state).own_functions ≡ length (functions_of w.sections)
  counted = ap (λ (c : Context). length c.own_functions) w.known ∙ ap length (own w.sections)

  judged_so : (answer : Result (Unit {0}) Error) → ValidatesBodies (features_of ended.state) (state_resources ended.state).items (context ended.state) given answer → JudgeBodies features w.sections given answer
  judged_so (Ok x) h = λ place lt. by_module (Ok x) place (h place (omega (arith, lt, counted)))
  judged_so (Err e) h = (h.0, omega (arith, h.1, counted), by_module (Err e) h.0 h.2)

  -- ---- answers

  pub validated_so : (result : Result KnownModule Error) → IfOk result (λ shown. shown ≡ ended)
      → IfOk result (λ _. ValidatesBodies (features_of ended.state) (state_resources ended.state).items (context ended.state) given (Ok tt))
      → IfErr result (λ e. ValidatesBodies (features_of ended.state) (state_resources ended.state).items (context ended.state) given (Err e)) → IsValidated features old_held bytes result
  validated_so (Ok shown) shows fine refused =
      subst (λ (k : KnownModule). IsValidated features old_held bytes (Ok k)) (sym shows) (accepted_module features old_held bytes ended given w (judged_so (Ok tt) fine))
  validated_so (Err e) shows fine refused = refused_body features old_held bytes ended given e w (judged_so (Err e) refused)

  pub held_so : (result : Result KnownModule Error) → IfOk result (λ shown. shown ≡ ended)
      → IfErr result (λ e. ValidatesBodies (features_of ended.state) (state_resources ended.state).items (context ended.state) given (Err e))
      → GoesOn features old_held bytes result true (held ended.state)
  held_so (Ok shown) shows refused = (refl, ap (λ (k : KnownModule). held k.state) (sym shows))
  held_so (Err e) shows refused = groups_held features old_held bytes ended given e w (judged_so (Err e) refused)

-- ---- a whole module

named_so : (result : Result KnownModule Error) (ended : KnownModule) (id : ℕ) → IfOk result (λ shown. shown ≡ ended) → ended.id ≡ id → IfOk result (λ shown. shown.id ≡ id)
named_so (Ok shown) ended id shows named = ap (λ (k : KnownModule). k.id) shows ∙ named
named_so (Err e) ended id shows named = tt

-- its sections are fine, and its bodies were validated
pub bodies_validated : (old new : Judge) (bytes : List ℕ) (ended : KnownModule) (given : List Input) (result : Result KnownModule Error) → OwnFunctions → JudgedByIds → FunctionsByIds
    → AreAccepted old.features old.held bytes ended given → AreKnownTypes ended.state.types → ended.id ≡ old.id → new ≡ record (waiting old stages.End) { held = held ended.state }
    → IfOk result (λ shown. shown ≡ ended)
    → IfOk result (λ _. ValidatesBodies (features_of ended.state) (state_resources ended.state).items (context ended.state) given (Ok tt))
    → IfErr result (λ e. ValidatesBodies (features_of ended.state) (state_resources ended.state).items (context ended.state) given (Err e)) → JudgesAll stages.Header old bytes result new
bodies_validated old new bytes ended given result own by_ids functions w known named after shows fine refused = (
  validated_so old.features old.held bytes ended given own by_ids functions w known result shows fine refused,
  named_so result ended old.id shows named,
  true,
  held ended.state,
  held_so old.features old.held bytes ended given own by_ids functions w known result shows refused,
  after,
)

-- its sections were refused
pub sections_refused : (old new : Judge) (bytes : List ℕ) (e : Error) → FrontsAreFirst → RulesInTurn → LimitsInTurn → NoneWithin → FirstFindRoom → RefusesSections old.features old.held bytes e
    → new ≡ waiting old stages.Failed → JudgesAll stages.Header old bytes (Err e) new
sections_refused old new bytes e fronts rules bounds within room refused after = (
  refused_sections old.features old.held bytes e fronts rules bounds within room refused.0 refused.1,
  tt,
  false,
  [],
  nothing_held old.features old.held bytes e [] refused.0 refl,
  after,
)

-- what is waited for alike after a refusal depends on name and features alone
pub waiting_alike : (a b : Judge) (stage : Stage) → a.id ≡ b.id → a.features ≡ b.features → waiting a stage ≡ waiting b stage
waiting_alike a b stage same_id same_features =
    ap₂ (λ (id : ℕ) (features : Features). waiting (record { id = id; stage = stage; features = features; known = at_first; held = []; bodies = 0; stated = None }) stage) same_id same_features
