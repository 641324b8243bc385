-- The whole promise: from what sections and bodies are judged to what is answered.
use Rattle.std.proofs.Common.{◌≡◌, ◌≢◌, ◌⊎◌, inl, inr, ◌↔◌, ℕ, zero, suc, ◌<◌, ◌≤◌, Bool, true, false, List, [], ◌∷◌, ◌++◌, map, length, Some, is_some, Result, Ok, Err, option_map, refl, sym, ap, subst, ◌∙◌, arith, slice_get}
use Rattle.std.proofs.lemmas.Option.{slice_get-map}
use Rattle.wasm_core_types.specs.declared.limits.Limit.TheVariants as limits
use Rattle.wasm_core_types.specs.Limits as views
use Rattle.wasm_core_types.specs.declared.limits.Limit as core
use Rattle.wasm_core_read.specs.Input.{Input, end}
use Rattle.wasm_core_read.proofs.ReadingLaws.{module_one, some_is}
use Rattle.wasm_spec.specs.Features.{Features, CompactImports, has}
use Rattle.wasm_spec.specs.Grammar.{IsModule}
use Rattle.wasm_spec.specs.Limits.{Limit}
use Rattle.wasm_spec.specs.Syntax.{Section, types_of, functions_of, bodies_of}
use Rattle.wasm_spec.specs.Trees.{DefType}
use Rattle.wasm_spec.specs.Types.{FuncType}
use Rattle.wasm_validity.specs.Context.{Context, after_all, at_first}
use Rattle.wasm_validity.specs.DefinedTypes.{func_type_at}
use Rattle.wasm_validity.specs.Entries.{Entry, entries_of}
use Rattle.wasm_validity.specs.Fronts.{BeginsWith}
use Rattle.wasm_validity.specs.IndexSpaces.{spaces_in}
use Rattle.wasm_validity.specs.Rules.{KeepLimits, KeepRules, PassLimit}
use Rattle.wasm_validity.specs.ModuleBodies.{BodyAt, func_type_in}
use Rattle.wasm_validity.specs.Modules.{IsTypedBody, IsBodyPast, IsOtherBody, IsBrokenBody, HasBody}
use Rattle.wasm_validity.specs.Validity.{context_of}
use Rattle.wasmparser_error.specs.declared.error.Error.{Error}
use Rattle.wasmparser_error.specs.declared.error.ErrorKind.{ErrorKind}
use Rattle.wasmparser_error.specs.declared.error.ErrorKind.TheVariants as kinds
use Rattle.wasmparser_module_state.specs.History.{EnterAll, OneFindsNoRoom, held}
use Rattle.wasmparser_module_state.specs.State.{context}
use Rattle.wasmparser_module_types.specs.ModuleTypes.{KnownTypes}
use Rattle.wasmparser_validator.specs.Sections.{AreAccepted, EndBy, NamesSections}
use Rattle.wasmparser_validator.specs.BodyVerdicts.{IsBodyJudged}
use Rattle.wasmparser_validator.specs.Judges.{GoesOn, GoesOnAfter, EndsInBody}
use Rattle.wasmparser_validator.specs.KnownSpaces.{KnownModule}
use Rattle.wasmparser_validator.specs.Validation.{IsAccepted, IsNamed, IsValidated}
use Rattle.wasmparser_validator.proofs.LocalsLimit.{no_locals}

-- ---- laws that are cited

-- what the bytes of a module say at their front is the first part of what its sections say
abbrev pub FrontsAreFirst : Type 0
FrontsAreFirst = (compact : Bool) (bytes : List ℕ) (entries : List Entry) (sections : List Section) → BeginsWith compact bytes entries → IsModule compact bytes sections
    → (others : List Entry) × (entries_of sections ≡ entries ++ others)

abbrev pub RulesInTurn : Type 0
RulesInTurn = (features : Features) (cx : Context) (a b : List Entry) → KeepRules features cx (a ++ b) ↔ (KeepRules features cx a × KeepRules features (after_all cx a) b)

abbrev pub LimitsInTurn : Type 0
LimitsInTurn = (cx : Context) (a b : List Entry) → KeepLimits cx (a ++ b) ↔ (KeepLimits cx a × KeepLimits (after_all cx a) b)

abbrev pub NoneWithin : Type 0
NoneWithin = (limit : Limit) (cx : Context) (entries : List Entry) → KeepLimits cx entries → ¬ (PassLimit limit cx entries)

abbrev pub OwnFunctions : Type 0
OwnFunctions = (sections : List Section) → (context_of sections).own_functions ≡ functions_of sections

abbrev pub FirstFindRoom : Type 0
FirstFindRoom = (features : Features) (entries : List Entry) → ¬ (OneFindsNoRoom features at_first [] entries)

-- ---- refusals of sections

-- what a module that is accepted can be refused for
only_room : (features : Features) (old_held : List DefType) (bytes : List ℕ) (sections : List Section) (kind : ErrorKind) → FrontsAreFirst → RulesInTurn → LimitsInTurn → NoneWithin
    → IsAccepted features bytes sections → NamesSections features old_held bytes kind → (kind ≡ kinds.Memory) ⊎ (kind ≡ kinds.Total)
only_room features old_held bytes sections kinds.Malformed fronts rules bounds within a n = absurd (n sections a.reads)
only_room features old_held bytes sections kinds.Invalid fronts rules bounds within a n =
    let first = fronts (has features CompactImports) bytes n.entries sections n.begins a.reads in
    absurd (n.breaks ((rules features at_first n.entries first.0).0 (subst (KeepRules features at_first) first.1 a.valid.fine.rules)).0)
only_room features old_held bytes sections (kinds.Limit l) fronts rules bounds within a n =
    let first = fronts (has features CompactImports) bytes n.entries sections n.begins a.reads in
    absurd (within (views.limit l) at_first n.entries ((bounds at_first n.entries first.0).0 (subst (KeepLimits at_first) first.1 a.valid.fine.limits)).0 n.passes)
only_room features old_held bytes sections kinds.Operator fronts rules bounds within a n = absurd n
only_room features old_held bytes sections kinds.Body fronts rules bounds within a n = absurd n
only_room features old_held bytes sections kinds.Total fronts rules bounds within a n = inr refl
only_room features old_held bytes sections kinds.Order fronts rules bounds within a n = absurd n
only_room features old_held bytes sections kinds.Failed fronts rules bounds within a n = absurd n
only_room features old_held bytes sections kinds.Memory fronts rules bounds within a n = inl refl

has_name : (features : Features) (old_held : List DefType) (bytes : List ℕ) (kind : ErrorKind) → NamesSections features old_held bytes kind → IsNamed kind
has_name features old_held bytes kinds.Malformed n = tt
has_name features old_held bytes kinds.Invalid n = tt
has_name features old_held bytes (kinds.Limit l) n = tt
has_name features old_held bytes kinds.Operator n = absurd n
has_name features old_held bytes kinds.Body n = absurd n
has_name features old_held bytes kinds.Total n = tt
has_name features old_held bytes kinds.Order n = absurd n
has_name features old_held bytes kinds.Failed n = absurd n
has_name features old_held bytes kinds.Memory n = tt

pub refused_sections : (features : Features) (old_held : List DefType) (bytes : List ℕ) (e : Error) → FrontsAreFirst → RulesInTurn → LimitsInTurn → NoneWithin → FirstFindRoom
    → NamesSections features old_held bytes e.kind → e.offset ≤ length bytes → IsValidated features old_held bytes (Err e)
refused_sections features old_held bytes e fronts rules bounds within room named place =
    let at : (kind : ErrorKind) → e.kind ≡ kind → NamesSections features old_held bytes kind = λ kind is. subst (NamesSections features old_held bytes) is named in
    record {
      right = tt;
      complete = λ sections a. only_room features old_held bytes sections e.kind fronts rules bounds within a named;
      malformed = λ is. at kinds.Malformed is;
      invalid = λ is. at kinds.Invalid is;
      limit = λ l other is. at (kinds.Limit l) is;
      locals = λ is. let past = at (kinds.Limit limits.Locals) is in absurd (no_locals at_first past.entries past.passes);
      operator = λ is. absurd (at kinds.Operator is);
      body = λ is. absurd (at kinds.Body is);
      total = λ is. at kinds.Total is;
      first = λ none is. let full = at kinds.Total is in absurd (room features full.entries (subst (λ held. OneFindsNoRoom features at_first held full.entries) none full.no_room));
      others = has_name features old_held bytes e.kind named;
      place = place;
    }

-- ---- bodies

-- The body of the function of the module's own at a place is judged so.
pub record JudgedAt (features : Features) (sections : List Section) (bodies : List Input) (answer : Result (Unit {0}) Error) (place : ℕ) : Type 0 where
  pub index : ℕ
  pub type : FuncType ℕ
  pub body : Input
  pub indexed : slice_get (functions_of sections) place ≡ Some index
  pub named : func_type_in (types_of sections) index ≡ Some type
  pub has : slice_get bodies place ≡ Some body
  pub judged : IsBodyJudged features sections type body.rest body.position answer

-- each is fine, or one is refused
abbrev pub JudgeBodies : Features → List Section → List Input → Result (Unit {0}) Error → Type 0
JudgeBodies features sections bodies (Ok x) = (place : ℕ) → place < length (functions_of sections) → JudgedAt features sections bodies (Ok x) place
JudgeBodies features sections bodies (Err e) = (place : ℕ) × (place < length (functions_of sections)) × JudgedAt features sections bodies (Err e) place

in_sections : (Holds : FuncType ℕ → List ℕ → Type 0) (features : Features) (sections : List Section) (bodies : List Input) (answer : Result (Unit {0}) Error) (place : ℕ)
    → map (λ (b : Input). b.rest) bodies ≡ bodies_of sections → (j : JudgedAt features sections bodies answer place) → Holds j.type j.body.rest → BodyAt Holds sections place
in_sections Holds features sections bodies answer place bodies_are j holds = record {
  index = j.index;
  type = j.type;
  body = j.body.rest;
  indexed = j.indexed;
  named = j.named;
  has = ap (λ (l : List (List ℕ)). slice_get l place) (sym bodies_are) ∙ slice_get-map (λ (b : Input). b.rest) bodies place ∙ ap (option_map (λ (b : Input). b.rest)) j.has;
  holds = holds;
}

-- a function has one type and one body
same_body : (P Q : FuncType ℕ → List ℕ → Type 0) (sections : List Section) (place : ℕ) (a : BodyAt P sections place) (b : BodyAt Q sections place) → (a.type ≡ b.type) × (a.body ≡ b.body)
same_body P Q sections place a b =
    let index : a.index ≡ b.index = some_is a.index b.index (sym a.indexed ∙ b.indexed) in
    (some_is a.type b.type (sym a.named ∙ ap (func_type_in (types_of sections)) index ∙ b.named), some_is a.body b.body (sym a.has ∙ b.has))

-- ---- a module of which all is fine

pub accepted_module : (features : Features) (old_held : List DefType) (bytes : List ℕ) (ended : KnownModule) (given : List Input) → (w : AreAccepted features old_held bytes ended given)
    → JudgeBodies features w.sections given (Ok tt) → IsValidated features old_held bytes (Ok ended)
accepted_module features old_held bytes ended given w judged = record {
  right = (
    w.sections,
    record {
      reads = w.reads;
      valid = record {
        fine = w.fine;
        bodies = λ place lt. let j = judged place lt in in_sections (IsTypedBody features w.sections) features w.sections given (Ok tt) place w.bodies j j.judged.right;
      };
    },
    ap spaces_in w.known,
    w.entered,
    w.same_features,
    w.rests,
  );
  complete = λ sections h. tt;
  malformed = tt;
  invalid = tt;
  limit = tt;
  locals = tt;
  total = tt;
  first = λ none. tt;
  operator = tt;
  body = tt;
  others = tt;
  place = tt;
}

-- ---- refusals of bodies

-- what a body can be refused for
abbrev is_of_body : ErrorKind → Bool
is_of_body kinds.Operator = true
is_of_body (kinds.Limit limits.Locals) = true
is_of_body kinds.Body = true
is_of_body kinds.Memory = true
is_of_body kind = false

of_body : (kind : ErrorKind) → (kind ≡ kinds.Operator) ⊎ (kind ≡ kinds.Limit limits.Locals) ⊎ (kind ≡ kinds.Body) ⊎ (kind ≡ kinds.Memory) → is_of_body kind ≡ true
of_body kind h = elim h [
  | inl a ↦ ap is_of_body a
  | inr b ↦ elim b [ inl a ↦ ap is_of_body a | inr c ↦ elim c [ inl a ↦ ap is_of_body a | inr a ↦ ap is_of_body a ] ]
]

not_other : (kind other : ErrorKind) → is_of_body kind ≡ true → is_of_body other ≡ false → kind ≢ other
not_other kind other is not e = let f = sym is ∙ ap is_of_body e ∙ not in absurd cc

only_locals : (l : core.Limit) → is_of_body (kinds.Limit l) ≡ true → l ≡ limits.Locals
only_locals limits.Locals h = refl
only_locals _ h = absurd cc

is_named : (kind : ErrorKind) → is_of_body kind ≡ true → IsNamed kind
is_named kinds.Operator h = tt
is_named (kinds.Limit l) h = tt
is_named kinds.Body h = tt
is_named kinds.Memory h = tt
is_named kinds.Malformed h = absurd cc
is_named kinds.Invalid h = absurd cc
is_named kinds.Total h = absurd cc
is_named kinds.Order h = absurd cc
is_named kinds.Failed h = absurd cc

-- a body that stands in a list ends where all of the list end
ends_by : (last : ℕ) (bodies : List Input) (place : ℕ) (body : Input) → EndBy last bodies → slice_get bodies place ≡ Some body → end body ≤ last
ends_by last [] place body all e = absurd cc
ends_by last (x ∷ bodies) zero body all e = subst (λ (b : Input). end b ≤ last) (some_is x body e) all.0
ends_by last (x ∷ bodies) (suc place) body all e = ends_by last bodies place body all.1 e

module _ (features : Features) (old_held : List DefType) (bytes : List ℕ) (ended : KnownModule) (given : List Input) (e : Error) (w : AreAccepted features old_held bytes ended given)
    (refused : JudgeBodies features w.sections given (Err e)) where
  abbrev judged_there : JudgedAt features w.sections given (Err e) refused.0
  judged_there = refused.2

  abbrev kind_there : is_of_body e.kind ≡ true
  kind_there = of_body e.kind judged_there.judged.others

  there_is : (Holds : List Section → FuncType ℕ → List ℕ → Type 0) → Holds w.sections judged_there.type judged_there.body.rest → HasBody features Holds bytes
  there_is Holds holds = record {
    sections = w.sections;
    reads = w.reads;
    fine = w.fine;
    some = (refused.0, refused.1, in_sections (Holds w.sections) features w.sections given (Err e) refused.0 w.bodies judged_there holds);
  }

  -- a module that is to be accepted has this body too, which is then refused only where memory runs out
  accepted_there : (sections : List Section) → IsAccepted features bytes sections → e.kind ≡ kinds.Memory
  unfolding in_sections
  accepted_there sections h =
      let same : sections ≡ w.sections = module_one (has features CompactImports) bytes sections w.sections h.reads w.reads in
      let there = (subst (λ (l : List Section). (place : ℕ) → place < length (functions_of l) → BodyAt (IsTypedBody features l) l place) same h.valid.bodies) refused.0 refused.1 in
      let here = in_sections (λ type body. Unit {0}) features w.sections given (Err e) refused.0 w.bodies judged_there tt in
      let one = same_body _ _ w.sections refused.0 there here in
      judged_there.judged.complete (subst (λ body. IsTypedBody features w.sections judged_there.type body) one.1
      (subst (λ type. IsTypedBody features w.sections type there.body) one.0 there.holds))

  ends_there : e.offset ≤ length bytes
  ends_there = omega (arith, judged_there.judged.to, ends_by (length bytes) given refused.0 judged_there.body w.inside judged_there.has)

  pub refused_body : IsValidated features old_held bytes (Err e)
  refused_body = record {
    right = tt;
    complete = λ sections h. inl (accepted_there sections h);
    malformed = λ is. absurd (not_other e.kind kinds.Malformed kind_there refl is);
    invalid = λ is. absurd (not_other e.kind kinds.Invalid kind_there refl is);
    limit = λ l other is. absurd (other (only_locals l (sym (ap is_of_body is) ∙ kind_there)));
    locals = λ is. there_is (IsBodyPast features) (judged_there.judged.limit is);
    total = λ is. absurd (not_other e.kind kinds.Total kind_there refl is);
    first = λ none is. not_other e.kind kinds.Total kind_there refl is;
    operator = λ is. there_is (IsOtherBody features) (judged_there.judged.operator is);
    body = λ is. there_is (IsBrokenBody features) (judged_there.judged.broken is);
    others = is_named e.kind kind_there;
    place = ends_there;
  }

-- ---- what the list holds afterwards

lost : (features : Features) (old_held : List DefType) (bytes : List ℕ) (kind : ErrorKind) (new_held : List DefType) → NamesSections features old_held bytes kind → new_held ≡ []
    → GoesOnAfter kind features old_held bytes false new_held
lost features old_held bytes kinds.Malformed new_held n none = record { may_not = refl; nothing = none }
lost features old_held bytes kinds.Invalid new_held n none = record { may_not = refl; nothing = none }
lost features old_held bytes (kinds.Limit l) new_held n none = by_limit l n where
  by_limit : (l : core.Limit) → NamesSections features old_held bytes (kinds.Limit l) → GoesOnAfter (kinds.Limit l) features old_held bytes false new_held
  by_limit limits.Locals n = absurd (no_locals at_first n.entries n.passes)
  by_limit _ n = record { may_not = refl; nothing = none }
lost features old_held bytes kinds.Operator new_held n none = absurd n
lost features old_held bytes kinds.Body new_held n none = absurd n
lost features old_held bytes kinds.Total new_held n none = record { may_not = refl; nothing = none }
lost features old_held bytes kinds.Order new_held n none = absurd n
lost features old_held bytes kinds.Failed new_held n none = absurd n
lost features old_held bytes kinds.Memory new_held n none = inl (record { may_not = refl; nothing = none })

-- sections were refused
pub nothing_held : (features : Features) (old_held : List DefType) (bytes : List ℕ) (e : Error) (new_held : List DefType) → NamesSections features old_held bytes e.kind → new_held ≡ []
    → GoesOn features old_held bytes (Err e) false new_held
nothing_held features old_held bytes e new_held n none = lost features old_held bytes e.kind new_held n none

in_body : (features : Features) (old_held : List DefType) (bytes : List ℕ) (kind : ErrorKind) (new_held : List DefType) → is_of_body kind ≡ true → EndsInBody features old_held bytes true new_held
    → GoesOnAfter kind features old_held bytes true new_held
in_body features old_held bytes kinds.Operator new_held of ends = ends
in_body features old_held bytes (kinds.Limit l) new_held of ends = by_limit l of where
  by_limit : (l : core.Limit) → is_of_body (kinds.Limit l) ≡ true → GoesOnAfter (kinds.Limit l) features old_held bytes true new_held
  by_limit limits.Locals of = ends
  by_limit _ of = absurd cc
in_body features old_held bytes kinds.Body new_held of ends = ends
in_body features old_held bytes kinds.Memory new_held of ends = inr ends
in_body features old_held bytes kinds.Malformed new_held of ends = absurd cc
in_body features old_held bytes kinds.Invalid new_held of ends = absurd cc
in_body features old_held bytes kinds.Total new_held of ends = absurd cc
in_body features old_held bytes kinds.Order new_held of ends = absurd cc
in_body features old_held bytes kinds.Failed new_held of ends = absurd cc

-- a body was refused
pub groups_held : (features : Features) (old_held : List DefType) (bytes : List ℕ) (ended : KnownModule) (given : List Input) (e : Error) (w : AreAccepted features old_held bytes ended given)
    → JudgeBodies features w.sections given (Err e) → GoesOn features old_held bytes (Err e) true (held ended.state)
groups_held features old_held bytes ended given e w refused =
    in_body features old_held bytes e.kind (held ended.state) (of_body e.kind refused.2.judged.others) (record { may = refl; sections = w.sections; reads = w.reads; entered = w.entered })
