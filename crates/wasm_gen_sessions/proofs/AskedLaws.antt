-- Generating from the seeds of lists.
use Rattle.std.proofs.Common.{◌≡◌, ℕ, ◌+◌, ◌≤◌, ◌<◌, ◌%◌, Bool, true, false, if◌then◌else◌, List, [], ◌∷◌, ◌++◌, length, map, drop, get_or, Option, Some, None, IfSome, refl, sym, subst, ap, ◌∙◌, inl, inr, arith, length-append}
use Rattle.std.specs.Option.{option_and_then, unwrap_or}
use Rattle.std.specs.Prelude.{option_map}
use Rattle.std.specs.declared.vec.Vec.{Vec}
use Rattle.std.proofs.lemmas.List.{drop_more, length-map}
use Rattle.wasm_core.specs.Limits.{limit}
use Rattle.wasm_core.specs.Parts as core
use Rattle.wasm_core.specs.SubTypes.{sub_type}
use Rattle.wasm_spec.specs.Features.{Features}
use Rattle.wasm_spec.specs.Limits.{Limit as NumberedLimit, Types, Functions, most}
use Rattle.wasm_spec.specs.Types.{SubType, RecGroup}
use Rattle.wasm_validity.specs.Context.{at_first}
use Rattle.wasm_validity.specs.Entries.{entries_of}
use Rattle.wasm_validity.specs.Rules.{PassLimit}
use Rattle.wasm_smith.specs.DrawnGroups.{AreSome, drawn_groups_at}
use Rattle.wasm_smith.specs.ErrorCases as smith
use Rattle.wasm_smith.specs.Family.{IsAskable, types_of}
use Rattle.wasm_smith.specs.ValidGroups.{entry}
use Rattle.wasm_smith.specs.Groups.{group_of}
use Rattle.wasm_smith.specs.ValidGroups as flat
use Rattle.wasm_smith.specs.Spelling.{Spells}
use Rattle.wasm_smith.specs.Parts.{Config, Error}
use Rattle.wasm_smith.proofs.SeedLaws.{features_for, flat_entries}
use Rattle.wasm_smith_module.specs.Generating.{HasFront, OwesNothingElse, bare_body, bare_module, front_at, has_shape, left_for_functions, with_functions}
use Rattle.wasm_smith_module.specs.Promise.{IsReason}
use Rattle.wasm_smith_module.specs.TrueToShapes.{IsTrueTo}
use Rattle.wasm_smith_sections.specs.ModuleEncoding.{PassesLength, SomeByRecursion}
use Rattle.wasm_smith_module.specs.Measured.{IsLongBody}
use Rattle.wasm_smith_types.specs.Bounds.{AreSmall}
use Rattle.wasm_smith_validity.specs.Made.{Made}
use Rattle.wasm_smith_validity.specs.Sections.{sections_with}
use Rattle.wasm_smith_validity.specs.Validity.{IsValidByIndex}
use Rattle.wasm_gen_sessions.specs.Written.{IsGenerated}
use Rattle.wasm_gen_sessions.specs.Asked.{IsMemoryOrLimit, IsReachable, MakesLists, RefusesRightly}
use Rattle.wasm_gen_sessions.specs.Generate.{AsksPast, IsGeneratedFrom, IsCause, IsPast, MakesPast, PassesLimit}
use Rattle.wasm_gen_sessions.proofs.NoShapes.{drawn_alone, more_drawn}
use Rattle.wasm_gen_sessions.specs.declared.error.GenerateError.{GenerateError}
use Rattle.wasm_gen_sessions.specs.declared.error.GenerateError.TheVariants.{Config as BadConfig, Shape, Minimum, EmptyChoice, TypeSize, Limit, Memory}

-- what a module is drawn as first
abbrev Front : Type 0
Front = (List (RecGroup ℕ) × List ℕ) × List ℕ

-- ---- laws that these rest on

-- from the spelling of a list it is drawn, and nothing else is owed
pub record Reach : Type 0 where
  pub exact : (c : Config) (groups : List (List (SubType ℕ))) (funcs s : List ℕ) → IsAskable c → Spells c groups funcs s → front_at c s ≡ Some ((map entry groups, funcs), [])
  pub alone : (c : Config) → IsAskable c → OwesNothingElse c
  pub goes_on : (c : Config) (groups : List (List (SubType ℕ))) (funcs s : List ℕ) (byte : ℕ) (rest : List ℕ) → IsAskable c → Spells c groups funcs s → byte % 2 ≡ 0
      → (left : List ℕ) × (front_at c (s ++ byte ∷ rest) ≡ Some ((map entry groups, funcs), left))

-- with a configuration with which lists can be asked for only memory can run out
abbrev pub TotalLaw : Type 0
TotalLaw = (c : Config) (e : Error) → IsAskable c → IsReason c e → e ≡ smith.Memory

-- a module of few types and functions, and of nothing else, passes no limit and no length
pub record Bare : Type 0 where
  pub limits : (features : Features) (groups : List (RecGroup ℕ)) (funcs : List ℕ) (counted : Bool) (passed : NumberedLimit) → IsValidByIndex features (bare_module groups funcs)
      → AreSmall (flat.types_of groups) → AreSome groups → length (flat.types_of groups) ≤ most Types → length funcs ≤ most Functions
      → PassLimit passed at_first (entries_of (sections_with counted [] (bare_module groups funcs))) → ⊥
  pub lengths : (features : Features) (groups : List (RecGroup ℕ)) (funcs : List ℕ) (counted : Bool) → IsValidByIndex features (bare_module groups funcs)
      → AreSmall (flat.types_of groups) → AreSome groups → length (flat.types_of groups) ≤ most Types → length funcs ≤ most Functions
      → PassesLength counted (bare_module groups funcs) → ⊥

-- ---- lists that are made

-- what holds of what is drawn, where that is known
known : {A : Type 0} (P : A → Type 0) (o : Option A) (x : A) → o ≡ Some x → IfSome o P → P x
known {A} P o x e h = subst (λ (d : Option A). IfSome d P) e h

-- the module has this front
has_front : (c : Config) (seed : List ℕ) (front : Front) (m : Made) (left : List ℕ) → front_at c seed ≡ Some front → IfSome (front_at c seed) (λ drawn. HasFront c drawn m left)
    → HasFront c front m left
has_front c seed front m left e h = known (λ (drawn : Front). HasFront c drawn m left) (front_at c seed) front e h

-- the module is that of the list alone
is_bare : Reach → (c : Config) (seed : List ℕ) (groups : List (List (SubType ℕ))) (funcs : List ℕ) (m : Made) (left : List ℕ) → IsAskable c → Spells c groups funcs seed
    → IfSome (front_at c seed) (λ drawn. HasFront c drawn m left) → m ≡ bare_module (map entry groups) funcs
is_bare reach c seed groups funcs m left askable spelled h =
    let front = has_front c seed ((map entry groups, funcs), []) m left (reach.exact c groups funcs seed askable spelled) h in (front.alone refl (reach.alone c askable)).0

pub makes_lists : Reach → (c : Config) (seed bytes : List ℕ) → IsGeneratedFrom c seed bytes → MakesLists c seed bytes
makes_lists reach c seed bytes g = record {
  exactly = λ groups funcs asked spelled.
      subst (λ (m : Made). IsGenerated c m bytes) (is_bare reach c seed groups funcs g.made g.left asked.family.askable spelled g.drawn) g.generated;
  going_on = λ groups funcs front rest byte asked spelled parts even.
      let on = reach.goes_on c groups funcs front byte rest asked.family.askable spelled even in
      let has = has_front c seed ((map entry groups, funcs), on.0) g.made g.left (ap (front_at c) parts ∙ on.1) g.drawn in
      record { made = g.made; same_groups = has.groups; same_functions = has.funcs; generated = g.generated };
}

-- ---- refusals

all_refusals : TotalLaw → (c : Config) (seed : List ℕ) (e : GenerateError) → IsCause c seed e → IsAskable c → IsMemoryOrLimit c seed e
all_refusals law c seed (BadConfig field) h asked = let e = law c (smith.BadConfig field) asked h in absurd cc
all_refusals law c seed (Shape part) h asked = let e = law c (smith.BadShape part) asked h in absurd cc
all_refusals law c seed Minimum h asked = let e = law c smith.IncorrectFormat asked h in absurd cc
all_refusals law c seed EmptyChoice h asked = let e = law c smith.EmptyChoose asked h in absurd cc
all_refusals law c seed TypeSize h asked = let e = law c smith.TypeSize asked h in absurd cc
all_refusals law c seed (Limit passed) h asked = inr (passed, refl, h)
all_refusals law c seed Memory h asked = inl refl

-- the groups of a front are drawn
groups_drawn : (c : Config) (s : List ℕ) (front : Front) → front_at c s ≡ Some front → (left : List ℕ) × (drawn_groups_at c s ≡ Some (front.0.0, left))
unfolding front_at
groups_drawn c s front e = go (drawn_groups_at c s) refl (drawn_so (has_shape c) _ e)
  where
    drawn_so : (shaped : Bool) (o : Option Front) → (if shaped then None else o) ≡ Some front → o ≡ Some front
    drawn_so true o e = absurd cc
    drawn_so false o e = e

    left_then : (drawn : List (RecGroup ℕ) × List ℕ) → drawn_groups_at c s ≡ Some drawn → (o : Option (List ℕ)) → option_map (with_functions c drawn.0) o ≡ Some front
        → (left : List ℕ) × (drawn_groups_at c s ≡ Some (front.0.0, left))
    left_then drawn same None e = absurd cc
    left_then drawn same (Some left) e = (drawn.1, same ∙ ap (λ (gs : List (RecGroup ℕ)). Some (gs, drawn.1)) (ap (λ (o : Option Front). (unwrap_or o front).0.0) e))

    go : (o : Option (List (RecGroup ℕ) × List ℕ)) → drawn_groups_at c s ≡ o
        → option_and_then (λ (drawn : List (RecGroup ℕ) × List ℕ). option_map (with_functions c drawn.0) (left_for_functions c drawn.0 drawn.1)) o ≡ Some front
        → (left : List ℕ) × (drawn_groups_at c s ≡ Some (front.0.0, left))
    go None same e = absurd cc
    go (Some drawn) same e = left_then drawn same (left_for_functions c drawn.0 drawn.1) e

few_entries : (c : Config) (groups : List (List (SubType ℕ))) (funcs : List ℕ) → IsReachable c groups funcs → length (flat.types_of (map entry groups)) ≤ most Types
few_entries c groups funcs asked = omega (arith, asked.few_types, ap length (flat_entries groups))

-- no body of its module is raw
none_long : (funcs : List ℕ) → SomeByRecursion IsLongBody (map (λ _. bare_body) funcs) → ⊥
none_long [] some = some
none_long (function ∷ funcs) (inl long) = absurd (let raw = long.0 in cc)
none_long (function ∷ funcs) (inr some) = none_long funcs some

-- a list that passes no limit isn't made as a module that does
none_made : Reach → Bare → (c : Config) (seed : List ℕ) (groups : List (List (SubType ℕ))) (funcs : List ℕ) (passed : NumberedLimit) → IsReachable c groups funcs
    → Spells c groups funcs seed → MakesPast c seed passed → ⊥
none_made reach bare c seed groups funcs passed asked spelled past =
    let (features, are) = features_for c in
    let same = is_bare reach c seed groups funcs past.made past.left asked.family.askable spelled past.drawn in
    let valid = subst (λ (m : Made). IsValidByIndex features m) same (past.valid features are) in
    let shaped = subst (λ (m : Made). IsTrueTo c m) same past.true_to_shapes in
    let drawn = drawn_alone c (map entry groups) asked.family.askable.no_shapes shaped.types in
    let few = few_entries c groups funcs asked in
    elim (subst (λ (m : Made). IsPast c passed m) same past.past) [
      | inl p ↦ bare.limits features (map entry groups) funcs c.bulk_memory_enabled passed valid drawn.0 drawn.1 few asked.few_funcs p
      | inr (inl long) ↦ none_long funcs long.1
      | inr (inr long) ↦ bare.lengths features (map entry groups) funcs c.bulk_memory_enabled valid drawn.0 drawn.1 few asked.few_funcs long.1
    ]

-- nor are more types asked for
none_asked : Reach → (c : Config) (seed : List ℕ) (groups : List (List (SubType ℕ))) (funcs : List ℕ) (passed : NumberedLimit) → IsReachable c groups funcs
    → Spells c groups funcs seed → AsksPast c seed passed → ⊥
none_asked reach c seed groups funcs passed asked spelled past =
    let drawn = groups_drawn c seed ((map entry groups, funcs), []) (reach.exact c groups funcs seed asked.family.askable spelled) in
    let many : most Types < length (flat.types_of (map entry groups)) =
    known (λ (d : List (RecGroup ℕ) × List ℕ). most Types < length (flat.types_of d.0)) (drawn_groups_at c seed) (map entry groups, drawn.0) drawn.1
    (more_drawn c seed (most Types) asked.family.askable.no_shapes past.asks.more) in
    omega (arith, many, few_entries c groups funcs asked)

no_limit : Reach → Bare → (c : Config) (seed : List ℕ) (groups : List (List (SubType ℕ))) (funcs : List ℕ) (passed : core.Limit) → IsReachable c groups funcs
    → Spells c groups funcs seed → PassesLimit c seed passed → ⊥
no_limit reach bare c seed groups funcs passed asked spelled past = elim past.past [
  | inl made ↦ none_made reach bare c seed groups funcs (limit passed) asked spelled made
  | inr asks ↦ none_asked reach c seed groups funcs (limit passed) asked spelled asks
]

only_memory : Reach → Bare → (c : Config) (seed : List ℕ) (e : GenerateError) → IsMemoryOrLimit c seed e → (groups : List (List (SubType ℕ))) (funcs : List ℕ)
    → IsReachable c groups funcs → Spells c groups funcs seed → e ≡ Memory
only_memory reach bare c seed e (inl want) groups funcs asked spelled = want
only_memory reach bare c seed e (inr (passed, is, past)) groups funcs asked spelled = absurd (no_limit reach bare c seed groups funcs passed asked spelled past)

pub refuses_rightly : Reach → TotalLaw → Bare → (c : Config) (seed : List ℕ) (e : GenerateError) → IsCause c seed e → RefusesRightly c seed e
refuses_rightly reach law bare c seed e h = record {
  total = all_refusals law c seed e h;
  spelled = λ groups funcs asked spelled. only_memory reach bare c seed e (all_refusals law c seed e h asked.family.askable) groups funcs asked spelled;
}

-- ---- seeds that are asked for

-- the next group's types come before those of the others
pub next_types : {A : Type 0} (groups : List (Vec core.SubType A)) (i : ℕ) (group : Vec core.SubType A) → i < length groups → group ≡ get_or groups i group
    → length (types_of (map group_of (drop i groups))) ≡ length group.items + length (types_of (map group_of (drop (i + 1) groups)))
next_types groups i group lt is =
    let here = drop_more groups i group lt ∙ ap (λ g. g ∷ drop (i + 1) groups) (sym is) in
    omega
    (arith, ap (λ gs. length (types_of (map group_of gs))) here, length-append (group_of group) (types_of (map group_of (drop (i + 1) groups))), length-map group.items sub_type)
