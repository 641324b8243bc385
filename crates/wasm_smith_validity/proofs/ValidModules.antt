-- Modules valid by index are valid, bodies included.
use Rattle.std.proofs.Common.{◌≡◌, ◌↔◌, ℕ, zero, suc, ◌<◌, ◌≤◌, Bool, true, false, not, IsTrue, List, [], ◌∷◌, length, is_some, Option, Some, None, slice_get, refl, sym, subst, ap, ◌∙◌, arith}
use Rattle.std.specs.List.{AllByRecursion}
use Rattle.std.specs.Option.{option_and_then}
use Rattle.wasm_spec.specs.Features.{Features}
use Rattle.wasm_spec.specs.Types.{SubType}
use Rattle.wasm_spec.specs.Syntax.{Section, functions_of, types_of as written_types}
use Rattle.wasm_spec.proofs.GroupTrees.{section_stands}
use Rattle.wasm_spec.proofs.Places.{all_get, get_some}
use Rattle.wasm_validity.specs.Context.{at_first}
use Rattle.wasm_validity.specs.Entries.{entries_of}
use Rattle.wasm_validity.specs.Rules.{KeepLimits}
use Rattle.wasm_validity.specs.Validity.{AreFine, context_of}
use Rattle.wasm_validity.specs.ModuleBodies.{BodyAt, EachBodyAmong, func_type_in, items_in, named_from}
use Rattle.wasm_validity.specs.Modules.{IsTypedBody, IsValid, IsValidBut}
use Rattle.wasm_smith_validity.specs.ValidGroups.{types_of}
use Rattle.wasm_smith_validity.proofs.GroupLaws.{valid_in_range}
use Rattle.wasm_smith_validity.specs.Made.{Made, MadeBody}
use Rattle.wasm_smith_validity.specs.Sections.{kinds_with, sections_with}
use Rattle.wasm_smith_validity.specs.Spaces.{is_value}
use Rattle.wasm_smith_validity.specs.Validity.{IsValidByIndex}
use Rattle.wasm_smith_validity.proofs.MadeSections.{behind_types_said, rules_of, sections_say}
use Rattle.wasm_smith_validity.specs.MadeBodies.{AreMadeBodies, IsMadeBody, is_raw_at}
use Rattle.wasm_smith_validity.proofs.CustomSections.{limits_without}
use Rattle.wasm_smith_validity.proofs.FunctionTypes.{function_at, few_params}
use Rattle.wasm_smith_validity.proofs.SectionItems.{types_are, functions_are, bodies_are}
use Rattle.wasm_smith_validity.proofs.TypedBodies.{named_at, body_is_typed}

-- the body of a function as it is made, and as it is written
record Pair (made : List MadeBody) (bodies : List (List ℕ)) (i : ℕ) : Type 0 where
  first : MadeBody
  body : List ℕ
  declared : slice_get made i ≡ Some first
  has : slice_get bodies i ≡ Some body
  is : IsMadeBody first body

pair_at : (made : List MadeBody) (bodies : List (List ℕ)) (i : ℕ) → AreMadeBodies made bodies → i < length made → Pair made bodies i
pair_at [] bodies i h within = absurd (omega (arith, within))
pair_at (first ∷ others) [] i h within = absurd h
pair_at (first ∷ others) (body ∷ bodies) zero h within = record { first = first; body = body; declared = refl; has = refl; is = h.0 }
pair_at (first ∷ others) (body ∷ bodies) (suc i) h within =
    let p = pair_at others bodies i h.1 (omega (arith, within)) in
    record { first = p.first; body = p.body; declared = p.declared; has = p.has; is = p.is }

-- a body that isn't raw has no raw bytes
not_raw : (made : List MadeBody) (place : ℕ) (first : MadeBody) → slice_get made place ≡ Some first → IsTrue (not (is_raw_at made place)) → first.raw ≡ None
not_raw made place first at other = none_of first.raw (subst (λ o. IsTrue (not (is_some (option_and_then (λ (body : MadeBody). body.raw) o)))) at other)
  where
    none_of : (raw : Option (List ℕ)) → IsTrue (not (is_some raw)) → raw ≡ None
    none_of None h = refl
    none_of (Some raw) h = absurd cc

body_at : (features : Features) (m : Made) (counted : Bool) (bodies : List (List ℕ)) → KeepLimits at_first (entries_of (sections_with counted bodies m))
    → IsValidByIndex features m → AllByRecursion (λ body. length body.locals ≤ 100) m.bodies → AreMadeBodies m.bodies bodies → (place : ℕ) → place < length m.funcs
    → IsTrue (not (is_raw_at m.bodies place)) → BodyAt (IsTypedBody features (sections_with counted bodies m)) (sections_with counted bodies m) place
body_at features m counted bodies limits valid few are place below other =
    let types = types_of m.groups in
    let sections = sections_with counted bodies m in
    let same = types_are counted bodies m in
    let (index, at) = get_some m.funcs place below in
    let n = function_at features m valid place index at in
    let pair = pair_at m.bodies bodies place are (omega (arith, below, valid.bodies)) in
    let stand = section_stands m.groups (valid_in_range features m.groups (rules_of features m valid).valid) in
    let ordered = limits_without m.customs (kinds_with counted bodies m) at_first limits in
    let fits = few_params m.groups (behind_types_said counted bodies m) stand (subst (λ entries. KeepLimits at_first entries) (sections_say counted bodies m) ordered) index n in
    let few_locals = all_get (λ (body : MadeBody). length body.locals ≤ 100) m.bodies few place pair.first pair.declared in
    let values = all_get (λ (body : MadeBody). AllByRecursion (λ type. is_value features types type ≡ true) body.locals) m.bodies valid.locals place pair.first pair.declared in
    record {
      index = index;
      type = n.func;
      body = pair.body;
      indexed = ap (λ (l : List ℕ). slice_get l place) (functions_are counted bodies m) ∙ at;
      named = ap (λ (l : List (SubType ℕ)). func_type_in l index) same ∙ n.named;
      has = ap (λ (l : List (List ℕ)). slice_get l place) (bodies_are counted bodies m) ∙ pair.has;
      holds = λ is_below tells.
          body_is_typed features (items_in (written_types sections) (context_of sections) is_below) types n.func pair.first pair.body
          (λ index known. subst (λ (l : List (SubType ℕ)). is_some (slice_get (named_from 0 l) index) ≡ true) (sym same) (named_at types index known)) fits few_locals values
          (not_raw m.bodies place pair.first pair.declared other) pair.is;
    }

pub is_valid : (features : Features) (m : Made) (counted : Bool) (bodies : List (List ℕ)) → AreFine features (entries_of (sections_with counted bodies m))
    → IsValidByIndex features m → AllByRecursion (λ body. length body.locals ≤ 100) m.bodies → AreMadeBodies m.bodies bodies
    → IsValidBut features (is_raw_at m.bodies) (sections_with counted bodies m)
is_valid features m counted bodies fine valid few are = record {
  fine = fine;
  others = λ place below other. body_at features m counted bodies fine.limits valid few are place (omega (arith, below, ap length (functions_are counted bodies m))) other;
}

-- ---- where the bodies that were left out are well typed too

all_typed : (features : Features) (excepted : ℕ → Bool) (sections : List Section) → IsValidBut features excepted sections → EachBodyAmong excepted (IsTypedBody features sections) sections
    → IsValid features sections
all_typed features excepted sections valid typed = record { fine = valid.fine; bodies = λ place below. go place below (excepted place) refl }
  where
    go : (place : ℕ) → place < length (functions_of sections) → (b : Bool) → excepted place ≡ b → BodyAt (IsTypedBody features sections) sections place
    go place below true e = typed place below e
    go place below false e = valid.others place below (ap not e)

pub valid_where_typed : (features : Features) (excepted : ℕ → Bool) (sections : List Section) → IsValidBut features excepted sections
    → IsValid features sections ↔ EachBodyAmong excepted (IsTypedBody features sections) sections
valid_where_typed features excepted sections but = (λ valid place below among. valid.bodies place below, λ typed. all_typed features excepted sections but typed)

none_raw : (bodies : List MadeBody) (place : ℕ) → AllByRecursion (λ body. body.raw ≡ None) bodies → is_raw_at bodies place ≡ false
none_raw [] place h = refl
none_raw (body ∷ bodies) zero h = rw h.0 refl
none_raw (body ∷ bodies) (suc place) h = none_raw bodies place h.1

pub valid_without_raw : (features : Features) (bodies : List MadeBody) (sections : List Section) → IsValidBut features (is_raw_at bodies) sections → AllByRecursion (λ body. body.raw ≡ None) bodies
    → IsValid features sections
valid_without_raw features bodies sections but none =
    all_typed features (is_raw_at bodies) sections but (λ place below among. absurd (let is = none_raw bodies place none in cc))
