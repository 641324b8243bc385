-- Supertypes of types in a row, as far as a loop has come.
use Rattle.std.proofs.Common.{◌≡◌, ◌↔◌, ℕ, suc, ◌+◌, ◌<◌, ◌≤◌, List, [], ◌∷◌, length, map, drop, get_or, sym, ap, ◌∙◌, arith}
use Rattle.std.proofs.lemmas.List.{drop_all, drop_more}
use Rattle.wasmparser_type_relations.specs.Canonical.{HasEarlierSupertype, HaveEarlierSupertypes}
use Rattle.wasmparser_types.specs.SubTypes.{sub_type}
use Rattle.wasmparser_types.specs.declared.sub_type.SubType.{SubType}

-- what is left after so many tells as much as the whole
pub record IsAsFar (types : List SubType) (first place : ℕ) : Type 0 where
  pub same : HaveEarlierSupertypes (first + place) (map sub_type (drop place types)) ↔ HaveEarlierSupertypes first (map sub_type types)

one_left : {X : Type 0} (xs : List X) (i : ℕ) (x : X) → i < length xs → x ≡ get_or xs i x → drop i xs ≡ x ∷ drop (i + 1) xs
one_left xs i x lt is = drop_more xs i x lt ∙ ap (λ y. y ∷ drop (i + 1) xs) (sym is)

pub begins : (types : List SubType) (first : ℕ) → IsAsFar types first 0
begins types first = let none : first + 0 ≡ first = omega arith in record { same = rw none ((λ h. h), (λ h. h)) }

one_more : (types : List SubType) (first place : ℕ) (x : SubType) → place < length types → x ≡ get_or types place x
    → HaveEarlierSupertypes (first + place) (map sub_type (drop place types))
    ↔ (HasEarlierSupertype (first + place) (sub_type x) × HaveEarlierSupertypes (first + (place + 1)) (map sub_type (drop (place + 1) types)))
one_more types first place x within at =
    let next : first + (place + 1) ≡ suc (first + place) = omega arith in
    rw (one_left types place x within at, next) ((λ h. h), (λ h. h))

pub goes_on : (types : List SubType) (first place : ℕ) (x : SubType) → IsAsFar types first place → place < length types → x ≡ get_or types place x
    → HasEarlierSupertype (first + place) (sub_type x) → IsAsFar types first (place + 1)
goes_on types first place x far within at has =
    let more = one_more types first place x within at in
    record { same = ((λ h. far.same.0 (more.1 (has, h))), (λ h. (more.0 (far.same.1 h)).1)) }

pub stops : (types : List SubType) (first place : ℕ) (x : SubType) → IsAsFar types first place → place < length types → x ≡ get_or types place x
    → ¬ (HasEarlierSupertype (first + place) (sub_type x)) → ¬ (HaveEarlierSupertypes first (map sub_type types))
stops types first place x far within at fails h = fails ((one_more types first place x within at).0 (far.same.1 h)).0

pub ends : (types : List SubType) (first place : ℕ) → IsAsFar types first place → length types ≤ place → HaveEarlierSupertypes first (map sub_type types)
ends types first place far past =
    let none : drop place types ≡ [] = drop_all place types past in
    far.same.0 (rw none tt)
