-- Valid groups stay valid after other types, their references shifted.
use Rattle.std.proofs.Common.{◌≡◌, ℕ, ◌+◌, ◌<◌, Bool, true, false, List, [], ◌∷◌, ◌++◌, map, length, sym, ap, ◌∙◌, arith, Some, subst, append_assoc, length-append, if◌then◌else◌}
use Rattle.std.proofs.lemmas.List.{append-nil, length-map, map-append}
use Rattle.std.proofs.lemmas.Option.{slice_get-map}
use Rattle.std.specs.List.{slice_get}
use Rattle.std.specs.Option.{option_map}
use Rattle.wasm_spec.specs.Features.{Features, Gc, has}
use Rattle.wasm_spec.specs.Groups.{reference_bound}
use Rattle.wasm_spec.specs.ReferenceMaps.{KeepsTypes}
use Rattle.wasm_spec.specs.Syntax.{members}
use Rattle.wasm_spec.specs.TypeReferences.{sub_map, group_map, group_refs}
use Rattle.wasm_spec.specs.Types.{SubType, RecGroup}
use Rattle.wasm_spec.proofs.MappedTypes.{all_map}
use Rattle.wasm_spec.proofs.Places.{get_right}
use Rattle.wasm_spec.proofs.TypeMaps.{group_refs-map}
use Rattle.wasm_smith_validity.specs.ValidGroups.{IsValidGroup, AreValidAfter, AreValidGroups, types_of}
use Rattle.wasm_smith_types.proofs.CloneLaws.{allowed_group, members_map, from_option}
use Rattle.wasm_smith_validity.proofs.GroupLaws.{rules_moved}

module _ (features : Features) (made : List (SubType ℕ)) where
  abbrev f : ℕ → ℕ
  f r = length made + r

  shift_keeps : (ts : List (SubType ℕ)) → KeepsTypes f (slice_get ts) (slice_get (made ++ map (sub_map f) ts))
  shift_keeps ts r type is = get_right made (map (sub_map f) ts) r ∙ slice_get-map (sub_map f) ts r ∙ ap (option_map (sub_map f)) is

  bounds : (b : Bool) (ss : List (SubType ℕ)) (group : RecGroup ℕ) (n : ℕ) → n < (if b then length ss + length (members group) else length ss)
      → f n < (if b then length (made ++ map (sub_map f) ss) + length (members (group_map f group)) else length (made ++ map (sub_map f) ss))
  bounds true ss group n h =
      omega
      (arith, h, length-append made (map (sub_map f) ss), length-map ss (sub_map f), ap length (members_map f group), length-map (members group) (sub_map f))
  bounds false ss group n h = omega (arith, h, length-append made (map (sub_map f) ss), length-map ss (sub_map f))

  shift_valid : (ss : List (SubType ℕ)) (group : RecGroup ℕ) → IsValidGroup features ss group
      → IsValidGroup features (made ++ map (sub_map f) ss) (group_map f group)
  shift_valid ss group valid = record {
    allowed = allowed_group features f group ∙ valid.allowed;
    in_range =
        rw (group_refs-map f group)
        (all_map (λ n. n < reference_bound features (length ss) group) (λ n. n < reference_bound features (length (made ++ map (sub_map f) ss)) (group_map f group)) f (bounds (has features Gc) ss group) (group_refs group) valid.in_range);
    rules = λ place type is.
        let got : slice_get (map (sub_map f) (members group)) place ≡ Some type = rw (members_map f group) at is in
        let (old, at, same) = from_option (sub_map f) (slice_get (members group) place) type (sym (slice_get-map (sub_map f) (members group) place) ∙ got) in
        let ts = ss ++ members group in
        let moved =
        rules_moved f ts (made ++ map (sub_map f) ts) (shift_keeps ts) (λ r s h. omega (arith, h)) (length ss + place) old (valid.rules place old at) in
        let all : made ++ map (sub_map f) ts ≡ (made ++ map (sub_map f) ss) ++ members (group_map f group) =
        ap (λ xs. made ++ xs) (map-append (sub_map f) ss (members group)) ∙ sym (append_assoc made (map (sub_map f) ss) (map (sub_map f) (members group)))
        ∙ ap (λ xs. (made ++ map (sub_map f) ss) ++ xs) (sym (members_map f group)) in
        let index : f (length ss + place) ≡ length (made ++ map (sub_map f) ss) + place =
        omega (arith, length-append made (map (sub_map f) ss), length-map ss (sub_map f)) in
        rw (all, index, same) at moved;
  }

  shift_all : (ss : List (SubType ℕ)) (groups : List (RecGroup ℕ)) → AreValidAfter features ss groups
      → AreValidAfter features (made ++ map (sub_map f) ss) (map (group_map f) groups)
  shift_all ss [] h = tt
  shift_all ss (group ∷ groups) h =
      let all : made ++ map (sub_map f) (ss ++ members group) ≡ (made ++ map (sub_map f) ss) ++ members (group_map f group) =
      ap (λ xs. made ++ xs) (map-append (sub_map f) ss (members group)) ∙ sym (append_assoc made (map (sub_map f) ss) (map (sub_map f) (members group)))
      ∙ ap (λ xs. (made ++ map (sub_map f) ss) ++ xs) (sym (members_map f group)) in
      (shift_valid ss group h.0, subst (λ ts. AreValidAfter features ts (map (group_map f) groups)) all (shift_all (ss ++ members group) groups h.1))

  pub shifted_after : (groups : List (RecGroup ℕ)) → AreValidGroups features groups → AreValidAfter features made (map (group_map f) groups)
  shifted_after groups h = subst (λ ts. AreValidAfter features ts (map (group_map f) groups)) (append-nil made) (shift_all [] groups h)

valid_joined : (features : Features) (before : List (SubType ℕ)) (gs hs : List (RecGroup ℕ)) → AreValidAfter features before gs
    → AreValidAfter features (before ++ types_of gs) hs → AreValidAfter features before (gs ++ hs)
valid_joined features before [] hs h k = subst (λ ts. AreValidAfter features ts hs) (append-nil before) k
valid_joined features before (g ∷ gs) hs h k =
    (h.0, valid_joined features (before ++ members g) gs hs h.1 (subst (λ ts. AreValidAfter features ts hs) (sym (append_assoc before (members g) (types_of gs))) k))

pub shifted_valid : (features : Features) (groups others : List (RecGroup ℕ)) → AreValidGroups features groups → AreValidGroups features others
    → AreValidGroups features (groups ++ map (group_map (λ r. length (types_of groups) + r)) others)
shifted_valid features groups others h k =
    valid_joined features [] groups (map (group_map (λ r. length (types_of groups) + r)) others) h (shifted_after features (types_of groups) others k)
