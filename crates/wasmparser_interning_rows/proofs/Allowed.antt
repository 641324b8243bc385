-- Types whose references were all tested, and none of which was replaced.
use Rattle.std.proofs.Common.{◌≡◌, ℕ, List, [], ◌∷◌, ◌++◌, length, map, refl, sym, ap, ◌∙◌, subst}
use Rattle.std.proofs.lemmas.List.{append-nil, length-map}
use Rattle.std.specs.List.{AllByRecursion}
use Rattle.wasm_spec.proofs.TypeMaps.{group_refs-map, sub_refs-map}
use Rattle.wasm_spec.specs.TypeReferences.{composite_refs, func_refs, group_map, group_refs, sub_map, sub_refs}
use Rattle.wasm_spec.specs.Types as spec
use Rattle.wasmparser_types.specs.Index.{Index}
use Rattle.wasmparser_types.specs.RecGroups.{members}
use Rattle.wasmparser_type_list.specs.TypeTables.{AreWithin, IsWithin, final_func}

same : (xs : List Index) → map (λ index. index) xs ≡ xs
same [] = refl
same (x ∷ xs) = ap (λ q. x ∷ q) (same xs)

-- a group by the places of its references
abbrev GroupIsWithin : ℕ → spec.RecGroup Index → Type 0
GroupIsWithin before it = AllByRecursion (IsWithin before (length (members it))) (group_refs it)

members_within : (before : ℕ) (it : spec.RecGroup Index) → GroupIsWithin before it → AreWithin before (members it)
members_within before (spec.Single type) h = subst (AllByRecursion (IsWithin before 1)) (sym (append-nil (sub_refs type))) h
members_within before (spec.Group types) h = h

members_count : (it : spec.RecGroup Index) → length (members (group_map (λ index. index) it)) ≡ length (members it)
members_count (spec.Single type) = refl
members_count (spec.Group types) = length-map types (sub_map (λ index. index))

pub group : (before count : ℕ) (old new : spec.RecGroup Index) → count ≡ length (members old) → new ≡ group_map (λ index. index) old
    → AllByRecursion (IsWithin before count) (group_refs old) → AreWithin before (members new)
group before count old new is same_group all =
    let refs : group_refs new ≡ group_refs old = ap group_refs same_group ∙ group_refs-map (λ index. index) old ∙ same (group_refs old) in
    let count_is : length (members new) ≡ count = ap (λ q. length (members q)) same_group ∙ members_count old ∙ sym is in
    members_within before new (subst (λ n. AllByRecursion (IsWithin before n) (group_refs new)) (sym count_is) (subst (AllByRecursion (IsWithin before count)) (sym refs) all))

pub lone : (before : ℕ) (old new : spec.SubType Index) → new ≡ sub_map (λ index. index) old
    → AllByRecursion (IsWithin before 1) (sub_refs old) → AreWithin before (new ∷ [])
lone before old new same_type all =
    let refs : sub_refs new ≡ sub_refs old = ap sub_refs same_type ∙ sub_refs-map (λ index. index) old ∙ same (sub_refs old) in
    members_within before (spec.Single new) (subst (AllByRecursion (IsWithin before 1)) (sym refs) all)

right : (P : Index → Type 0) (xs ys : List Index) → AllByRecursion P (xs ++ ys) → AllByRecursion P ys
right P [] ys h = h
right P (x ∷ xs) ys h = right P xs ys h.1

left : (P : Index → Type 0) (xs ys : List Index) → AllByRecursion P (xs ++ ys) → AllByRecursion P xs
left P [] ys h = tt
left P (x ∷ xs) ys h = (h.0, left P xs ys h.1)

-- a sub type that is made of a function type
pub func : (before : ℕ) (type : spec.FuncType Index) (it : spec.SubType Index) → it.composite_type ≡ spec.FuncComposite type
    → AreWithin before (it ∷ []) → AreWithin before (final_func type ∷ [])
func before type it is within =
    let P = IsWithin before 1 in
    let made : AllByRecursion P (it.supertypes ++ func_refs type) = subst (λ c. AllByRecursion P (it.supertypes ++ composite_refs c)) is (left P (sub_refs it) [] within) in
    members_within before (spec.Single (final_func type)) (right P it.supertypes (func_refs type) made)
