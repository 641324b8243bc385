-- The groups of a type section, one after the other.
use Rattle.std.proofs.Common.{◌≡◌, ℕ, zero, suc, ◌+◌, ◌-◌, ◌≤◌, ◌<◌, List, [], ◌∷◌, ◌++◌, map, length, take, drop, get_or, refl, sym, ap, ◌∙◌, append_assoc, arith, length-append}
use Rattle.std.proofs.lemmas.List.{append-nil, drop_more, drop_all, length-drop, length-take-le}
use Rattle.wasm_core_types.specs.SubTypes.{sub_type}
use Rattle.wasm_core_types.specs.declared.types.SubType as code
use Rattle.wasm_spec.specs.Syntax.{members}
use Rattle.wasm_spec.specs.Types.{RecGroup, SubType}
use Rattle.wasm_smith_types.specs.Drawing.{total}
use Rattle.wasm_smith_validity.specs.ValidGroups.{entry}
use Rattle.wasm_smith_types.specs.Grouped.{grouped}
use Rattle.wasm_smith_validity.proofs.GroupLaws.{entry_members}

map_take : {A B : Type 0} (f : A → B) (n : ℕ) (xs : List A) → take n (map f xs) ≡ map f (take n xs)
map_take f zero xs = refl
map_take f (suc n) [] = refl
map_take f (suc n) (x ∷ xs) = ap (λ ys. f x ∷ ys) (map_take f n xs)

map_drop : {A B : Type 0} (f : A → B) (n : ℕ) (xs : List A) → drop n (map f xs) ≡ map f (drop n xs)
map_drop f zero xs = refl
map_drop f (suc n) [] = refl
map_drop f (suc n) (x ∷ xs) = map_drop f n xs

drop_twice : {A : Type 0} (n m : ℕ) (xs : List A) → drop n (drop m xs) ≡ drop (m + n) xs
drop_twice n zero xs = let e : 0 + n ≡ n = omega arith in ap (λ k. drop k xs) (sym e)
drop_twice n (suc m) [] = drop_all n [] (omega arith) ∙ sym (drop_all (suc m + n) [] (omega arith))
drop_twice n (suc m) (x ∷ xs) = let e : suc m + n ≡ suc (m + n) = omega arith in drop_twice n m xs ∙ ap (λ k. drop k (x ∷ xs)) (sym e)

-- the types of the next group
pub next_group : (sizes : List ℕ) (types : List code.SubType) (i start size end : ℕ) (own : List code.SubType) (group : RecGroup ℕ) (front more all : List (RecGroup ℕ)) → i < length sizes
    → size ≡ get_or sizes i 0 → end ≡ start + size → own ≡ take (end - start) (drop start types) → group ≡ entry (map sub_type own) → more ≡ front ++ group ∷ []
    → front ++ grouped (drop i sizes) (map sub_type (drop start types)) ≡ all → more ++ grouped (drop (i + 1) sizes) (map sub_type (drop end types)) ≡ all
next_group sizes types i start size end own group front more all lt is ends owns are pushed so_far =
    let left : end - start ≡ size = omega (arith, ends) in
    let rest = drop (i + 1) sizes in
    let here : drop i sizes ≡ size ∷ rest = drop_more sizes i 0 lt ∙ ap (λ n. n ∷ rest) (sym is) in
    let taken : take size (map sub_type (drop start types)) ≡ map sub_type own =
    map_take sub_type size (drop start types) ∙ ap (map sub_type) (ap (λ n. take n (drop start types)) (sym left) ∙ sym owns) in
    let dropped : drop size (map sub_type (drop start types)) ≡ map sub_type (drop end types) =
    map_drop sub_type size (drop start types) ∙ ap (map sub_type) (drop_twice size start types ∙ ap (λ n. drop n types) (sym ends)) in
    let split : grouped (drop i sizes) (map sub_type (drop start types)) ≡ group ∷ grouped rest (map sub_type (drop end types)) =
    ap (λ ns. grouped ns (map sub_type (drop start types))) here
    ∙ ap (λ ts. entry ts ∷ grouped rest (drop size (map sub_type (drop start types)))) taken
    ∙ ap (λ ts. entry (map sub_type own) ∷ grouped rest ts) dropped
    ∙ ap (λ g. g ∷ grouped rest (map sub_type (drop end types))) (sym are) in
    ap (λ gs. gs ++ grouped rest (map sub_type (drop end types))) pushed ∙ append_assoc front (group ∷ []) (grouped rest (map sub_type (drop end types)))
    ∙ ap (λ gs. front ++ gs) (sym split) ∙ so_far

pub one_longer : (front more : List (RecGroup ℕ)) (group : RecGroup ℕ) → more ≡ front ++ group ∷ [] → length more ≡ length front + 1
one_longer front more group pushed = ap length pushed ∙ length-append front (group ∷ [])

-- as many types as the groups that are left say
pub next_total : (sizes : List ℕ) (i size : ℕ) → i < length sizes → size ≡ get_or sizes i 0 → total (drop i sizes) ≡ size + total (drop (i + 1) sizes)
next_total sizes i size lt is =
    ap total (drop_more sizes i 0 lt ∙ ap (λ n. n ∷ drop (i + 1) sizes) (sym is))

pub no_group_left : (sizes : List ℕ) (types : List code.SubType) (i start : ℕ) (front all : List (RecGroup ℕ)) → length sizes ≤ i
    → front ++ grouped (drop i sizes) (map sub_type (drop start types)) ≡ all → front ≡ all
no_group_left sizes types i start front all past so_far =
    sym (append-nil front) ∙ ap (λ ns. front ++ grouped ns (map sub_type (drop start types))) (sym (drop_all i sizes past)) ∙ so_far

-- ---- sizes of groups

pub many_groups : (sizes : List ℕ) (ts : List (SubType ℕ)) → length (grouped sizes ts) ≡ length sizes
many_groups [] ts = refl
many_groups (n ∷ ns) ts = ap suc (many_groups ns (drop n ts))

pub sizes_are : (sizes : List ℕ) (ts : List (SubType ℕ)) → total sizes ≡ length ts → map (λ group. length (members group)) (grouped sizes ts) ≡ sizes
sizes_are [] ts h = refl
sizes_are (n ∷ ns) ts h =
    let first : length (members (entry (take n ts))) ≡ n = ap length (entry_members (take n ts)) ∙ length-take-le n ts (omega (arith, h)) in
    rw (first, sizes_are ns (drop n ts) (omega (arith, h, length-drop n ts))) refl

-- one type is a group by itself, several are not
pub one_entry : (types : List code.SubType) (d : code.SubType) → length types ≡ 1 → types ≡ get_or types 0 d ∷ []
one_entry [] d e = absurd (omega (arith, e))
one_entry (t ∷ []) d e = refl
one_entry (t ∷ u ∷ types) d e = absurd (omega (arith, e))
