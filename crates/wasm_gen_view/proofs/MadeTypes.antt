-- The groups of a made module, one after the other.
use Rattle.std.proofs.Common.{◌≡◌, ℕ, zero, suc, ◌+◌, ◌-◌, ◌≤◌, ◌<◌, List, [], ◌∷◌, ◌++◌, map, length, take, drop, get_or, flat_map, sum, refl, sym, ap, subst, ◌∙◌, arith, length-append}
use Rattle.std.proofs.lemmas.List.{drop_more, drop_all}
use Rattle.std.proofs.lemmas.List.Sums.{sum_by-cons}
use Rattle.wasm_core_types.specs.SubTypes.{sub_type}
use Rattle.wasm_core_types.specs.declared.types.SubType as code
use Rattle.wasm_spec.specs.Syntax.{members}
use Rattle.wasm_spec.specs.Trees.{DefType, GroupTree, section_types, types_after, types_from}
use Rattle.wasm_spec.specs.Types as spec
use Rattle.wasm_gen_view.specs.TypeNumbers.{AreNumbersOf}
use Rattle.wasm_gen_view.specs.declared.types.TypePlace.{TypePlace}
use Rattle.wasm_gen_view.specs.declared.types.TypeReference.{TypeReference}

map_take : {A B : Type 0} (f : A → B) (n : ℕ) (xs : List A) → take n (map f xs) ≡ map f (take n xs)
map_take f zero xs = refl
map_take f (suc n) [] = refl
map_take f (suc n) (x ∷ xs) = ap (λ ys. f x ∷ ys) (map_take f n xs)

map_drop : {A B : Type 0} (f : A → B) (n : ℕ) (xs : List A) → drop n (map f xs) ≡ map f (drop n xs)
map_drop f zero xs = refl
map_drop f (suc n) [] = refl
map_drop f (suc n) (x ∷ xs) = map_drop f n xs

drop_twice : {A : Type 0} (n m : ℕ) (xs : List A) → drop n (drop m xs) ≡ drop (m + n) xs
drop_twice n zero xs = let e : 0 + n ≡ n = omega arith in ap (λ k. drop k xs) (sym e)
drop_twice n (suc m) [] = drop_all n [] (omega arith) ∙ sym (drop_all (suc m + n) [] (omega arith))
drop_twice n (suc m) (x ∷ xs) = let e : suc m + n ≡ suc (m + n) = omega arith in drop_twice n m xs ∙ ap (λ k. drop k (x ∷ xs)) (sym e)

take_front : {A : Type 0} (xs ys : List A) → take (length xs) (xs ++ ys) ≡ xs
take_front [] ys = refl
take_front (x ∷ xs) ys = ap (λ zs. x ∷ zs) (take_front xs ys)

drop_front : {A : Type 0} (xs ys : List A) → drop (length xs) (xs ++ ys) ≡ ys
drop_front [] ys = refl
drop_front (x ∷ xs) ys = drop_front xs ys

abbrev pub size_of : spec.RecGroup ℕ → ℕ
size_of group = length (members group)

-- Some groups are numbered; these types, of groups of these sizes, are left.
pub record AreSoFar (groups : List (spec.RecGroup ℕ)) (numbered : List (List (spec.SubType TypeReference))) (places : List TypePlace) (more : List (spec.SubType ℕ)) (left : List ℕ) : Type 0 where
  pub before : List DefType
  pub trees : List GroupTree
  pub rest : List (spec.RecGroup ℕ)
  pub are : AreNumbersOf before trees numbered places
  pub all : types_from before rest ≡ section_types groups
  pub types : more ≡ flat_map members rest
  pub sizes : left ≡ map size_of rest

pub none_so_far : (groups : List (spec.RecGroup ℕ)) (numbered : List (List (spec.SubType TypeReference))) (places : List TypePlace) (more : List (spec.SubType ℕ)) (left : List ℕ)
    → AreNumbersOf [] [] numbered places → more ≡ flat_map members groups → left ≡ map size_of groups → AreSoFar groups numbered places more left
none_so_far groups numbered places more left are types sizes = record { before = []; trees = []; rest = groups; are = are; all = refl; types = types; sizes = sizes }

pub all_so_far : (groups : List (spec.RecGroup ℕ)) (numbered : List (List (spec.SubType TypeReference))) (places : List TypePlace) (more : List (spec.SubType ℕ)) (sizes : List ℕ) (i : ℕ)
    → length sizes ≤ i → AreSoFar groups numbered places more (drop i sizes) → (trees : List GroupTree) × AreNumbersOf (section_types groups) trees numbered places
all_so_far groups numbered places more sizes i past far = by far.rest refl
  where
    by : (rest : List (spec.RecGroup ℕ)) → rest ≡ far.rest → (trees : List GroupTree) × AreNumbersOf (section_types groups) trees numbered places
    by [] e = (far.trees, subst (λ ts. AreNumbersOf ts far.trees numbered places) (ap (types_from far.before) e ∙ far.all) far.are)
    by (g ∷ gs) e = absurd (let no : [] ≡ size_of g ∷ map size_of gs = sym (drop_all i sizes past) ∙ far.sizes ∙ ap (map size_of) (sym e) in cc)

-- One more group is numbered.
pub one_so_far : (groups : List (spec.RecGroup ℕ)) (old new : List (List (spec.SubType TypeReference))) (old_places new_places : List TypePlace) (types own : List code.SubType) (sizes : List ℕ) (i start size end : ℕ)
    → i < length sizes → size ≡ get_or sizes i 0 → end ≡ start + size → own ≡ take (end - start) (drop start types)
    → ((before : List DefType) (group : spec.RecGroup ℕ) → members group ≡ map sub_type own → (trees : List GroupTree) → AreNumbersOf before trees old old_places
    → (all : List GroupTree) × AreNumbersOf (types_after before group) all new new_places)
    → AreSoFar groups old old_places (map sub_type (drop start types)) (drop i sizes) → AreSoFar groups new new_places (map sub_type (drop end types)) (drop (i + 1) sizes)
one_so_far groups old new old_places new_places types own sizes i start size end lt is ends owns add far = by far.rest refl
  where
    here : size ∷ drop (i + 1) sizes ≡ map size_of far.rest
    here = sym (drop_more sizes i 0 lt ∙ ap (λ n. n ∷ drop (i + 1) sizes) (sym is)) ∙ far.sizes

    left : end - start ≡ size
    left = omega (arith, ends)

    by : (rest : List (spec.RecGroup ℕ)) → rest ≡ far.rest → AreSoFar groups new new_places (map sub_type (drop end types)) (drop (i + 1) sizes)
    by [] e = absurd (let no : size ∷ drop (i + 1) sizes ≡ [] = here ∙ ap (map size_of) (sym e) in cc)
    by (g ∷ gs) e =
        let both : size ∷ drop (i + 1) sizes ≡ size_of g ∷ map size_of gs = here ∙ ap (map size_of) (sym e) in
        let first : size ≡ size_of g = cc in
        let others : drop (i + 1) sizes ≡ map size_of gs = cc in
        let front : map sub_type (drop start types) ≡ members g ++ flat_map members gs = far.types ∙ ap (flat_map members) (sym e) in
        let group : members g ≡ map sub_type own =
        sym (take_front (members g) (flat_map members gs)) ∙ sym (λ j. take (first j) (front j)) ∙ map_take sub_type size (drop start types) ∙ ap (λ n. map sub_type (take n (drop start types))) (sym left)
        ∙ ap (map sub_type) (sym owns) in
        let behind : map sub_type (drop end types) ≡ flat_map members gs =
        ap (λ n. map sub_type (drop n types)) ends ∙ ap (map sub_type) (sym (drop_twice size start types)) ∙ sym (map_drop sub_type size (drop start types)) ∙ (λ j. drop (first j) (front j))
        ∙ drop_front (members g) (flat_map members gs) in
        let next = add far.before g group far.trees far.are in
        record {
          before = types_after far.before g;
          trees = next.0;
          rest = gs;
          are = next.1;
          all = ap (types_from far.before) e ∙ far.all;
          types = behind;
          sizes = others;
        }

-- the sizes say how many types there are
pub sizes_whole : (groups : List (spec.RecGroup ℕ)) → sum (map size_of groups) ≡ length (flat_map members groups)
sizes_whole [] = refl
sizes_whole (g ∷ gs) = omega (arith, sum_by-cons (λ x. x) (size_of g) (map size_of gs), sizes_whole gs, length-append (members g) (flat_map members gs))
