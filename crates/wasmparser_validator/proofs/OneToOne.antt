-- A map of references tells types apart whose references it tells apart.
use Rattle.std.proofs.Common.{◌≡◌, List, [], ◌∷◌, ◌++◌, map, refl, sym, ap, ◌∙◌}
use Rattle.std.specs.List.{AllByRecursion}
use Rattle.wasm_spec.proofs.TypeMaps.{same_subs, sub_map-sub_map, sub_refs-map}
use Rattle.wasm_spec.specs.TypeReferences.{sub_map, sub_refs}
use Rattle.wasm_spec.specs.Types.{SubType}

module _ {R S : Type 0} (f : R → S) (Among : R → Type 0) (one : (a b : R) → Among a → Among b → f a ≡ f b → a ≡ b) where
  same_list : (xs ys : List R) → AllByRecursion Among xs → AllByRecursion Among ys → map f xs ≡ map f ys → xs ≡ ys
  same_list [] [] all all' e = refl
  same_list [] (y ∷ ys) all all' e = absurd cc
  same_list (x ∷ xs) [] all all' e = absurd cc
  same_list (x ∷ xs) (y ∷ ys) all all' e =
      let head : f x ≡ f y = cc in
      let tail : map f xs ≡ map f ys = cc in
      rw (one x y all.0 all'.0 head, same_list xs ys all.1 all'.1 tail)

  -- d is any reference
  pub same_sub : (d : R) (x y : SubType R) → AllByRecursion Among (sub_refs x) → AllByRecursion Among (sub_refs y) → sub_map f x ≡ sub_map f y → x ≡ y
  same_sub d x y all all' e =
      let refs : sub_refs x ≡ sub_refs y = same_list (sub_refs x) (sub_refs y) all all' (sym (sub_refs-map f x) ∙ ap sub_refs e ∙ sub_refs-map f y) in
      let shapes : sub_map (λ _. tt {0}) x ≡ sub_map (λ _. tt {0}) y = sym (sub_map-sub_map (λ _. tt {0}) f x) ∙ ap (sub_map (λ _. tt {0})) e ∙ sub_map-sub_map (λ _. tt {0}) f y in
      let whole : x ∷ [] ≡ y ∷ [] = same_subs d (x ∷ []) (y ∷ []) (ap (λ q. q ∷ []) shapes) (ap (λ rs. rs ++ []) refs) in
      cc
