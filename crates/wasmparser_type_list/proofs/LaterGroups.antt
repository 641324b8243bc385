-- What an id stands for is settled by its group and the groups before it.
use Rattle.std.proofs.Common.{◌≡◌, ℕ, suc, ◌+◌, ◌<◌, Bool, List, [], ◌∷◌, ◌++◌, length, refl, ap, ◌∙◌, arith}
use Rattle.std.proofs.lemmas.List.{append_assoc}
use Rattle.wasm_spec.proofs.GroupTrees.{type_kept}
use Rattle.wasm_spec.specs.Syntax.{members}
use Rattle.wasm_spec.specs.Trees.{DefType, places_of, tree_of, type_at}
use Rattle.wasm_spec.specs.Types.{RecGroup}
use Rattle.wasmparser_type_list.specs.IdTypes.{id_types_after, id_types_from, tree_as}

-- later groups only add types
pub front_from : (canonical : ℕ → Bool) (groups : List (RecGroup ℕ)) (number : ℕ) (before : List DefType) → (added : List DefType) × (id_types_from canonical number before groups ≡ before ++ added)
front_from canonical [] number before = ([], none before) where
  none : (xs : List DefType) → xs ≡ xs ++ []
  none [] = refl
  none (x ∷ xs) = ap (λ q. x ∷ q) (none xs)
front_from canonical (group ∷ groups) number before =
    let own = places_of (tree_as (canonical number) number (tree_of before group)) 0 (members group) in
    let others = front_from canonical groups (suc number) (id_types_after (canonical number) number before group) in
    (own ++ others.0, others.1 ∙ append_assoc before own others.0)

-- the front's groups alone decide what stands in the front
pub same_front : (canonical other : ℕ → Bool) (groups later : List (RecGroup ℕ)) (number : ℕ) (before : List DefType)
    → ((n : ℕ) → n < number + length groups → other n ≡ canonical n)
    → (added : List DefType) × (id_types_from other number before (groups ++ later) ≡ id_types_from canonical number before groups ++ added)
same_front canonical other [] later number before same = front_from other later number before
same_front canonical other (group ∷ groups) later number before same =
    let first : other number ≡ canonical number = same number (omega arith) in
    let rest = same_front canonical other groups later (suc number) (id_types_after (canonical number) number before group) (λ n less. same n (omega (arith, less))) in
    (rest.0, ap (λ c. id_types_from other (suc number) (id_types_after c number before group) (groups ++ later)) first ∙ rest.1)

pub settled : (canonical other : ℕ → Bool) (groups later : List (RecGroup ℕ)) (id : ℕ) → ((n : ℕ) → n < length groups → other n ≡ canonical n)
    → id < length (id_types_from canonical 0 [] groups) → type_at (id_types_from other 0 [] (groups ++ later)) id ≡ type_at (id_types_from canonical 0 [] groups) id
settled canonical other groups later id same within =
    let front = same_front canonical other groups later 0 [] (λ n less. same n (omega (arith, less))) in
    ap (λ types. type_at types id) front.1 ∙ type_kept (id_types_from canonical 0 [] groups) front.0 id within
