-- Marked trees open to what they were rolled up from, and no two trees are equal of which one is marked, unless both are with one number.
use Rattle.std.proofs.Common.{◌≡◌, ℕ, List, [], ◌∷◌, ◌++◌, length, refl, ap, sym, ◌∙◌, arith, Bool, true, false}
use Rattle.std.proofs.lemmas.List.{append_cancel_left, length-append}
use Rattle.wasm_spec.specs.TypeReferences.{subs_map, subs_refs, subs_fill}
use Rattle.wasm_spec.specs.Trees.{GroupTree, Rolled, TreeReference, Own, joined, listed, roll, opened}
use Rattle.wasm_spec.specs.Types.{SubType}
use Rattle.wasm_spec.proofs.GroupTrees.{opened-roll}
use Rattle.wasm_spec.proofs.TypeMaps.{subs_fill-exact}
use Rattle.wasmparser_type_list.specs.IdTypes.{marked, tree_as}

listed-joined : (rs : List TreeReference) → listed (joined rs) ≡ rs
listed-joined [] = refl
listed-joined (r ∷ rs) = rw (listed-joined rs)

references_of : GroupTree → List TreeReference
references_of (Rolled shapes rs) = listed rs

references-roll : (types : List (SubType TreeReference)) → references_of (roll types) ≡ subs_refs types
unfolding references_of
references-roll types = listed-joined (subs_refs types)

references-marked : (number : ℕ) (types : List (SubType TreeReference)) → references_of (marked number (roll types)) ≡ subs_refs types ++ Own number ∷ []
unfolding references_of
references-marked number types =
    listed-joined (listed (joined (subs_refs types)) ++ Own number ∷ []) ∙ ap (λ rs. rs ++ Own number ∷ []) (listed-joined (subs_refs types))

opened-marked : (number : ℕ) (types : List (SubType TreeReference)) → opened (marked number (roll types)) ≡ types
unfolding references_of
opened-marked number types =
    ap (λ rs. (subs_fill (Own 0) (subs_map (λ _. tt) types) rs).0) (references-marked number types)
    ∙ ap (λ q. q.0) (subs_fill-exact (Own 0) types (Own number ∷ []))

pub opened-as : (is_canonical : Bool) (number : ℕ) (types : List (SubType TreeReference)) → opened (tree_as is_canonical number (roll types)) ≡ types
opened-as true number types = opened-roll types
opened-as false number types = opened-marked number types

pub not_marked : (types others : List (SubType TreeReference)) (number : ℕ) → roll types ≡ marked number (roll others) → ⊥
not_marked types others number e =
    let same : types ≡ others = sym (opened-roll types) ∙ ap opened e ∙ opened-marked number others in
    let references : subs_refs types ≡ subs_refs others ++ Own number ∷ [] = sym (references-roll types) ∙ ap references_of e ∙ references-marked number others in
    absurd (omega (arith, ap length references, ap (λ q. length (subs_refs q)) same, length-append (subs_refs others) (Own number ∷ [])))

pub same_mark : (types others : List (SubType TreeReference)) (n m : ℕ) → marked n (roll types) ≡ marked m (roll others) → n ≡ m
same_mark types others n m e =
    let same : types ≡ others = sym (opened-marked n types) ∙ ap opened e ∙ opened-marked m others in
    let references : subs_refs types ++ Own n ∷ [] ≡ subs_refs others ++ Own m ∷ [] = sym (references-marked n types) ∙ ap references_of e ∙ references-marked m others in
    let last : Own n ∷ [] ≡ Own m ∷ [] =
    append_cancel_left (subs_refs types) (Own n ∷ []) (Own m ∷ []) (references ∙ ap (λ q. subs_refs q ++ Own m ∷ []) (sym same)) in
    cc
