-- Chains of types that come one after the other.
use Rattle.std.proofs.Common.{◌≡◌, ℕ, ◌+◌, ◌<◌, List, [], ◌∷◌, ◌++◌, length, map, take, get_or, Option, refl, sym, ap, ◌∙◌}
use Rattle.std.proofs.lemmas.List.{append_assoc, take_more, map_push}
use Rattle.wasm_spec.specs.Types.{SubType}
use Rattle.wasmparser_types.specs.Index.{Index}
use Rattle.wasmparser_type_relations.specs.Chains.{chain_after, chains_after}

pub one_more : (chains : List (Option (List ℕ))) (types : List (SubType Index)) (type : SubType Index)
    → chains_after chains (types ++ type ∷ []) ≡ chains_after chains types ++ chain_after (chains_after chains types) type ∷ []
one_more chains [] type = refl
one_more chains (first ∷ types) type = one_more (chains ++ chain_after chains first ∷ []) types type

-- as a loop goes on
pub longer_chains : (earlier added : List (Option (List ℕ))) (types more : List (SubType Index)) (type : SubType Index) (chain : Option (List ℕ))
    → earlier ++ added ≡ chains_after earlier types → chain ≡ chain_after (earlier ++ added) type → more ≡ types ++ type ∷ []
    → earlier ++ (added ++ chain ∷ []) ≡ chains_after earlier more
longer_chains earlier added types more type chain is chain_is more_is =
    sym (append_assoc earlier added (chain ∷ [])) ∙ ap (λ q. q ++ chain ∷ []) is
    ∙ ap (λ c. chains_after earlier types ++ c ∷ []) (chain_is ∙ ap (λ q. chain_after q type) is)
    ∙ sym (one_more earlier types type) ∙ ap (chains_after earlier) (sym more_is)

pub next_type : {X Y : Type 0} (f : X → Y) (xs : List X) (i : ℕ) (x : X) → i < length xs → x ≡ get_or xs i x → map f (take (i + 1) xs) ≡ map f (take i xs) ++ f x ∷ []
next_type f xs i x lt is =
    ap (map f) (take_more xs i x lt) ∙ map_push f (take i xs) (get_or xs i x) ∙ ap (λ y. map f (take i xs) ++ f y ∷ []) (sym is)
