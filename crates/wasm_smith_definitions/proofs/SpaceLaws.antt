-- Lists of items, as the code has them and as they are in the specification.
use Rattle.std.proofs.Common.{◌≡◌, ℕ, List, [], ◌∷◌, ◌++◌, map, option_map, ap, sym, ◌∙◌, slice_get, ◌+◌, length, length-append, arith}
use Rattle.std.proofs.lemmas.List.{map-append}
use Rattle.std.proofs.lemmas.Option.{slice_get-map}
use Rattle.wasm_spec.specs.Types.{GlobalType}
use Rattle.wasm_smith_validity.specs.Spaces.{Spaces, globals_of}

pub get_mapped : {A B : Type 0} (f : A → B) (xs ys : List A) (i : ℕ) → slice_get (map f xs ++ map f ys) i ≡ option_map f (slice_get (xs ++ ys) i)
get_mapped f xs ys i = ap (λ l. slice_get l i) (sym (map-append f xs ys)) ∙ slice_get-map f (xs ++ ys) i

pub one_more_global : (k : Spaces) (type : GlobalType ℕ) → length (globals_of (record k { own_globals = k.own_globals ++ type ∷ [] })) ≡ length (globals_of k) + 1
one_more_global k type = simp length-append (omega arith)

pub got_mapped : {A B : Type 0} (f : A → B) (xs : List A) (i : ℕ) → slice_get (map f xs) i ≡ option_map f (slice_get xs i)
got_mapped f xs i = slice_get-map f xs i
