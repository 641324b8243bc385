-- The facts that tests of types show.
use Rattle.std.proofs.Common.{◌≡◌, ℕ, ◌+◌, ◌<◌, ◌≤◌, List, [], ◌∷◌, length, slice_get, slice_index_or, Option, Some, None, Bool, true, false, refl, ap, ◌∙◌, subst, arith, nat_lt, option_map}
use Rattle.std.proofs.lemmas.Bool.{ltb-false, ltb-true}
use Rattle.std.proofs.lemmas.List.{length-map}
use Rattle.std.proofs.lemmas.Option.{slice_get_within}
use Rattle.wasm_spec.specs.Subtyping.{IsOfKind, SubTypes, abstract_of}
use Rattle.wasm_spec.specs.Types.{CompositeType, SubType}
use Rattle.wasmparser_type_relations.specs.Chains.{AreBelowEarlier, IsBelowEarlier, below_one}
use Rattle.wasmparser_type_list.specs.TypeTables.{TypeTables, sub_types, type_by_id}
use Rattle.wasmparser_interning_tests.specs.Earlier.{AreBelowEarlierTo, IsBelowEarlierAt}
use Rattle.wasmparser_types.specs.Index.{Index, Module, RecGroup, Id, core_type_id}
use Rattle.wasmparser_types.specs.SubTypes.{sub_type}

-- what an index stands for is of the kind of its composite type
pub of_kind : (types : SubTypes Index) (r : Index) (found c : CompositeType Index) → Some found ≡ option_map (λ (type : SubType Index). type.composite_type) (types r)
    → abstract_of found ≡ abstract_of c → IsOfKind types r (abstract_of c)
of_kind types r found c is kind = go (types r) refl is where
  go : (o : Option (SubType Index)) → types r ≡ o → Some found ≡ option_map (λ (type : SubType Index). type.composite_type) o → IsOfKind types r (abstract_of c)
  go None e p = absurd cc
  go (Some type) e p = let same_type : type.composite_type ≡ found = cc in record { type = type; is = e; holds = ap abstract_of same_type ∙ kind }

is_id : (r : Index) (t : ℕ) → core_type_id r ≡ Some t → r ≡ Id t
is_id (Module n) t e = absurd cc
is_id (RecGroup n) t e = absurd cc
is_id (Id n) t e = cc

pub one_below : (tables : TypeTables) (n t : ℕ) (type : SubType Index) (r : Index) → type.supertypes ≡ r ∷ [] → core_type_id r ≡ Some t → t < n
    → IsOfKind (type_by_id tables) r (abstract_of type.composite_type) → IsBelowEarlier (slice_get (sub_types tables)) n type
one_below tables n t type r one id lower kind =
    let is = is_id r t id in
    below_one t (one ∙ ap (λ q. q ∷ []) is) lower (subst (λ q. IsOfKind (type_by_id tables) q (abstract_of type.composite_type)) is kind)

pub at_id : (tables : TypeTables) (n : ℕ) (it : SubType Index) → Some it ≡ slice_get (sub_types tables) n → IsBelowEarlier (slice_get (sub_types tables)) n it → IsBelowEarlierAt tables n
at_id tables n it is below type e = subst (IsBelowEarlier (slice_get (sub_types tables)) n) (let one : it ≡ type = cc in one) below

pub none_yet : (tables : TypeTables) → AreBelowEarlierTo tables 0
none_yet tables n lt = absurd (omega (arith, lt))

pub one_more : (tables : TypeTables) (to : ℕ) → AreBelowEarlierTo tables to → IsBelowEarlierAt tables to → AreBelowEarlierTo tables (to + 1)
one_more tables to all it n lt = go (nat_lt n to) refl where
  go : (b : Bool) → nat_lt n to ≡ b → IsBelowEarlierAt tables n
  go true less = all n (ltb-true n to less)
  go false more = subst (IsBelowEarlierAt tables) (let far = ltb-false n to more in omega (arith, far, lt)) it

pub all_types : (tables : TypeTables) (to : ℕ) → length tables.types ≤ to → AreBelowEarlierTo tables to → AreBelowEarlier (slice_get (sub_types tables))
all_types tables to count all n type e =
    let known = slice_get_within (sub_types tables) n type e in
    all n (omega (arith, known, count, length-map tables.types sub_type)) type e

pub single : {X : Type 0} (xs ys : List X) (x : X) → xs ≡ ys → 1 ≤ length xs → length xs < 2 → x ≡ slice_index_or xs 0 x → ys ≡ x ∷ []
single [] ys x same some few e = absurd (omega (arith, some))
single (y ∷ []) ys x same some few e = cc
single (y ∷ z ∷ zs) ys x same some few e = absurd (omega (arith, few))
