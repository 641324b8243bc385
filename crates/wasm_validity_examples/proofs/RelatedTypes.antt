-- Subtypes among the types that worked examples of subtyping share.
use Rattle.std.proofs.Common.{◌≡◌, ℕ, [], length, option_map, refl, ap, arith}
use Rattle.std.specs.Option.{option_and_then, unwrap_or}
use Rattle.wasm_spec.specs.Subtyping.{Defined, HeapBelow, Link, abstract_of, same, step}
use Rattle.wasm_spec.specs.Trees.{DefType, opened, type_at, unrolled}
use Rattle.wasm_spec.specs.Types.{Func, Struct, Concrete}
use Rattle.wasm_spec.proofs.Elements.{contains_first}
use Rattle.wasm_spec_examples.specs.TypeExamples.{empty_function, one_field, open_below, open_type, two_fields}
use Rattle.wasm_spec_examples.proofs.TypeKinds.{none_above, same_kind}
use Rattle.wasm_validity.specs.DefinedTypes.{fields_in}
use Rattle.wasm_validity_examples.specs.SubtypeExamples.{related}

abbrev pub at : ℕ → DefType
at index = type_at related.types index

-- how many fields a type has, how many supertypes, and how many types its group
abbrev fields : DefType → ℕ
fields type = unwrap_or (option_map (λ fields. length fields) (option_and_then (λ sub. fields_in sub.composite_type) (unrolled type))) 0

abbrev supertypes : DefType → ℕ
supertypes type = unwrap_or (option_map (λ sub. length sub.supertypes) (unrolled type)) 0

abbrev members : DefType → ℕ
members type = length (opened type.tree)

-- ---- kinds

pub structure : Defined unrolled (at 0) (λ c. abstract_of c ≡ Struct)
structure = record { type = open_type one_field; is = refl; holds = refl }

pub function : Defined unrolled (at 3) (λ c. abstract_of c ≡ Func)
function = record { type = open_type empty_function; is = refl; holds = refl }

-- ---- declared types

first_link : Link unrolled (at 1) (at 0)
first_link = record { declared = record { type = open_below (at 0) two_fields; is = refl; among = contains_first (at 0) [] }; kind = structure }

second_link : Link unrolled (at 2) (at 1)
second_link = record {
  declared = record { type = open_below (at 1) two_fields; is = refl; among = contains_first (at 1) [] };
  kind = record { type = open_below (at 0) two_fields; is = refl; holds = refl };
}

pub one_link : HeapBelow unrolled (Concrete (at 1)) (Concrete (at 0))
one_link = step first_link same

pub next_link : HeapBelow unrolled (Concrete (at 2)) (Concrete (at 1))
next_link = step second_link same

pub two_links : HeapBelow unrolled (Concrete (at 2)) (Concrete (at 0))
two_links = step second_link one_link

pub link_of_functions : HeapBelow unrolled (Concrete (at 4)) (Concrete (at 3))
link_of_functions = step (record { declared = record { type = open_below (at 3) empty_function; is = refl; among = contains_first (at 3) [] }; kind = function }) same

-- ---- what isn't below what

pub not_upward : HeapBelow unrolled (Concrete (at 0)) (Concrete (at 1)) → ⊥
not_upward h = let e : 1 ≡ 2 = ap fields (none_above unrolled (at 0) (at 1) (open_type one_field) refl refl h) in absurd (omega (arith, e))

pub not_two_upward : HeapBelow unrolled (Concrete (at 0)) (Concrete (at 2)) → ⊥
not_two_upward h = let e : 1 ≡ 2 = ap fields (none_above unrolled (at 0) (at 2) (open_type one_field) refl refl h) in absurd (omega (arith, e))

pub not_declared : HeapBelow unrolled (Concrete (at 11)) (Concrete (at 0)) → ⊥
not_declared h = let e : 2 ≡ 1 = ap fields (none_above unrolled (at 11) (at 0) (open_type two_fields) refl refl h) in absurd (omega (arith, e))

pub no_function_upward : HeapBelow unrolled (Concrete (at 3)) (Concrete (at 4)) → ⊥
no_function_upward h = let e : 0 ≡ 1 = ap supertypes (none_above unrolled (at 3) (at 4) (open_type empty_function) refl refl h) in absurd (omega (arith, e))

pub other_place : HeapBelow unrolled (Concrete (at 7)) (Concrete (at 8)) → ⊥
other_place h = let e : 0 ≡ 1 = ap (λ type. type.place) (none_above unrolled (at 7) (at 8) (open_type one_field) refl refl h) in absurd (omega (arith, e))

pub of_a_larger_group : HeapBelow unrolled (Concrete (at 0)) (Concrete (at 7)) → ⊥
of_a_larger_group h = let e : 1 ≡ 2 = ap members (none_above unrolled (at 0) (at 7) (open_type one_field) refl refl h) in absurd (omega (arith, e))

pub not_alone : HeapBelow unrolled (Concrete (at 7)) (Concrete (at 0)) → ⊥
not_alone h = let e : 2 ≡ 1 = ap members (none_above unrolled (at 7) (at 0) (open_type one_field) refl refl h) in absurd (omega (arith, e))

pub other_kind : HeapBelow unrolled (Concrete (at 4)) (Concrete (at 0)) → ⊥
other_kind h = let e : Func ≡ Struct = same_kind unrolled (at 4) (at 0) (open_below (at 3) empty_function) (open_type one_field) refl refl h in absurd cc
