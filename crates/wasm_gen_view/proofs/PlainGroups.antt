-- Where the features don't ask for types to be canonicalized, the types of a group that is allowed refer to no types.
use Rattle.std.proofs.Common.{◌≡◌, ℕ, Bool, true, false, ◌&&◌, ◌||◌, List, [], ◌∷◌, length, refl, arith, nat_eq}
use Rattle.std.proofs.lemmas.Bool.{and_parts, or_parts}
use Rattle.std.proofs.lemmas.Bool.Decides.{nat_tests}
use Rattle.std.specs.List.{AllByRecursion}
use Rattle.wasm_bodies_laws.proofs.WantedChoices.{allowed_function}
use Rattle.wasm_spec.specs.Features.{Features, FunctionReferences, Gc, StackSwitching, has, needs_type_canonicalization}
use Rattle.wasm_spec.specs.Gates.{is_allowed_composite, is_allowed_group, is_allowed_sub}
use Rattle.wasm_spec.specs.Syntax.{members}
use Rattle.wasm_spec.specs.TypeReferences.{composite_refs, sub_refs}
use Rattle.wasm_spec.specs.Types.{CompositeType, FuncComposite, StructComposite, ArrayComposite, ContComposite, SubType, RecGroup, Single, Group}

none_of : {A : Type 0} (xs : List A) → nat_eq (length xs) 0 ≡ true → xs ≡ []
none_of [] e = refl
none_of (x ∷ xs) e = absurd (grind (arith, nat_tests))

second_of : (a b c : Bool) → c ≡ false → (a && b || c) ≡ true → b ≡ true
second_of true true c off e = refl
second_of true false true off e = absurd cc
second_of true false false off e = absurd cc
second_of false b true off e = absurd cc
second_of false b false off e = absurd cc

module _ (features : Features) (plain : needs_type_canonicalization features ≡ false) where
  no_gc : has features Gc ≡ false
  no_gc = (or_parts (has features FunctionReferences) (has features Gc) (or_parts (has features FunctionReferences || has features Gc) (has features StackSwitching) plain).0).1

  no_switching : has features StackSwitching ≡ false
  no_switching = (or_parts (has features FunctionReferences || has features Gc) (has features StackSwitching) plain).1

  plain_composite : (type : CompositeType ℕ) → is_allowed_composite features type ≡ true → composite_refs type ≡ []
  plain_composite (FuncComposite type) allowed = allowed_function features plain type allowed
  plain_composite (StructComposite fields) allowed =
      let on : has features Gc ≡ true = (and_parts _ _ (and_parts _ _ allowed).0).0 in let off = no_gc in absurd cc
  plain_composite (ArrayComposite field) allowed =
      let on : has features Gc ≡ true = (and_parts _ _ (and_parts _ _ allowed).0).0 in let off = no_gc in absurd cc
  plain_composite (ContComposite function) allowed =
      let on : has features StackSwitching ≡ true = (and_parts _ _ allowed).0 in let off = no_switching in absurd cc

  plain_sub : (type : SubType ℕ) → is_allowed_sub features type ≡ true → sub_refs type ≡ []
  plain_sub type allowed =
      let parts = and_parts (type.is_final && nat_eq (length type.supertypes) 0 || has features Gc) (is_allowed_composite features type.composite_type) allowed in
      rw (none_of type.supertypes (second_of type.is_final (nat_eq (length type.supertypes) 0) (has features Gc) no_gc parts.0), plain_composite type.composite_type parts.1)

  pub plain_group : (group : RecGroup ℕ) → is_allowed_group features group ≡ true → AllByRecursion (λ type. sub_refs type ≡ []) (members group)
  plain_group (Single type) allowed = (plain_sub type allowed, tt)
  plain_group (Group types) allowed = let on : has features Gc ≡ true = (and_parts _ _ allowed).0 in let off = no_gc in absurd cc
