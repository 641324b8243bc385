-- How operands are taken and given, over mapped references.
use Rattle.std.proofs.Common.{true, false, ◌≡◌, ◌||◌, List, [], ◌∷◌, ◌++◌, map, reverse, Some, refl, sym, ap, ◌∙◌}
use Rattle.std.proofs.lemmas.List.{map-append}
use Rattle.std.specs.Option.{option_map}
use Rattle.wasm_bodies.specs.BodyContext.{ModuleItems, Local, is_among}
use Rattle.wasm_bodies.specs.Operands.{Operand, Known, Unknown, UnknownRef, State, popped_from, popped, fits, taken, each_taken, all_taken, given, fresh, applied, with_assigned, is_plain, are_same_plain, selected, may_be_ref, non_null, converted}
use Rattle.wasm_bodies_laws.specs.References.{AgreeOn, AreAllWanted, Below, items_map, operand_map, local_map, state_map}
use Rattle.wasm_bodies_laws.proofs.HeldOptions.{all_reverse}
use Rattle.wasm_bodies_laws.proofs.MappedOptions.{if_map, provided_map, map_map, then_map, reverse_map}
use Rattle.wasm_spec.specs.TypeReferences.{val_map, func_map}
use Rattle.wasm_spec.specs.Types.{AbstractHeapType, Abstract, ValType, I32, I64, F32, F64, V128, Ref, FuncType, is_ref}

-- what was popped
abbrev pub popped_map : {R S : Type 0} → (R → S) → Operand R × State R → Operand S × State S
popped_map f p = (operand_map f p.0, state_map f p.1)

-- ---- operands alone

module _ {R S : Type 0} (f : R → S) where
  pub is_ref_is : (type : ValType R) → is_ref (val_map f type) ≡ is_ref type
  is_ref_is I32 = refl
  is_ref_is I64 = refl
  is_ref_is F32 = refl
  is_ref_is F64 = refl
  is_ref_is V128 = refl
  is_ref_is (Ref nullable heap) = refl

  pub are_same_is : (a b : ValType R) → are_same_plain (val_map f a) (val_map f b) ≡ are_same_plain a b
  are_same_is I32 I32 = refl
  are_same_is I64 I64 = refl
  are_same_is F32 F32 = refl
  are_same_is F64 F64 = refl
  are_same_is V128 V128 = refl
  are_same_is _ _ = refl

  pub selected_is : (x y : Operand R) → selected (operand_map f x) (operand_map f y) ≡ option_map (operand_map f) (selected x y)
  selected_is (Known a) (Known b) = rw (are_same_is a b) (provided_map (operand_map f) (are_same_plain a b) (Some (Known a)))
  selected_is Unknown (Known b) = rw (is_ref_is b) (provided_map (operand_map f) (is_plain b) (Some (Known b)))
  selected_is Unknown Unknown = refl
  selected_is _ _ = refl

  pub may_be_ref_is : (x : Operand R) → may_be_ref (operand_map f x) ≡ may_be_ref x
  may_be_ref_is (Known type) = is_ref_is type
  may_be_ref_is Unknown = refl
  may_be_ref_is UnknownRef = refl

  pub non_null_is : (x : Operand R) → non_null (operand_map f x) ≡ option_map (operand_map f) (non_null x)
  non_null_is (Known I32) = refl
  non_null_is (Known I64) = refl
  non_null_is (Known F32) = refl
  non_null_is (Known F64) = refl
  non_null_is (Known V128) = refl
  non_null_is (Known (Ref nullable heap)) = refl
  non_null_is Unknown = refl
  non_null_is UnknownRef = refl

  -- ---- the list of operands

  popped_from_is : (xs : List (Operand R)) (s : State R) → popped_from (map (operand_map f) xs) (state_map f s) ≡ option_map (popped_map f) (popped_from xs s)
  popped_from_is (x ∷ xs) s = refl
  popped_from_is [] s = provided_map (popped_map f) s.is_open (Some (Unknown, s))

  pub popped_is : (s : State R) → popped (state_map f s) ≡ option_map (popped_map f) (popped s)
  popped_is s = popped_from_is s.known s

  known_is : (types : List (ValType R)) → map (λ type. Known type) (map (val_map f) types) ≡ map (operand_map f) (map (λ type. Known type) types)
  known_is [] = refl
  known_is (type ∷ types) = ap (λ xs. Known (val_map f type) ∷ xs) (known_is types)

  pub given_is : (types : List (ValType R)) (s : State R) → given (map (val_map f) types) (state_map f s) ≡ state_map f (given types s)
  given_is types s =
      let known : List (Operand R) = map (λ type. Known type) types in
      let with : List (Operand S) → State S = λ xs. record { known = xs; is_open = s.is_open; assigned = s.assigned } in
      ap (λ xs. with (reverse xs ++ map (operand_map f) s.known)) (known_is types)
      ∙ ap (λ xs. with (xs ++ map (operand_map f) s.known)) (reverse_map (operand_map f) known)
      ∙ ap with (sym (map-append (operand_map f) (reverse known) s.known))

  pub fresh_is : (types : List (ValType R)) (assigned : List _) → fresh (map (val_map f) types) assigned ≡ state_map f (fresh types assigned)
  fresh_is types assigned = given_is types (record { known = []; is_open = false; assigned = assigned })

  pub assigned_is : (local : Local R) (index : _) (s : State R) → with_assigned (local_map f local) index (state_map f s) ≡ state_map f (with_assigned local index s)
  assigned_is local index s = if_map (state_map f) (local.is_set || is_among s.assigned index) s (record s { assigned = s.assigned ++ index ∷ [] })

-- ---- what fits, by the premise

module _ {R S : Type 0} (Wanted : ValType R → Type 0) (f : R → S) (items : ModuleItems R) (below : Below S) (agree : AgreeOn Wanted f items below) where
  pub fits_is : (type : ValType R) → Wanted type → (x : Operand R) → fits (items_map f items below) (val_map f type) (operand_map f x) ≡ fits items type x
  fits_is type wanted (Known known) = agree known type wanted
  fits_is type wanted Unknown = refl
  fits_is type wanted UnknownRef = is_ref_is f type

  pub taken_is : (type : ValType R) → Wanted type → (s : State R) → taken (items_map f items below) (val_map f type) (state_map f s) ≡ option_map (state_map f) (taken items type s)
  taken_is type wanted s = rw (popped_is f s) (then_map (popped_map f) (state_map f) _ _ (λ p. rw (fits_is type wanted p.0) (provided_map (state_map f) (fits items type p.0) (Some p.1))) (popped s))

  each_taken_is : (types : List (ValType R)) → AreAllWanted Wanted types → (s : State R) → each_taken (items_map f items below) (map (val_map f) types) (state_map f s) ≡ option_map (state_map f) (each_taken items types s)
  each_taken_is [] all s = refl
  each_taken_is (type ∷ types) all s =
      rw (taken_is type all.0 s)
      (then_map (state_map f) (state_map f) (each_taken items types) _ (each_taken_is types all.1) (taken items type s))

  pub all_taken_is : (types : List (ValType R)) → AreAllWanted Wanted types → (s : State R) → all_taken (items_map f items below) (map (val_map f) types) (state_map f s) ≡ option_map (state_map f) (all_taken items types s)
  all_taken_is types all s = rw (reverse_map (val_map f) types) (each_taken_is (reverse types) (all_reverse Wanted types all) s)

  pub applied_is : (type : FuncType R) → AreAllWanted Wanted type.params → (s : State R) → applied (items_map f items below) (func_map f type) (state_map f s) ≡ option_map (state_map f) (applied items type s)
  applied_is type all s =
      rw (all_taken_is type.params all s)
      (map_map (state_map f) (state_map f) (given type.results) _ (given_is f type.results) (all_taken items type.params s))

  pub converted_is : (from to : AbstractHeapType) → Wanted (Ref true (Abstract from)) → (x : Operand R) → converted (items_map f items below) from to (operand_map f x) ≡ option_map (operand_map f) (converted items from to x)
  converted_is from to wanted (Known I32) = refl
  converted_is from to wanted (Known I64) = refl
  converted_is from to wanted (Known F32) = refl
  converted_is from to wanted (Known F64) = refl
  converted_is from to wanted (Known V128) = refl
  converted_is from to wanted (Known (Ref nullable heap)) =
      rw (agree (Ref nullable heap) (Ref true (Abstract from)) wanted)
      (provided_map (operand_map f) (items.is_below (Ref nullable heap) (Ref true (Abstract from))) (Some (Known (Ref nullable (Abstract to)))))
  converted_is from to wanted Unknown = refl
  converted_is from to wanted UnknownRef = refl
