-- Choices of wanted types: every type, the types that refer to no defined type, and one or the other, by the features.
use Rattle.std.proofs.Common.{ℕ, Bool, true, false, ◌≡◌, nat_le, ◌&&◌, ◌||◌, List, [], ◌∷◌, ◌++◌, map, length, refl, sym, ◌∙◌}
use Rattle.std.proofs.lemmas.Bool.{and_parts}
use Rattle.std.proofs.lemmas.List.Concat.{flat_map-cons}
use Rattle.std.specs.List.{flat_map, list_all}
use Rattle.std.specs.Option.{IfSome}
use Rattle.wasm_bodies.specs.BodyContext.{ModuleItems, BodyContext, meant, written, unpacked}
use Rattle.wasm_bodies.specs.Effects.{Labels}
use Rattle.wasm_bodies.specs.OperatorRows.{NumberType, Int32, Int64, Float32, Float64, value_type}
use Rattle.wasm_bodies.specs.Operators.{BlockType, Empty, Value, Indexed}
use Rattle.wasm_bodies.specs.Signatures.{table_item}
use Rattle.wasm_bodies_laws.specs.Machine.{Frame}
use Rattle.wasm_bodies_laws.specs.References.{Agree, AgreeOn, AreAllWanted, TakesAndGives, AreWanted, AreWantedIn, AreLabelsWanted, IsBlockWanted, AreFramesWanted, Below, HasNoReferences, WantedBy, is_any, is_abstract, is_wanted_under}
use Rattle.wasm_bodies_laws.proofs.HeldOptions.{all_of, held_at, held_provided}
use Rattle.wasm_spec.specs.Features.{Features, has, FunctionReferences, Gc, StackSwitching, ReferenceTypes, MultiValue, needs_type_canonicalization}
use Rattle.wasm_spec.specs.Gates.{is_allowed, is_allowed_func}
use Rattle.wasm_spec.specs.TypeReferences.{val_refs, func_refs}
use Rattle.wasm_spec.specs.Types.{Abstract, Concrete, ValType, I32, I64, F32, F64, V128, Ref, FuncType}

-- ---- every type

module _ {R : Type 0} where
  pub any_function : (type : FuncType R) → TakesAndGives (WantedBy is_any) type
  any_function type = (all_of (WantedBy is_any) (λ t. refl) type.params, all_of (WantedBy is_any) (λ t. refl) type.results)

  pub any_wanted : (features : Features) (items : ModuleItems R) → AreWanted (WantedBy is_any) features items
  any_wanted features items = record {
    numbers = λ type. refl;
    abstract_references = λ heap. refl;
    written = λ type stands_for e. refl;
    functions = λ index type e. any_function type;
    globals = λ index type e mutable. refl;
    tables = λ index type e. refl;
    references = λ on index type e. refl;
    nullable = λ on nullable heap one. refl;
    fields = λ on index fields e. all_of (WantedBy is_any) (λ t. refl) (map unpacked fields);
    elements = λ on index field e. refl;
  }

  pub any_wanted_in : (cx : BodyContext R) → AreWantedIn (WantedBy is_any) cx
  any_wanted_in cx = record {
    items = any_wanted cx.features cx.items;
    locals = all_of (λ local. WantedBy is_any local.type) (λ local. refl) cx.locals;
    results = all_of (WantedBy is_any) (λ t. refl) cx.results;
  }

  pub any_labels : (labels : Labels R) → AreLabelsWanted (WantedBy is_any) labels
  any_labels labels = all_of (AreAllWanted (WantedBy is_any)) (all_of (WantedBy is_any) (λ t. refl)) labels

  any_block : (type : BlockType R) → IsBlockWanted (WantedBy is_any) type
  any_block Empty = tt
  any_block (Value type) = refl
  any_block (Indexed index) = tt

  pub any_frames : (frames : List (Frame R)) → AreFramesWanted (WantedBy is_any) frames
  any_frames frames = all_of (λ frame. IsBlockWanted (WantedBy is_any) frame.block_type) (λ frame. any_block frame.block_type) frames

module _ {R S : Type 0} (f : R → S) (items : ModuleItems R) (below : Below S) where
  pub any_agree : Agree f items below → AgreeOn (WantedBy is_any) f items below
  any_agree agree a b one = agree a b

  pub agree_any : AgreeOn (WantedBy is_any) f items below → Agree f items below
  agree_any agree a b = agree a b refl

-- ---- types without references

abstract_number : (R : Type 0) (type : NumberType) → WantedBy {R = R} is_abstract (value_type type)
abstract_number R Int32 = refl
abstract_number R Int64 = refl
abstract_number R Float32 = refl
abstract_number R Float64 = refl

nil_left : {A : Type 0} (xs ys : List A) → xs ++ ys ≡ [] → xs ≡ []
nil_left [] ys e = refl
nil_left (x ∷ xs) ys e = absurd cc

nil_right : {A : Type 0} (xs ys : List A) → xs ++ ys ≡ [] → ys ≡ []
nil_right [] ys e = e
nil_right (x ∷ xs) ys e = absurd cc

both_nil : {A : Type 0} (xs ys : List A) → xs ≡ [] → ys ≡ [] → xs ++ ys ≡ []
both_nil xs ys first second = rw (first, second)

module _ {R : Type 0} where
  pub abstract_without : (type : ValType R) → val_refs type ≡ [] → is_abstract type ≡ true
  abstract_without I32 e = refl
  abstract_without I64 e = refl
  abstract_without F32 e = refl
  abstract_without F64 e = refl
  abstract_without V128 e = refl
  abstract_without (Ref nullable (Abstract heap)) e = refl
  abstract_without (Ref nullable (Concrete r)) e = absurd cc

  pub without_abstract : (type : ValType R) → is_abstract type ≡ true → val_refs type ≡ []
  without_abstract I32 e = refl
  without_abstract I64 e = refl
  without_abstract F32 e = refl
  without_abstract F64 e = refl
  without_abstract V128 e = refl
  without_abstract (Ref nullable (Abstract heap)) e = refl
  without_abstract (Ref nullable (Concrete r)) e = absurd cc

  all_abstract : (types : List (ValType R)) → flat_map val_refs types ≡ [] → AreAllWanted (WantedBy is_abstract) types
  all_abstract [] e = tt
  all_abstract (type ∷ types) e =
      let parts : val_refs type ++ flat_map val_refs types ≡ [] = sym (flat_map-cons val_refs type types) ∙ e in
      (abstract_without type (nil_left (val_refs type) (flat_map val_refs types) parts), all_abstract types (nil_right (val_refs type) (flat_map val_refs types) parts))

  pub abstract_function : (type : FuncType R) → func_refs type ≡ [] → TakesAndGives (WantedBy is_abstract) type
  abstract_function type e = (
    all_abstract type.params (nil_left (flat_map val_refs type.params) (flat_map val_refs type.results) e),
    all_abstract type.results (nil_right (flat_map val_refs type.params) (flat_map val_refs type.results) e),
  )

-- ---- features that don't ask for types to be canonicalized

neither : (a b c : Bool) → (a || b || c) ≡ false → (a ≡ false) × (b ≡ false)
neither true b c e = absurd cc
neither false true c e = absurd cc
neither false false c e = (refl, refl)

module _ (features : Features) (plain : needs_type_canonicalization features ≡ false) where
  no_function_references : has features FunctionReferences ≡ true → ⊥
  no_function_references on =
      let off : has features FunctionReferences ≡ false = (neither (has features FunctionReferences) (has features Gc) (has features StackSwitching) plain).0 in absurd cc

  no_gc : has features Gc ≡ true → ⊥
  no_gc on =
      let off : has features Gc ≡ false = (neither (has features FunctionReferences) (has features Gc) (has features StackSwitching) plain).1 in absurd cc

  no_concrete : (has features Gc || has features FunctionReferences) ≡ true → ⊥
  no_concrete on =
      let off = neither (has features FunctionReferences) (has features Gc) (has features StackSwitching) plain in
      let none : (has features Gc || has features FunctionReferences) ≡ false = rw (off.0, off.1) in
      absurd cc

module _ {R : Type 0} (features : Features) (plain : needs_type_canonicalization features ≡ false) where
  pub allowed_abstract : (type : ValType R) → is_allowed features type ≡ true → is_abstract type ≡ true
  allowed_abstract I32 e = refl
  allowed_abstract I64 e = refl
  allowed_abstract F32 e = refl
  allowed_abstract F64 e = refl
  allowed_abstract V128 e = refl
  allowed_abstract (Ref nullable (Abstract heap)) e = refl
  allowed_abstract (Ref nullable (Concrete r)) e =
      absurd (no_concrete features plain (and_parts (has features ReferenceTypes) (has features Gc || has features FunctionReferences) e).1)

  all_allowed : (types : List (ValType R)) → list_all (is_allowed features) types ≡ true → flat_map val_refs types ≡ []
  all_allowed [] e = refl
  all_allowed (type ∷ types) e =
      let parts = and_parts (is_allowed features type) (list_all (is_allowed features) types) e in
      flat_map-cons val_refs type types
      ∙ both_nil (val_refs type) (flat_map val_refs types) (without_abstract type (allowed_abstract type parts.0)) (all_allowed types parts.1)

module _ {R : Type 0} (features : Features) (plain : needs_type_canonicalization features ≡ false) where
  pub allowed_without : (type : ValType R) → is_allowed features type ≡ true → val_refs type ≡ []
  allowed_without type e = without_abstract type (allowed_abstract features plain type e)

  pub allowed_function : (type : FuncType R) → is_allowed_func features type ≡ true → func_refs type ≡ []
  allowed_function type e =
      let parts : (list_all (is_allowed features) type.params ≡ true) × (list_all (is_allowed features) type.results ≡ true) = and_parts (list_all (is_allowed features) type.params) (list_all (is_allowed features) type.results)
      (and_parts (list_all (is_allowed features) type.params && list_all (is_allowed features) type.results) (nat_le (length type.results) 1 || has features MultiValue) e).0 in
      both_nil (flat_map val_refs type.params) (flat_map val_refs type.results) (all_allowed features plain type.params parts.0) (all_allowed features plain type.results parts.1)

  meant_abstract : (items : ModuleItems R) (type : ValType ℕ) → is_abstract type ≡ true → IfSome (meant items type) (WantedBy is_abstract)
  meant_abstract items I32 e = refl
  meant_abstract items I64 e = refl
  meant_abstract items F32 e = refl
  meant_abstract items F64 e = refl
  meant_abstract items V128 e = refl
  meant_abstract items (Ref nullable (Abstract heap)) e = refl
  meant_abstract items (Ref nullable (Concrete index)) e = absurd cc

  written_abstract : (items : ModuleItems R) (type : ValType ℕ) → IfSome (written features items type) (WantedBy is_abstract)
  written_abstract items type =
      held_provided (WantedBy is_abstract) (is_allowed features type) (meant items type) (λ allowed. meant_abstract items type (allowed_abstract features plain type allowed))

  -- what is wanted refers to no defined type, where the module's own types don't
  pub abstract_wanted : (items : ModuleItems R) → HasNoReferences items → AreWanted (WantedBy is_abstract) features items
  abstract_wanted items own = record {
    numbers = abstract_number R;
    abstract_references = λ heap. refl;
    written = λ type stands_for e. held_at (WantedBy is_abstract) (written features items type) stands_for (written_abstract items type) e;
    functions = λ index type e. abstract_function type (own.functions index type e);
    globals = λ index type e mutable. abstract_without type.value_type (own.globals index type e);
    tables = λ index type e. abstract_without (table_item type) (own.tables index type e);
    references = λ on index type e. absurd (no_function_references features plain on);
    nullable = λ on nullable heap one. absurd (no_function_references features plain on);
    fields = λ on index fields e. absurd (no_gc features plain on);
    elements = λ on index field e. absurd (no_gc features plain on);
  }

-- ---- whatever the features

module _ {R : Type 0} where
  -- by whether they ask for types to be canonicalized
  abbrev under : Bool → ValType R → Bool
  under canonical type = canonical || is_abstract type

  under_wanted : (features : Features) (items : ModuleItems R) (canonical : Bool) → needs_type_canonicalization features ≡ canonical → (canonical ≡ false → HasNoReferences items) → AreWanted (WantedBy (under canonical)) features items
  under_wanted features items true is own = any_wanted features items
  under_wanted features items false is own = abstract_wanted features is items (own refl)

  under_function : (type : FuncType R) (canonical : Bool) → (canonical ≡ false → func_refs type ≡ []) → TakesAndGives (WantedBy (under canonical)) type
  under_function type true own = any_function type
  under_function type false own = abstract_function type (own refl)

  pub wanted_under : (features : Features) (items : ModuleItems R) → (needs_type_canonicalization features ≡ false → HasNoReferences items) → AreWanted (WantedBy (is_wanted_under features)) features items
  wanted_under features items own = under_wanted features items (needs_type_canonicalization features) refl own

  pub function_under : (features : Features) (type : FuncType R) → (needs_type_canonicalization features ≡ false → func_refs type ≡ []) → TakesAndGives (WantedBy (is_wanted_under features)) type
  function_under features type own = under_function type (needs_type_canonicalization features) own

module _ {R S : Type 0} (f : R → S) (features : Features) (items : ModuleItems R) (below : Below S) where
  under_agree : (canonical : Bool) → (canonical ≡ true → Agree f items below) → (canonical ≡ false → AgreeOn (WantedBy is_abstract) f items below) → AgreeOn (WantedBy (under canonical)) f items below
  under_agree true all some a b one = all refl a b
  under_agree false all some a b one = some refl a b one

  pub agree_under : (needs_type_canonicalization features ≡ true → Agree f items below) → (needs_type_canonicalization features ≡ false → AgreeOn (WantedBy is_abstract) f items below) → AgreeOn (WantedBy (is_wanted_under features)) f items below
  agree_under all some = under_agree (needs_type_canonicalization features) all some
