-- A test that tells which types of a module are below which.
use Rattle.std.proofs.Common.{◌≡◌, ℕ, ◌<◌, Bool, true, false, ◌&&◌, List, length, Option, Some, None, refl, ap, sym, ◌∙◌, subst, arith, slice_get}
use Rattle.std.proofs.lemmas.Bool.{and_parts}
use Rattle.std.proofs.lemmas.Option.{slice_get_within}
use Rattle.std.specs.Option.{option_map, unwrap_or}
use Rattle.std.specs.Prelude.{⊤, IsTrue, ◌↔◌}
use Rattle.wasm_spec.proofs.Closures.{complete, sound}
use Rattle.wasm_spec.proofs.GroupTrees.{Stand}
use Rattle.wasm_spec.proofs.SectionRules.{section_rules}
use Rattle.wasm_spec.specs.Features.{Features}
use Rattle.wasm_spec.specs.Groups.{IsWellFormedAt}
use Rattle.wasm_spec.specs.Subtyping.{Closure, Defined, HeapTest, Link, ValBelow, abstract_of, bottom_of, is_abstract_below}
use Rattle.wasm_spec.specs.Trees.{DefType, no_type, type_at, unrolled}
use Rattle.wasm_spec.specs.Types.{HeapType, Abstract, Concrete, ValType, I32, I64, F32, F64, V128, Ref, CompositeType, SubType}
use Rattle.wasm_validity.specs.ModuleBodies.{Below, TellsBelow}
use Rattle.wasm_validity_laws.proofs.Reaching.{reach_complete, reach_sound, reaches}
use Rattle.wasm_validity_laws.proofs.SameTypes.{is_one, one_is, one_itself}
use Rattle.wasm_validity_laws.proofs.WrittenTypes.{group_rules, known_types, stands}
use Rattle.wasm_validity_laws.specs.ShapeCodes.{abstract_code}
use Rattle.wasm_validity_laws.specs.Written.{groups_in, written_in}
use Rattle.wasm_validity.specs.ConstantTyping.{meant}
use Rattle.wasm_validity.specs.Context.{Context, after_all, at_first}
use Rattle.wasm_validity.specs.Entries.{Entry}
use Rattle.wasm_validity.specs.Rules.{IsBelow, KeepRules}
use Rattle.wasm_validity.specs.TypeRules.{implies}

-- ---- the test

abbrev has_composite : (CompositeType DefType → Bool) → Option (SubType DefType) → Bool
has_composite test None = false
has_composite test (Some type) = test type.composite_type

-- up so many links at most
abbrev is_heap_below : ℕ → HeapType DefType → HeapType DefType → Bool
is_heap_below n (Abstract a) (Abstract b) = is_abstract_below a b
is_heap_below n (Abstract a) (Concrete type) = has_composite (λ c. is_one abstract_code (bottom_of c) a) (unrolled type)
is_heap_below n (Concrete type) (Abstract b) = has_composite (λ c. is_abstract_below (abstract_of c) b) (unrolled type)
is_heap_below n (Concrete type) (Concrete other) = reaches n other type

abbrev is_val_below : ℕ → ValType DefType → ValType DefType → Bool
is_val_below n I32 I32 = true
is_val_below n I64 I64 = true
is_val_below n F32 F32 = true
is_val_below n F64 F64 = true
is_val_below n V128 V128 = true
is_val_below n (Ref nullable a) (Ref others b) = implies nullable others && is_heap_below n a b
is_val_below n _ _ = false

abbrev are_both_below : ℕ → Option (ValType DefType) → Option (ValType DefType) → Bool
are_both_below n (Some a) (Some b) = is_val_below n a b
are_both_below n _ _ = false

abbrev below_in : Context → Below
below_in cx a b = are_both_below (length cx.types) (meant cx a) (meant cx b)

-- ---- what a type is defined as

module _ (type : DefType) (Holds : CompositeType DefType → Type 0) (test : CompositeType DefType → Bool) where
  defined_sound : ((c : CompositeType DefType) → test c ≡ true → Holds c) → has_composite test (unrolled type) ≡ true → Defined unrolled type Holds
  defined_sound each e = by (unrolled type) refl
    where
      by : (found : Option (SubType DefType)) → unrolled type ≡ found → Defined unrolled type Holds
      by None is = let none : false ≡ true = ap (has_composite test) (sym is) ∙ e in absurd cc
      by (Some sub) is = record { type = sub; is = is; holds = each sub.composite_type (ap (has_composite test) (sym is) ∙ e) }

  defined_complete : ((c : CompositeType DefType) → Holds c → test c ≡ true) → Defined unrolled type Holds → has_composite test (unrolled type) ≡ true
  defined_complete each defined = ap (has_composite test) defined.is ∙ each defined.type.composite_type defined.holds

-- ---- types of a module

abbrev IsOf : List DefType → HeapType DefType → Type 0
IsOf types (Abstract heap) = ⊤
IsOf types (Concrete type) = (index : ℕ) × (index < length types) × (type_at types index ≡ type)

abbrev IsValueOf : List DefType → ValType DefType → Type 0
IsValueOf types (Ref nullable heap) = IsOf types heap
IsValueOf types type = ⊤

both_true : (a b : Bool) → a ≡ true → b ≡ true → (a && b) ≡ true
both_true true b first second = second
both_true false b first second = absurd cc

implied : (a b : Bool) → implies a b ≡ true → a ≡ true → b ≡ true
implied true b e is = e
implied false b e is = absurd cc

implying : (a b : Bool) → (a ≡ true → b ≡ true) → implies a b ≡ true
implying true b then = then refl
implying false b then = refl

module _ (types : List DefType) (written : List (SubType ℕ)) (stands : Stand written types) (rules : (index : ℕ) (type : SubType ℕ) → slice_get written index ≡ Some type → IsWellFormedAt types index type) where
  heap_sound : (a b : HeapType DefType) → IsOf types a → is_heap_below (length types) a b ≡ true → HeapTest unrolled a b
  heap_sound (Abstract a) (Abstract b) of e = e
  heap_sound (Abstract a) (Concrete type) of e =
      defined_sound type (λ c. bottom_of c ≡ a) (λ c. is_one abstract_code (bottom_of c) a) (λ c is. one_is abstract_code (bottom_of c) a is) e
  heap_sound (Concrete type) (Abstract b) of e = defined_sound type (λ c. is_abstract_below (abstract_of c) b ≡ true) (λ c. is_abstract_below (abstract_of c) b) (λ c is. is) e
  heap_sound (Concrete type) (Concrete other) of e =
      subst (λ (t : DefType). Closure (Link unrolled) t other) of.2
      (reach_sound types written stands rules (length types) other of.0 of.1 (ap (reaches (length types) other) of.2 ∙ e))

  heap_complete : (a b : HeapType DefType) → IsOf types a → HeapTest unrolled a b → is_heap_below (length types) a b ≡ true
  heap_complete (Abstract a) (Abstract b) of e = e
  heap_complete (Abstract a) (Concrete type) of e =
      defined_complete type (λ c. bottom_of c ≡ a) (λ c. is_one abstract_code (bottom_of c) a) (λ c is. ap (is_one abstract_code (bottom_of c)) (sym is) ∙ one_itself abstract_code (bottom_of c)) e
  heap_complete (Concrete type) (Abstract b) of e = defined_complete type (λ c. is_abstract_below (abstract_of c) b ≡ true) (λ c. is_abstract_below (abstract_of c) b) (λ c is. is) e
  heap_complete (Concrete type) (Concrete other) of e = reach_complete types written stands rules e (length types) of.0 (omega (arith, of.1)) of.1 of.2

  ref_sound : (nullable others : Bool) (a b : HeapType DefType) → IsOf types a → (implies nullable others && is_heap_below (length types) a b) ≡ true → ValBelow unrolled (Ref nullable a) (Ref others b)
  ref_sound nullable others a b of e =
      let parts = and_parts (implies nullable others) (is_heap_below (length types) a b) e in
      record { null = implied nullable others parts.0; heap = sound unrolled a b (heap_sound a b of parts.1) }

  ref_complete : (nullable others : Bool) (a b : HeapType DefType) → IsOf types a → ValBelow unrolled (Ref nullable a) (Ref others b) → (implies nullable others && is_heap_below (length types) a b) ≡ true
  ref_complete nullable others a b of below =
      both_true (implies nullable others) (is_heap_below (length types) a b) (implying nullable others below.null) (heap_complete a b of (complete unrolled {a = a} {b = b} below.heap))

  val_sound : (a b : ValType DefType) → IsValueOf types a → is_val_below (length types) a b ≡ true → ValBelow unrolled a b
  val_sound I32 I32 of e = tt
  val_sound I64 I64 of e = tt
  val_sound F32 F32 of e = tt
  val_sound F64 F64 of e = tt
  val_sound V128 V128 of e = tt
  val_sound (Ref nullable a) (Ref others b) of e = ref_sound nullable others a b of e
  val_sound _ _ of e = absurd cc

  val_complete : (a b : ValType DefType) → IsValueOf types a → ValBelow unrolled a b → is_val_below (length types) a b ≡ true
  val_complete I32 I32 of below = refl
  val_complete I64 I64 of below = refl
  val_complete F32 F32 of below = refl
  val_complete F64 F64 of below = refl
  val_complete V128 V128 of below = refl
  val_complete (Ref nullable a) (Ref others b) of below = ref_complete nullable others a b of below
  val_complete _ _ of below = absurd below

-- ---- what is written

module _ (cx : Context) where
  same_value : (a b : ValType DefType) → Some a ≡ Some b → IsValueOf cx.types a → IsValueOf cx.types b
  same_value a b e of = let is : a ≡ b = cc in subst (IsValueOf cx.types) is of

  concrete_of : (nullable : Bool) (index : ℕ) (value : ValType DefType) → meant cx (Ref nullable (Concrete index)) ≡ Some value → IsValueOf cx.types value
  concrete_of nullable index value e = by (slice_get cx.types index) refl
    where
      by : (found : Option DefType) → slice_get cx.types index ≡ found → IsValueOf cx.types value
      by None is =
          let none : None ≡ Some value = ap (λ o. option_map (λ heap. Ref nullable heap) (option_map (λ type. Concrete type) o)) (sym is) ∙ e in absurd cc
      by (Some type) is =
          let here : Some (Ref nullable (Concrete type)) ≡ Some value = ap (λ o. option_map (λ heap. Ref nullable heap) (option_map (λ type. Concrete type) o)) (sym is) ∙ e in
          same_value (Ref nullable (Concrete type)) value here (index, slice_get_within cx.types index type is, ap (λ o. unwrap_or o no_type) is)

  meant_of : (type : ValType ℕ) (value : ValType DefType) → meant cx type ≡ Some value → IsValueOf cx.types value
  meant_of I32 value e = same_value I32 value e tt
  meant_of I64 value e = same_value I64 value e tt
  meant_of F32 value e = same_value F32 value e tt
  meant_of F64 value e = same_value F64 value e tt
  meant_of V128 value e = same_value V128 value e tt
  meant_of (Ref nullable (Abstract heap)) value e = same_value (Ref nullable (Abstract heap)) value e tt
  meant_of (Ref nullable (Concrete index)) value e = concrete_of nullable index value e

-- ---- entries that keep the rules

module _ (features : Features) (entries : List Entry) (keep : KeepRules features at_first entries) where
  abbrev cx : Context
  cx = after_all at_first entries

  well_formed : (index : ℕ) (type : SubType ℕ) → slice_get (written_in entries) index ≡ Some type → IsWellFormedAt cx.types index type
  well_formed index type at =
      subst (λ (types : List DefType). IsWellFormedAt types index type) (sym (known_types entries)) (section_rules features (groups_in entries) (group_rules features entries keep) index type at)

  tells : TellsBelow cx (below_in cx)
  tells a b = by (meant cx a) (meant cx b) refl refl
    where
      by : (x y : Option (ValType DefType)) → meant cx a ≡ x → meant cx b ≡ y → IsTrue (below_in cx a b) ↔ IsBelow cx a b
      by None y is others = (
        λ e. let none : false ≡ true = ap (λ o. are_both_below (length cx.types) o (meant cx b)) (sym is) ∙ e in absurd cc,
        λ below. absurd (rw is at below),
      )
      by (Some c) None is others = (
        λ e. let none : false ≡ true = ap (λ o. are_both_below (length cx.types) (Some c) o) (sym others) ∙ ap (λ o. are_both_below (length cx.types) o (meant cx b)) (sym is) ∙ e in absurd cc,
        λ below. absurd (rw (is, others) at below),
      )
      by (Some c) (Some d) is others =
          let test : below_in cx a b ≡ is_val_below (length cx.types) c d = ap (λ o. are_both_below (length cx.types) o (meant cx b)) is ∙ ap (λ o. are_both_below (length cx.types) (Some c) o) others in (
            λ e. rw (is, others) (val_sound cx.types (written_in entries) (stands features entries keep) well_formed c d (meant_of cx a c is) (sym test ∙ e)),
            λ below. test ∙ val_complete cx.types (written_in entries) (stands features entries keep) well_formed c d (meant_of cx a c is) (rw (is, others) at below),
          )

  pub a_test : (is_below : Below) × TellsBelow cx is_below
  a_test = (below_in cx, tells)
