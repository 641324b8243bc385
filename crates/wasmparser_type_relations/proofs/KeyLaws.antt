-- Groups with the same key are the same. Each form is uncut: what follows a key tells nothing of it, so that keys one after the other come apart.
use Rattle.std.specs.Prelude.{◌≡◌, ℕ, ◌+◌, ◌*◌, ◌/◌, ◌%◌, ◌-◌, ◌<◌, ◌==◌, Bool, true, false, List, [], ◌∷◌, ◌++◌, if◌then◌else◌, refl}
use Rattle.std.specs.List.{flat_map}
use Rattle.std.proofs.Common.{arith, ap, sym, ◌∙◌, append_assoc}
use Rattle.std.proofs.lemmas.Bool.Decides.{nat_tests}
use Rattle.wasm_spec.specs.Types.{ValType, I32, I64, F32, F64, V128, Ref, RefType, StorageType, I8, I16, Val, FieldType, FuncType, FuncComposite, StructComposite, ArrayComposite, ContComposite, SubType}
use Rattle.wasmparser_type_relations.specs.GroupKeys.{val_number, storage_number, field_number, index_number, numbers, composite_key, sub_key, group_key, TellsApart}
use Rattle.wasmparser_types.specs.Index.{Index, packed, unpacked, unpacked-packed}
use Rattle.wasmparser_types.specs.RefBits.{ref_bits, ref_type_at, ref_type_at-bits}

-- Numbers: each has its item back.

-- what a number stands for
abbrev val_at : ℕ → ValType Index
val_at n = if n == 1 then I32 else (if n == 2 then I64 else (if n == 3 then F32 else (if n == 4 then F64 else (if n == 5 then V128 else Ref (ref_type_at (n - 6)).nullable (ref_type_at (n - 6)).heap_type))))

above : (bits : ℕ) → val_at (6 + bits) ≡ Ref (ref_type_at bits).nullable (ref_type_at bits).heap_type
above bits =
    let low : 6 + bits - 6 ≡ bits = omega arith in
    grind (arith, nat_tests, low)

val_back : (type : ValType Index) → val_at (val_number type) ≡ type
val_back I32 = refl
val_back I64 = refl
val_back F32 = refl
val_back F64 = refl
val_back V128 = refl
val_back (Ref nullable heap) =
    let type : RefType Index = record { nullable = nullable; heap_type = heap } in
    above (ref_bits type) ∙ ap (λ (t : RefType Index). Ref t.nullable t.heap_type) (ref_type_at-bits type)

val_above : (type : ValType Index) → 0 < val_number type
val_above I32 = omega arith
val_above I64 = omega arith
val_above F32 = omega arith
val_above F64 = omega arith
val_above V128 = omega arith
val_above (Ref nullable heap) = omega arith

abbrev storage_at : ℕ → StorageType Index
storage_at n = if n == 1 then I8 else (if n == 2 then I16 else Val (val_at (n - 2)))

storage_back : (type : StorageType Index) → storage_at (storage_number type) ≡ type
storage_back I8 = refl
storage_back I16 = refl
storage_back (Val type) =
    let above_it : 0 < val_number type = val_above type in
    let low : 2 + val_number type - 2 ≡ val_number type = omega arith in
    let past : (storage_at (2 + val_number type) ≡ Val (val_at (2 + val_number type - 2))) = grind (arith, nat_tests, above_it) in
    past ∙ (rw low (ap Val (val_back type)))

storage_above : (type : StorageType Index) → 0 < storage_number type
storage_above I8 = omega arith
storage_above I16 = omega arith
storage_above (Val type) = omega arith

abbrev field_at : ℕ → FieldType Index
field_at n = record { element_type = storage_at (n / 2); mutable = n % 2 == 1 }

field_bits : (mutable : Bool) (n : ℕ) → field_at (2 * n + (if mutable then 1 else 0)) ≡ record { element_type = storage_at n; mutable = mutable }
field_bits true n =
    let half : (2 * n + 1) / 2 ≡ n = omega arith in
    let odd : (2 * n + 1) % 2 ≡ 1 = omega arith in
    rw (half, odd) refl
field_bits false n =
    let half : (2 * n + 0) / 2 ≡ n = omega arith in
    let even : (2 * n + 0) % 2 ≡ 0 = omega arith in
    rw (half, even) refl

field_back : (field : FieldType Index) → field_at (field_number field) ≡ field
field_back field = field_bits field.mutable (storage_number field.element_type) ∙ ap (λ type. record { element_type = type; mutable = field.mutable }) (storage_back field.element_type)

field_above : (field : FieldType Index) → 0 < field_number field
field_above field = omega (arith, storage_above field.element_type)

abbrev index_at : ℕ → Index
index_at n = unpacked (n - 1)

index_back : (index : Index) → index_at (index_number index) ≡ index
index_back index =
    let low : 1 + packed index - 1 ≡ packed index = omega arith in
    rw low (unpacked-packed index)

index_above : (index : Index) → 0 < index_number index
index_above index = omega arith

-- Lists of numbers: equal heads and equal rests are one equation.

head : (x y : ℕ) (r s : List ℕ) → x ∷ r ≡ y ∷ s → x ≡ y
head x y r s e = cc

rest : (x y : ℕ) (r s : List ℕ) → x ∷ r ≡ y ∷ s → r ≡ s
rest x y r s e = cc

same_item : {X : Type 0} (number : X → ℕ) (at : ℕ → X) → ((x : X) → at (number x) ≡ x) → (x y : X) → number x ≡ number y → x ≡ y
same_item number at back x y e = sym (back x) ∙ (ap at e ∙ back y)

-- lists of what has a number above 0
numbers_uncut : {X : Type 0} (number : X → ℕ) (at : ℕ → X) → ((x : X) → at (number x) ≡ x) → ((x : X) → 0 < number x)
    → (xs ys : List X) (r s : List ℕ) → numbers number xs ++ r ≡ numbers number ys ++ s → (xs ≡ ys) × (r ≡ s)
numbers_uncut number at back above [] [] r s e = (refl, rest 0 0 r s e)
numbers_uncut number at back above [] (y ∷ ys) r s e = absurd (omega (arith, above y, head 0 (number y) r (numbers number ys ++ s) e))
numbers_uncut number at back above (x ∷ xs) [] r s e = absurd (omega (arith, above x, head (number x) 0 (numbers number xs ++ r) s e))
numbers_uncut number at back above (x ∷ xs) (y ∷ ys) r s e =
    let item : x ≡ y = same_item number at back x y (head (number x) (number y) (numbers number xs ++ r) (numbers number ys ++ s) e) in
    let others : (xs ≡ ys) × (r ≡ s) = numbers_uncut number at back above xs ys r s (rest (number x) (number y) (numbers number xs ++ r) (numbers number ys ++ s) e) in
    (cc (item, others.0), others.1)

-- what follows a key tells nothing of it
IsUncut : {X : Type 0} → (X → List ℕ) → Type 0
IsUncut key = (x y : _) (r s : List ℕ) → key x ++ r ≡ key y ++ s → (x ≡ y) × (r ≡ s)

-- two forms, one after the other
pair_uncut : {X Y : Type 0} (first : X → List ℕ) (second : Y → List ℕ) → IsUncut first → IsUncut second
    → (x a : X) (y b : Y) (r s : List ℕ) → (first x ++ second y) ++ r ≡ (first a ++ second b) ++ s → (x ≡ a) × (y ≡ b) × (r ≡ s)
unfolding IsUncut
pair_uncut first second one other x a y b r s e =
    let parts : (x ≡ a) × (second y ++ r ≡ second b ++ s) = one x a (second y ++ r) (second b ++ s) (sym (append_assoc (first x) (second y) r) ∙ (e ∙ append_assoc (first a) (second b) s)) in
    let after : (y ≡ b) × (r ≡ s) = other y b r s parts.1 in
    (parts.0, after.0, after.1)

vals_uncut : IsUncut (numbers val_number)
unfolding IsUncut
vals_uncut = numbers_uncut val_number val_at val_back val_above

fields_uncut : IsUncut (numbers field_number)
unfolding IsUncut
fields_uncut = numbers_uncut field_number field_at field_back field_above

indexes_uncut : IsUncut (numbers index_number)
unfolding IsUncut
indexes_uncut = numbers_uncut index_number index_at index_back index_above

same_func : (a b : FuncType Index) → a.params ≡ b.params → a.results ≡ b.results → a ≡ b
same_func a b params results =
    let first : a ≡ record { params = b.params; results = a.results } = ap (λ types. record { params = types; results = a.results }) params in
    first ∙ ap (λ types. record { params = b.params; results = types }) results

composite_uncut : IsUncut composite_key
unfolding IsUncut
composite_uncut (FuncComposite a) (FuncComposite b) r s e =
    let parts : (a.params ≡ b.params) × (a.results ≡ b.results) × (r ≡ s) = pair_uncut (numbers val_number) (numbers val_number) vals_uncut vals_uncut a.params b.params a.results b.results r s (rest 1 1 _ _ e) in
    (ap FuncComposite (same_func a b parts.0 parts.1), parts.2)
composite_uncut (StructComposite xs) (StructComposite ys) r s e =
    let parts : (xs ≡ ys) × (r ≡ s) = fields_uncut xs ys r s (rest 2 2 _ _ e) in
    (ap StructComposite parts.0, parts.1)
composite_uncut (ArrayComposite a) (ArrayComposite b) r s e =
    let tail : field_number a ∷ r ≡ field_number b ∷ s = rest 3 3 _ _ e in
    (ap ArrayComposite (same_item field_number field_at field_back a b (head _ _ r s tail)), rest _ _ r s tail)
composite_uncut (ContComposite a) (ContComposite b) r s e =
    let tail : index_number a ∷ r ≡ index_number b ∷ s = rest 4 4 _ _ e in
    (ap ContComposite (same_item index_number index_at index_back a b (head _ _ r s tail)), rest _ _ r s tail)
composite_uncut _ _ r s e = absurd (cc e)

abbrev flag : Bool → ℕ
flag is_final = if is_final then 2 else 1

same_flag : (a b : Bool) → flag a ≡ flag b → a ≡ b
same_flag true true e = refl
same_flag true false e = absurd (omega (arith, e))
same_flag false true e = absurd (omega (arith, e))
same_flag false false e = refl

same_sub : (a b : SubType Index) → a.is_final ≡ b.is_final → a.supertypes ≡ b.supertypes → a.composite_type ≡ b.composite_type → a ≡ b
same_sub a b is_final supertypes composite =
    let first : a ≡ record a { is_final = b.is_final } = ap (λ it. record a { is_final = it }) is_final in
    let second : record a { is_final = b.is_final } ≡ record b { composite_type = a.composite_type } = ap (λ it. record { is_final = b.is_final; supertypes = it; composite_type = a.composite_type }) supertypes in
    first ∙ (second ∙ ap (λ it. record b { composite_type = it }) composite)

sub_uncut : IsUncut sub_key
unfolding IsUncut
sub_uncut a b r s e =
    let parts : (a.supertypes ≡ b.supertypes) × (a.composite_type ≡ b.composite_type) × (r ≡ s) =
    pair_uncut (numbers index_number) composite_key indexes_uncut composite_uncut a.supertypes b.supertypes a.composite_type b.composite_type r s (rest _ _ _ _ e) in
    let flags : a.is_final ≡ b.is_final = same_flag a.is_final b.is_final (head _ _ _ _ e) in
    (same_sub a b flags parts.0 parts.1, parts.2)

-- no sub type begins with what ends the list
flag_above : (a : Bool) → 0 < flag a
flag_above true = omega arith
flag_above false = omega arith

no_end : (x : SubType Index) (r s : List ℕ) → sub_key x ++ r ≡ 0 ∷ s → ⊥
no_end x r s e = omega (arith, flag_above x.is_final, head _ _ _ _ e)

lists_uncut : {X : Type 0} (key : X → List ℕ) → IsUncut key → ((x : X) (r s : List ℕ) → key x ++ r ≡ 0 ∷ s → ⊥)
    → (xs ys : List X) (r s : List ℕ) → flat_map key xs ++ 0 ∷ r ≡ flat_map key ys ++ 0 ∷ s → (xs ≡ ys) × (r ≡ s)
unfolding IsUncut
lists_uncut key uncut goes_on [] [] r s e = (refl, rest 0 0 r s e)
lists_uncut key uncut goes_on [] (y ∷ ys) r s e = absurd (goes_on y (flat_map key ys ++ 0 ∷ s) r (sym (e ∙ append_assoc (key y) (flat_map key ys) (0 ∷ s))))
lists_uncut key uncut goes_on (x ∷ xs) [] r s e = absurd (goes_on x (flat_map key xs ++ 0 ∷ r) s (sym (append_assoc (key x) (flat_map key xs) (0 ∷ r)) ∙ e))
lists_uncut key uncut goes_on (x ∷ xs) (y ∷ ys) r s e =
    let parts : (x ≡ y) × (flat_map key xs ++ 0 ∷ r ≡ flat_map key ys ++ 0 ∷ s) =
    uncut x y (flat_map key xs ++ 0 ∷ r) (flat_map key ys ++ 0 ∷ s) (sym (append_assoc (key x) (flat_map key xs) (0 ∷ r)) ∙ (e ∙ append_assoc (key y) (flat_map key ys) (0 ∷ s))) in
    let others : (xs ≡ ys) × (r ≡ s) = lists_uncut key uncut goes_on xs ys r s parts.1 in
    (cc (parts.0, others.0), others.1)

pub groups_apart : TellsApart group_key
groups_apart xs ys e = (lists_uncut sub_key sub_uncut no_end xs ys [] [] e).0
