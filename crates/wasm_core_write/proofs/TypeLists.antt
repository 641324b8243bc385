-- Lists of types, and their encodings.
use Rattle.std.proofs.Common.{◌≡◌, ℕ, List, [], ◌∷◌, ◌++◌, length, map, refl, ap, arith, append_assoc, length-append}
use Rattle.std.proofs.lemmas.List.{append-nil, length-map}
use Rattle.std.specs.List.{flat_map}
use Rattle.wasm_spec.specs.Shortest.{unsigned_encoding, list_encoding}
use Rattle.wasm_spec.specs.TypeEncodings.{val_encoding, field_encoding, sub_encoding}
use Rattle.wasm_spec.proofs.UnsignedEncodings.{unsigned_last}
use Rattle.wasm_core_write.specs.CoreEncodings.{val_type_encoding, field_type_encoding, sub_type_encoding}
use Rattle.wasm_core_types.specs.CoreTypes.{val_type, field_type}
use Rattle.wasm_core_types.specs.SubTypes.{sub_type}
use Rattle.wasm_core_types.specs.declared.types.FieldType.{FieldType}
use Rattle.wasm_core_types.specs.declared.types.SubType.{SubType}
use Rattle.wasm_core_types.specs.declared.types.ValType.{ValType}

-- the encodings of views
mapped : {A B : Type 0} (bytes : B → List ℕ) (view : A → B) (xs : List A) → flat_map (λ x. bytes (view x)) xs ≡ flat_map bytes (map view xs)
mapped bytes view [] = refl
mapped bytes view (x ∷ xs) = ap (λ (l : List ℕ). bytes (view x) ++ l) (mapped bytes view xs)

pub list_mapped : {A B : Type 0} (bytes : B → List ℕ) (view : A → B) (xs : List A) → list_encoding (λ x. bytes (view x)) xs ≡ list_encoding bytes (map view xs)
unfolding list_encoding
list_mapped bytes view xs = rw (length-map xs view, mapped bytes view xs) refl

pub val_types : (types : List ValType) → list_encoding val_type_encoding types ≡ list_encoding val_encoding (map val_type types)
unfolding val_type_encoding
val_types types = list_mapped val_encoding val_type types

pub field_types : (fields : List FieldType) → list_encoding field_type_encoding fields ≡ list_encoding field_encoding (map field_type fields)
unfolding field_type_encoding
field_types fields = list_mapped field_encoding field_type fields

pub sub_types : (types : List SubType) → list_encoding sub_type_encoding types ≡ list_encoding sub_encoding (map sub_type types)
unfolding sub_type_encoding
sub_types types = list_mapped sub_encoding sub_type types

-- lists of one type index and of none
pub one_index : (index : ℕ) → list_encoding unsigned_encoding (index ∷ []) ≡ 0x01 ∷ unsigned_encoding index
unfolding list_encoding
one_index index = rw (unsigned_last 1 (omega arith), append-nil) refl

pub no_index : list_encoding unsigned_encoding [] ≡ 0x00 ∷ []
unfolding list_encoding
no_index = rw (unsigned_last 0 (omega arith)) refl

pub ruleset steps = (val_types, field_types, sub_types, one_index, no_index, append_assoc, length-append)
