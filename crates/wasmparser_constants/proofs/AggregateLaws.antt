-- What operators of structures and arrays do.
use Rattle.std.proofs.Common.{◌≡◌, ℕ, Bool, true, false, List, [], ◌∷◌, map, if◌then◌else◌, replicate, reverse, Option, Some, None, option_map, slice_get, refl}
use Rattle.std.specs.List.{list_all}
use Rattle.std.specs.Option.{unwrap_or}
use Rattle.wasm_spec.specs.Constants.{ArrayNewDefault, ArrayNewFixed, StructNew, StructNewDefault}
use Rattle.wasm_spec.specs.Features.{Features, Gc, has}
use Rattle.wasm_spec.specs.Trees.{DefType, no_type}
use Rattle.wasm_spec.specs.Types.{ValType, I32, I64, F32, F64, V128, Ref, Concrete}
use Rattle.wasm_validity.specs.ConstantTyping.{Puts, effect, element_at, fields_at, is_defaultable, meant, puts, reference_to_new}
use Rattle.wasm_validity.specs.Context.{Context}
use Rattle.wasmparser_constants.specs.Operands.{meant_type}
use Rattle.wasmparser_module_types.specs.ModuleTypes.{KnownTypes}
use Rattle.wasmparser_types.specs.Index.{Index}
use Rattle.wasmparser_types.specs.ValTypes as packed

-- the reference to what is made
pub made_as : (cx : Context) (index : ℕ) (type : ValType DefType) → Some type ≡ meant cx (Ref false (Concrete index)) → reference_to_new cx index ≡ type
made_as cx index type e = of_found (slice_get cx.types index) e
  where
    of_found : (found : Option DefType) → Some type ≡ option_map (λ defined. Ref false defined) (option_map (λ t. Concrete t) found) → Ref false (Concrete (unwrap_or found no_type)) ≡ type
    of_found None e = absurd cc
    of_found (Some t) e = cc

module _ (features : Features) (cx : Context) (index : ℕ) (gc : has features Gc ≡ true) (type : ValType DefType) (made : Some type ≡ meant cx (Ref false (Concrete index))) where
  pub structure_effect : (fields : List (ValType DefType)) → Some fields ≡ fields_at cx index → Some (Puts (reverse fields) type) ≡ effect features cx (StructNew index)
  structure_effect fields e = rw (gc, ← e, made_as cx index type made) refl

  pub default_effect : (fields : List (ValType DefType)) (b : Bool) → Some fields ≡ fields_at cx index → list_all is_defaultable fields ≡ b
      → (if b then Some (puts type) else None) ≡ effect features cx (StructNewDefault index)
  default_effect fields true e d = rw (gc, ← e, d, made_as cx index type made) refl
  default_effect fields false e d = rw (gc, ← e, d) refl

  pub default_array_effect : (item : ValType DefType) → Some item ≡ element_at cx index → is_defaultable item ≡ true → Some (Puts (I32 ∷ []) type) ≡ effect features cx (ArrayNewDefault index)
  default_array_effect item e d = rw (gc, ← e, d, made_as cx index type made) refl

  pub fixed_effect : (item : ValType DefType) (count : ℕ) → Some item ≡ element_at cx index → Some (Puts (replicate count item) type) ≡ effect features cx (ArrayNewFixed index count)
  fixed_effect item count e = rw (gc, ← e, made_as cx index type made) refl

-- a type by ids has a default where what it means has
pub default_meant : (known : KnownTypes) (type : ValType Index) → is_defaultable (meant_type known type) ≡ packed.is_defaultable type
default_meant known I32 = refl
default_meant known I64 = refl
default_meant known F32 = refl
default_meant known F64 = refl
default_meant known V128 = refl
default_meant known (Ref nullable heap) = refl

pub defaults_meant : (known : KnownTypes) (types : List (ValType Index)) → list_all is_defaultable (map (meant_type known) types) ≡ list_all packed.is_defaultable types
defaults_meant known [] = refl
defaults_meant known (type ∷ types) = rw (default_meant known type, defaults_meant known types) refl
