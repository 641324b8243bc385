-- The indexes in the types of imports that keep their rules: small, where the number of types passes no limit.
use Rattle.std.proofs.Common.{◌≡◌, ℕ, ◌<◌, ◌≤◌, true, List, [], ◌∷◌, length, nat_lt, refl, arith}
use Rattle.std.specs.List.{list_all}
use Rattle.std.proofs.lemmas.Bool.{and_parts, lt-ltb}
use Rattle.wasm_spec.specs.Features.{Features}
use Rattle.wasm_spec.specs.Limits.{Types, most, total_of_types}
use Rattle.wasm_spec.specs.Syntax.{ImportEntry, Import, CompactItems, CompactNames, imported_by}
use Rattle.wasm_spec.specs.TypeReferences.{val_refs}
use Rattle.wasm_spec.specs.Types.{Abstract, Concrete, ValType, I32, I64, F32, F64, V128, Ref, SubType, ExternalType, FuncExternal, TableExternal, MemoryExternal, GlobalExternal, TagExternal}
use Rattle.wasm_validity.specs.Rules.{has_small_index, may_cross, shares_small_index, value_of}
use Rattle.wasm_smith_validity.specs.Rules.{keeps_item, keep_items}
use Rattle.wasm_smith_validity.specs.Spaces.{Spaces, is_value, with_item}
use Rattle.wasm_smith_validity.proofs.MeantItems.{element_named}
use Rattle.wasm_smith_validity.proofs.MeantTypes.{below_of, is_named_value, named_of}

value_small : (types : List (SubType ℕ)) (type : ValType ℕ) → length types ≤ most Types → is_named_value types type ≡ true
    → list_all (λ index. nat_lt index total_of_types) (val_refs type) ≡ true
value_small types I32 few named = refl
value_small types I64 few named = refl
value_small types F32 few named = refl
value_small types F64 few named = refl
value_small types V128 few named = refl
value_small types (Ref nullable (Abstract heap)) few named = refl
value_small types (Ref nullable (Concrete index)) few named =
    let below = below_of index (length types) named in rw (lt-ltb index total_of_types (omega (arith, below, few))) refl

item_small : (features : Features) (k : Spaces) (item : ExternalType ℕ) → length k.types ≤ most Types → keeps_item features k item ≡ true → has_small_index item ≡ true
item_small features k (FuncExternal function) few h = refl
item_small features k (TableExternal type) few h = value_small k.types (value_of type.element_type) few (element_named features k type h)
item_small features k (MemoryExternal type) few h = refl
item_small features k (GlobalExternal type) few h =
    value_small k.types type.value_type few (named_of features k.types type.value_type (and_parts (is_value features k.types type.value_type) (may_cross features type) h).0)
item_small features k (TagExternal function) few h = refl

-- where there is no import, nothing is known of a type that imports share
pub entry_small : (features : Features) (k : Spaces) (entry : ImportEntry) → length k.types ≤ most Types → 0 < length (imported_by entry)
    → keep_items features k (imported_by entry) ≡ true → shares_small_index entry ≡ true
entry_small features k (Import origin name type) few some h = refl
entry_small features k (CompactItems origin items) few some h = refl
entry_small features k (CompactNames origin type []) few some h = absurd (omega (arith, some))
entry_small features k (CompactNames origin type (name ∷ names)) few some h =
    item_small features k type few (and_parts (keeps_item features k type) (keep_items features (with_item k type) (imported_by (CompactNames origin type names))) h).0
