-- Sizes of exported items whose types have no size of their own.
use Rattle.std.proofs.Common.{◌≡◌, ℕ, List, length, map, nat_lt, refl, ap, sym, ◌∙◌, arith, inl, inr}
use Rattle.std.specs.Int.{from_bool}
use Rattle.std.specs.List.{slice_get}
use Rattle.std.specs.Option.{option_map}
use Rattle.std.proofs.lemmas.Bool.{lt-ltb, le-ltb}
use Rattle.std.proofs.lemmas.Option.{slice_get-map}
use Rattle.wasm_spec.specs.Types.{SubType, ExternalType, TableExternal, MemoryExternal, GlobalExternal, TableKind, MemoryKind, GlobalKind}
use Rattle.wasm_spec.proofs.Places.{get_either}
use Rattle.wasm_smith_definitions.specs.Kinds.{count_of}
use Rattle.wasm_smith_validity.specs.Rules.{item_at}
use Rattle.wasm_smith_validity.specs.Spaces.{Spaces, globals_of}
use Rattle.wasm_smith_module.specs.Measures.{size_of, size_of_item}

plain_size : {A : Type 0} (types : List (SubType ℕ)) (f : A → ExternalType ℕ) → ((x : A) → size_of types (f x) ≡ 1) → (xs : List A) (index : ℕ)
    → size_of_item types (slice_get (map f xs) index) ≡ from_bool (nat_lt index (length xs))
plain_size types f one xs index = elim (get_either xs index) [
  | inl at ↦
      ap (size_of_item types) (slice_get-map f xs index ∙ ap (option_map f) at.1) ∙ (one at.0 ∙ sym (ap from_bool (lt-ltb index (length xs) at.2)))
  | inr at ↦
      ap (size_of_item types) (slice_get-map f xs index ∙ ap (option_map f) at.0)
      ∙ sym (ap from_bool (le-ltb index (length xs) (let e = at.1.1 in omega (arith, e))))
]

pub table_size : (k : Spaces) (index : ℕ) → size_of_item k.types (item_at k TableKind index) ≡ from_bool (nat_lt index (count_of k TableKind))
table_size k index = plain_size k.types (λ x. TableExternal x) (λ x. refl) k.tables index

pub memory_size : (k : Spaces) (index : ℕ) → size_of_item k.types (item_at k MemoryKind index) ≡ from_bool (nat_lt index (count_of k MemoryKind))
memory_size k index = plain_size k.types (λ x. MemoryExternal x) (λ x. refl) k.memories index

pub global_size : (k : Spaces) (index : ℕ) → size_of_item k.types (item_at k GlobalKind index) ≡ from_bool (nat_lt index (count_of k GlobalKind))
global_size k index = plain_size k.types (λ x. GlobalExternal x) (λ x. refl) (globals_of k) index
