-- Types that a validator knows by ids, with references of a view.
use Rattle.std.specs.Prelude.{◌≡◌, ◌+◌, ◌-◌, ◌<◌, ◌≤◌, ◌&&◌, ℕ, List, [], ◌∷◌, leb, length, map, nat_eq, nat_lt, slice_get, Option, Some, None, false, if◌then◌else◌}
use Rattle.std.specs.List.{range_with_len}
use Rattle.std.specs.Map.{lookup}
use Rattle.std.specs.Option.{unwrap_or}
use Rattle.wasm_spec.specs.Trees.{DefType, opened, places_of, type_at}
use Rattle.wasm_spec.specs.TypeReferences.{sub_map}
use Rattle.wasm_spec.specs.Types as spec
use Rattle.wasmparser_module_types.specs.ModuleTypes.{KnownTypes}
use Rattle.wasmparser_types.specs.Index.{Index, number_of}
use Rattle.wasmparser_validator.specs.Shown.{known}
use Rattle.wasm_gen_view.specs.declared.known_references.KnownReferences.{KnownReferences}
use Rattle.wasm_gen_view.specs.declared.types.TypePlace.{TypePlace}
use Rattle.wasm_gen_view.specs.declared.types.TypeReference.{TypeReference}
use Rattle.wasm_gen_view.specs.declared.types.TypeReference.TheVariants.{Own, Other}

-- ---- groups of ids

-- The ids of a whole group with this id among them: as many as `count`, from `first` on.
pub record AreIdsOfGroup (interned : List DefType) (id first count : ℕ) : Type 0 where
  pub place : first + (type_at interned id).place ≡ id
  pub within : (type_at interned id).place < count
  pub whole : map (type_at interned) (range_with_len first count) ≡ places_of (type_at interned id).tree 0 (opened (type_at interned id).tree)
  pub known : first + count ≤ length interned

-- the number of the group with this first id, if it has one
abbrev pub number_in : List (ℕ × ℕ) → ℕ → Option ℕ
number_in numbers first = lookup (nat_eq first) numbers

-- ---- references

-- a type at a place of a group with this number; of one without a number, which no type refers to, nothing is known but the place
abbrev pub numbered_at : Option ℕ → ℕ → TypeReference
numbered_at (Some number) place = Other (record { group = number; place = place })
numbered_at None place = Own place

-- the type with an id, as types of the group with the ids `count` from `first` on refer to it
abbrev pub id_reference : List DefType → List (ℕ × ℕ) → ℕ → ℕ → ℕ → TypeReference
id_reference interned numbers first count id =
    if leb first id && nat_lt (id - first) count then Own (id - first) else numbered_at (number_in numbers (id - (type_at interned id).place)) (type_at interned id).place

abbrev pub refer : KnownReferences → Index → TypeReference
refer it index = id_reference (known it.types.now).interned it.numbers.now it.group.now.first it.group.now.count (number_of index)

-- ---- types

-- the first of some items alone
abbrev pub first_alone : {A : Type 0} → List A → List A
first_alone [] = []
first_alone (x ∷ xs) = x ∷ []

-- a type with the first of its supertypes alone; a valid type has no others
abbrev pub with_first_supertype : {R : Type 0} → spec.SubType R → spec.SubType R
with_first_supertype type = record type { supertypes = first_alone type.supertypes }

-- (each id that is known has a sub type, so this one stands for none)
abbrev pub no_sub_type : spec.SubType Index
no_sub_type = record { is_final = false; supertypes = []; composite_type = spec.StructComposite [] }

-- the sub type that an id stands for, which names others by ids
abbrev pub sub_type_at : KnownTypes → ℕ → spec.SubType Index
sub_type_at types id = unwrap_or (slice_get types.sub_types id) no_sub_type

-- it, as types of the group with the ids `count` from `first` on refer to others
abbrev pub referred : KnownTypes → List (ℕ × ℕ) → ℕ → ℕ → ℕ → spec.SubType TypeReference
referred types numbers first count id = sub_map (λ index. id_reference types.interned numbers first count (number_of index)) (with_first_supertype (sub_type_at types id))

abbrev pub referring : KnownReferences → ℕ → spec.SubType TypeReference
referring it id = referred (known it.types.now) it.numbers.now it.group.now.first it.group.now.count id
