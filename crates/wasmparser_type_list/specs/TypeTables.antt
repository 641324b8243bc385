-- What a list of types holds, and when its tables agree.
use Rattle.std.specs.Prelude.{◌≡◌, ◌≢◌, ℕ, replicate, ◌+◌, ◌-◌, ◌<◌, ◌≤◌, ⊤, Bool, true, false, ◌⊎◌, nat_le, nat_lt, if◌then◌else◌, option_and_then, List, [], ◌∷◌, ◌++◌, Vec, length, map, take, drop, slice_get, Option, Some, None, IfSome}
use Rattle.std.specs.List.{AllByRecursion, range_with_len}
use Rattle.std.specs.declared.alloc.Global.{Global}
use Rattle.std.specs.declared.ops.Range.{Range}
use Rattle.wasm_spec.specs.Limits.{total_of_types}
use Rattle.wasm_spec.specs.Matching.{CompositeMatches}
use Rattle.wasm_spec.specs.Subtyping.{SubTypes}
use Rattle.wasm_spec.specs.TypeReferences.{subs_map, subs_refs}
use Rattle.wasm_spec.specs.Types as spec
use Rattle.wasmparser_error.specs.declared.error.Error.{Error}
use Rattle.wasmparser_error.specs.declared.error.ErrorKind.TheVariants.{Memory, Total}
use Rattle.wasmparser_types.specs.Index.{Index, Module, RecGroup, Id, packable}
use Rattle.wasmparser_types.specs.SubTypes.{sub_type}
use Rattle.wasmparser_types.specs.declared.sub_type.SubType.{SubType}
use Rattle.wasmparser_type_relations.specs.Chains.{AreBelowEarlier, by_id, chains_after, supertype_in}
use Rattle.wasmparser_type_relations.specs.GroupKeys.{group_key}
use Rattle.wasmparser_type_relations.specs.GroupMaps.{found}

-- the tables
pub record TypeTables : Type 0 where
  -- the types, by id
  pub types : List SubType
  -- the number of each type's group, and its chain of supertypes
  pub rec_groups : List ℕ
  pub chains : List (Option (List ℕ))
  -- the ids of each group
  pub groups : List (Range ℕ)
  -- the groups that equal ones are sought among, by their keys; none in a list that doesn't grow on
  pub known : Option (List (List ℕ × ℕ))

abbrev pub no_types : TypeTables
no_types = record { types = []; rec_groups = []; chains = []; groups = []; known = Some [] }

-- the types as the specification has them
abbrev pub sub_types : TypeTables → List (spec.SubType Index)
sub_types tables = map sub_type tables.types

-- ---- canonical groups

-- In a canonical group a type of the group itself is named by its place, and each earlier one by its id. Where the group is kept, from this id on, the
-- places are ids too.
abbrev pub absolute : ℕ → Index → Index
absolute start (Module n) = Module n
absolute start (RecGroup place) = Id (start + place)
absolute start (Id n) = Id n

-- a reference of a group of so many types that comes after so many types
abbrev pub IsWithin : ℕ → ℕ → Index → Type 0
IsWithin before count (Module n) = ⊤
IsWithin before count (RecGroup place) = place < count
IsWithin before count (Id n) = n < before

abbrev pub AreWithin : ℕ → List (spec.SubType Index) → Type 0
AreWithin before group = AllByRecursion (IsWithin before (length group)) (subs_refs group)

-- ---- groups in a list

-- the types with these ids
abbrev pub types_in : TypeTables → Range ℕ → List (spec.SubType Index)
types_in tables range = take (range.end - range.start) (drop range.start (sub_types tables))

-- A kept group refers to its own types and to earlier ones by their ids, and no place is left. Type indexes in a module may stand in it, which stand for
-- nothing here.
abbrev pub RefersBack : TypeTables → Range ℕ → Type 0
RefersBack tables range = AllByRecursion (IsWithin range.end 0) (subs_refs (types_in tables range))

abbrev pub range_after : ℕ → ℕ → Range ℕ
range_after start count = record { start = start; end = start + count }

-- the group of this number has these types, in canonical form
pub record IsGroupAt (tables : TypeTables) (number : ℕ) (group : List (spec.SubType Index)) : Type 0 where
  pub start : ℕ
  pub at : slice_get tables.groups number ≡ Some (range_after start (length group))
  pub types : take (length group) (drop start (sub_types tables)) ≡ subs_map (absolute start) group
  pub within : AreWithin start group

-- the number of the group that equals this one, of those that equal ones are sought among
abbrev pub known_group : Option (List (List ℕ × ℕ)) → List (spec.SubType Index) → Option ℕ
known_group None group = None
known_group (Some entries) group = found entries (group_key group)

-- the number of each type's group, where the groups are numbered from this one on
abbrev pub numbers_from : ℕ → List (Range ℕ) → List ℕ
numbers_from number [] = []
numbers_from number (range ∷ ranges) = replicate (range.end - range.start) number ++ numbers_from (number + 1) ranges

-- the groups have all ids up to the second one, from the first on and one after the other
abbrev pub AreConsecutive : ℕ → List (Range ℕ) → ℕ → Type 0
AreConsecutive start [] end = start ≡ end
AreConsecutive start (range ∷ ranges) end = (range.start ≡ start) × (range.start ≤ range.end) × AreConsecutive range.end ranges end

-- the most types that a list holds
abbrev pub max_types : ℕ
max_types = total_of_types

-- All tables are those of groups that were interned one after the other.
pub record TablesAgree (tables : TypeTables) : Type 0 where
  pub count : length tables.types ≤ max_types
  pub groups : AreConsecutive 0 tables.groups (length tables.types)
  pub rec_groups : tables.rec_groups ≡ numbers_from 0 tables.groups
  pub chains : tables.chains ≡ chains_after [] (sub_types tables)
  pub references : AllByRecursion (RefersBack tables) tables.groups
  pub known : (group : List (spec.SubType Index)) → IfSome (known_group tables.known group) (λ number. IsGroupAt tables number group)

-- ---- interning

-- a key was entered where one is sought by keys
abbrev pub EntersKey : Option (List (List ℕ × ℕ)) → Option (List (List ℕ × ℕ)) → Option (Vec ℕ Global) → ℕ → Type 0
EntersKey (Some old) (Some new) (Some key) number =
    (found new key.items ≡ Some number) × ((other : List ℕ) → other ≢ key.items → found new other ≡ found old other)
EntersKey (Some old) None (Some key) number = ⊥
EntersKey (Some old) new None number = new ≡ Some old
EntersKey None new key number = new ≡ None

-- A group was added at the end.
pub record Adds (old new : TypeTables) (group : List (spec.SubType Index)) (number : ℕ) : Type 0 where
  pub number_is : number ≡ length old.groups
  pub kept : (added : List SubType) × (new.types ≡ old.types ++ added)
  pub types : sub_types new ≡ sub_types old ++ subs_map (absolute (length old.types)) group
  pub rec_groups : new.rec_groups ≡ old.rec_groups ++ replicate (length group) number
  pub chains : new.chains ≡ chains_after old.chains (subs_map (absolute (length old.types)) group)
  pub groups : new.groups ≡ old.groups ++ range_after (length old.types) (length group) ∷ []

-- a place in a group becomes an id that can be packed
abbrev pub CanBeAbsolute : ℕ → Index → Type 0
CanBeAbsolute start (Module n) = ⊤
CanBeAbsolute start (RecGroup place) = start + place < packable
CanBeAbsolute start (Id n) = ⊤

-- the key under which a group is sought, if equal ones are to be one
abbrev pub IsKeyOf : Bool → List (spec.SubType Index) → Option (Vec ℕ Global) → Type 0
IsKeyOf true group (Some key) = key.items ≡ group_key group
IsKeyOf true group None = ⊥
IsKeyOf false group key = key ≡ None

abbrev pub found_by : Option (List (List ℕ × ℕ)) → Option (Vec ℕ Global) → Option ℕ
found_by (Some entries) (Some key) = found entries key.items
found_by (Some entries) None = None
found_by None key = None

-- A group that was not known was added. canonical: whether equal ones are to be one.
pub record AddsAs (old new : TypeTables) (canonical : Bool) (group : List (spec.SubType Index)) (number : ℕ) : Type 0 where
  pub adds : Adds old new group number
  pub unknown : canonical ≡ true → known_group old.known group ≡ None
  pub known : canonical ≡ true → known_group new.known group ≡ Some number
  pub others : (other : List (spec.SubType Index)) → (canonical ≡ true → other ≢ group) → known_group new.known other ≡ known_group old.known other

-- Interning a group answers whether it was added, and its number.
abbrev pub Interns : TypeTables → TypeTables → Bool → List (spec.SubType Index) → Bool → ℕ → Type 0
Interns old new canonical group true number = AddsAs old new canonical group number
Interns old new canonical group false number = (canonical ≡ true) × (new ≡ old) × (known_group old.known group ≡ Some number)

-- why it is refused
abbrev pub IsNoIntern : Bool → Error → ℕ → Type 0
IsNoIntern has_room e offset =
    ((has_room ≡ false) × (e ≡ record { offset = offset; kind = Total })) ⊎ ((has_room ≡ true) × (e ≡ record { offset = offset; kind = Memory }))

abbrev pub has_room : TypeTables → List (spec.SubType Index) → Bool
has_room tables group = nat_le (length tables.types + length group) max_types

-- the final sub type of no other type that a function type by itself stands for
abbrev pub final_func : spec.FuncType Index → spec.SubType Index
final_func type = record { is_final = true; supertypes = []; composite_type = spec.FuncComposite type }

-- ---- what is asked of a list

-- the type's declared supertype, if the id is known
abbrev pub supertype_at : TypeTables → ℕ → Option ℕ
supertype_at tables id = option_and_then (λ type. supertype_in type.supertypes) (slice_get (sub_types tables) id)

-- the id of a place in a group
abbrev pub place_in : Option (Range ℕ) → ℕ → Option ℕ
place_in (Some range) place = if nat_lt place (range.end - range.start) then Some (range.start + place) else None
place_in None place = None

abbrev pub local_id : TypeTables → ℕ → ℕ → Option ℕ
local_id tables group place = place_in (slice_get tables.groups group) place

-- the ids of a group's types, in order
abbrev pub ids_in : Option (Range ℕ) → List ℕ
ids_in (Some range) = range_with_len range.start (range.end - range.start)
ids_in None = []

abbrev pub group_ids : TypeTables → ℕ → List ℕ
group_ids tables group = ids_in (slice_get tables.groups group)

-- the id that an index of a type in this group stands for; none for a type index in a module
abbrev pub id_of : TypeTables → ℕ → Index → Option ℕ
id_of tables group (Module n) = None
id_of tables group (RecGroup place) = local_id tables group place
id_of tables group (Id n) = Some n

-- a place, where the group has no such one, and else its id
abbrev pub id_or_place : ℕ → Option ℕ → Index
id_or_place place None = RecGroup place
id_or_place place (Some id) = Id id

-- An index in a type of a group, as one that is valid outside of it. A place that the group doesn't have stays a place.
abbrev pub resolved_in : TypeTables → ℕ → Index → Index
resolved_in tables group (Module n) = Module n
resolved_in tables group (RecGroup place) = id_or_place place (local_id tables group place)
resolved_in tables group (Id n) = Id n

-- what ids stand for
abbrev pub type_by_id : TypeTables → SubTypes Index
type_by_id tables = by_id (slice_get (sub_types tables))

-- what must hold where subtyping is asked for
pub record CanAskSubtyping (tables : TypeTables) : Type 0 where
  pub agree : TablesAgree tables
  pub earlier : AreBelowEarlier (slice_get (sub_types tables))

-- two ids stand for types the first of which matches the second
pub record IdMatches (tables : TypeTables) (a b : ℕ) : Type 0 where
  pub lower : spec.SubType Index
  pub upper : spec.SubType Index
  pub a_is : slice_get (sub_types tables) a ≡ Some lower
  pub b_is : slice_get (sub_types tables) b ≡ Some upper
  pub matches : CompositeMatches (type_by_id tables) lower.composite_type upper.composite_type

-- the same types, in a list that doesn't grow on
abbrev pub committed : TypeTables → TypeTables
committed tables = record tables { known = None }

-- other types, or other groups, in tables that stay as they are
abbrev pub with_types : TypeTables → List SubType → TypeTables
with_types tables types = record tables { types = types }

abbrev pub with_groups : TypeTables → List (Range ℕ) → TypeTables
with_groups tables groups = record tables { groups = groups }
