-- Tables of types, as groups are added.
use Rattle.std.proofs.Common.{◌≡◌, ℕ, ◌+◌, ◌-◌, ◌≤◌, List, [], ◌∷◌, ◌++◌, length, map, replicate, slice_get, Option, ap, sym, ◌∙◌, arith}
use Rattle.std.proofs.lemmas.List.{length-append, length-map, length-replicate}
use Rattle.std.proofs.lemmas.Option.{slice_get-map}
use Rattle.std.specs.List.{AllByRecursion}
use Rattle.std.specs.Option.{option_map}
use Rattle.std.specs.declared.ops.Range.{Range}
use Rattle.wasm_spec.specs.TypeReferences.{sub_map, subs_map, subs_refs}
use Rattle.wasm_spec.specs.Types.{SubType}
use Rattle.wasmparser_types.specs.Index.{Index, Module, RecGroup, Id}
use Rattle.wasmparser_types.specs.SubTypes.{sub_type}
use Rattle.wasmparser_types.specs.declared.sub_type.SubType as Code
use Rattle.wasmparser_type_relations.specs.Chains.{chain_after, chains_after}
use Rattle.wasmparser_type_list.specs.TypeTables.{TypeTables, TablesAgree, AreConsecutive, AreWithin, CanBeAbsolute, IsWithin, max_types, numbers_from, range_after, sub_types}

-- ---- how many there are

pub chains_count : (chains : List (Option (List ℕ))) (types : List (SubType Index)) → length (chains_after chains types) ≡ length chains + length types
chains_count chains [] = omega arith
chains_count chains (type ∷ types) = let more = chains_count (chains ++ chain_after chains type ∷ []) types in omega (arith, more, length-append chains (chain_after chains type ∷ []))

numbers_count : (start number : ℕ) (ranges : List (Range ℕ)) (end : ℕ) → AreConsecutive start ranges end → start + length (numbers_from number ranges) ≡ end
numbers_count start number [] end are = omega (arith, are)
numbers_count start number (range ∷ ranges) end are =
    let more = numbers_count range.end (number + 1) ranges end are.2 in
    omega (arith, more, are.0, are.1, length-append (replicate (range.end - range.start) number) (numbers_from (number + 1) ranges), length-replicate (range.end - range.start) number)

pub rec_groups_count : (tables : TypeTables) → TablesAgree tables → length tables.rec_groups ≡ length tables.types
rec_groups_count tables agree = omega (arith, ap length agree.rec_groups, numbers_count 0 0 tables.groups (length tables.types) agree.groups)

pub all_chains : (tables : TypeTables) → TablesAgree tables → length tables.chains ≡ length tables.types
all_chains tables agree = omega (arith, ap length agree.chains, chains_count [] (sub_types tables), length-map tables.types sub_type)

-- ---- what ids stand for

-- what is read of an id is what it stands for
pub stands_for : (tables : TypeTables) (id : ℕ) (o : Option Code.SubType) → o ≡ slice_get tables.types id → option_map sub_type o ≡ slice_get (sub_types tables) id
stands_for tables id o is = ap (option_map sub_type) is ∙ sym (slice_get-map sub_type tables.types id)

-- ---- places become ids

all_from : {X : Type 0} {P Q : X → Type 0} → ((x : X) → P x → Q x) → (xs : List X) → AllByRecursion P xs → AllByRecursion Q xs
all_from step [] all = tt
all_from step (x ∷ xs) all = (step x all.0, all_from step xs all.1)

pub can_be_absolute : (before first : ℕ) (group : List (SubType Index)) → first ≡ before → before + length group ≤ max_types → AreWithin before group
    → AllByRecursion (CanBeAbsolute first) (subs_refs group)
can_be_absolute before first group is room within = all_from one (subs_refs group) within where
  one : (index : Index) → IsWithin before (length group) index → CanBeAbsolute first index
  one (Module n) h = tt
  one (RecGroup place) h = omega (arith, h, is, room)
  one (Id n) h = tt

-- ---- what a group adds

pub same_count : (f : Index → Index) (new old : List Code.SubType) → map sub_type new ≡ subs_map f (map sub_type old) → length new ≡ length old
same_count f new old is = omega (arith, ap length is, length-map new sub_type, length-map old sub_type, length-map (map sub_type old) (sub_map f))

pub added_chains : (chains added : List (Option (List ℕ))) (types : List (SubType Index)) → chains ++ added ≡ chains_after chains types → length added ≡ length types
added_chains chains added types is = omega (arith, ap length is, length-append chains added, chains_count chains types)

pub same_range : (first last start count : ℕ) → first ≡ start → last ≡ start + count → record { start = first; end = last } ≡ range_after start count
same_range first last start count is_first is_last = ap (λ n. record { start = n; end = last }) is_first ∙ ap (λ n. record { start = start; end = n }) is_last
