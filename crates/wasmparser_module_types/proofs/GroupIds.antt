-- The groups that types came in, by the ids of their types.
use Rattle.std.proofs.Common.{◌≡◌, ℕ, zero, suc, ◌+◌, ◌-◌, ◌<◌, ◌≤◌, List, [], ◌∷◌, ◌++◌, map, length, replicate, Option, Some, None, refl, sym, ap, ◌∙◌, arith, inl, inr, slice_get}
use Rattle.std.proofs.lemmas.List.{length-map}
use Rattle.std.proofs.lemmas.Option.{slice_get-map}
use Rattle.std.specs.List.{flat_map, range_with_len}
use Rattle.std.specs.Option.{option_map, unwrap_or}
use Rattle.std.specs.declared.ops.Range.{Range}
use Rattle.wasm_spec.proofs.Places.{get_cases}
use Rattle.wasmparser_type_list.specs.TypeTables.{AreConsecutive, TablesAgree, TypeTables, group_ids, ids_in, numbers_from}
use Rattle.wasmparser_type_list.proofs.KeptGroups.{ends}
use Rattle.wasmparser_type_list.proofs.WholeGroups.{whole_groups}
use Rattle.wasmparser_type_list.specs.IdTypes.{IsWholeGroup}
use Rattle.wasmparser_module_types.proofs.KnownIds.{kept_count}
use Rattle.wasmparser_module_types.specs.ModuleTypes.{ids_in_range, interned_groups, interned_types, all_groups}

-- ---- the group of an id

all_one : (count number id other : ℕ) → slice_get (replicate count number) id ≡ Some other → (number ≡ other) × (id < count)
all_one zero number id other at = absurd cc
all_one (suc count) number zero other at = (cc, omega arith)
all_one (suc count) number (suc id) other at = let h = all_one count number id other at in (h.0, omega (arith, h.1))

replicate_count : (count number : ℕ) → length (replicate count number) ≡ count
replicate_count zero number = refl
replicate_count (suc count) number = ap suc (replicate_count count number)

-- the range of ids that the number of an id's group stands for
record HasRange (ranges : List (Range ℕ)) (place id : ℕ) : Type 0 where
  pub range : Range ℕ
  pub at : slice_get ranges place ≡ Some range
  pub first : range.start ≤ id
  pub last : id < range.end

range_of : (number start : ℕ) (ranges : List (Range ℕ)) (end id group : ℕ) → AreConsecutive start ranges end → slice_get (numbers_from number ranges) id ≡ Some group
    → (place : ℕ) × (group ≡ number + place) × HasRange ranges place (start + id)
range_of number start [] end id group are at = absurd cc
range_of number start (range ∷ ranges) end id group are at =
    let count = range.end - range.start in
    elim (get_cases (replicate count number) (numbers_from (number + 1) ranges) id group at) [
      | inl own ↦
          let one = all_one count number id group own in
          (0, omega (arith, one.0), record { range = range; at = refl; first = omega (arith, are.0); last = omega (arith, are.0, are.1, one.1) })
      | inr later ↦
          let rest = range_of (number + 1) range.end ranges end later.0 group are.2 later.2 in
          let same : range.end + later.0 ≡ start + id = omega (arith, later.1, replicate_count count number, are.0, are.1) in (
            suc rest.0,
            omega (arith, rest.1),
            record {
              range = rest.2.range;
              at = rest.2.at;
              first = omega (arith, rest.2.first, same);
              last = omega (arith, rest.2.last, same);
            },
          )
    ]

in_range : (first count place : ℕ) → place < count → slice_get (range_with_len first count) place ≡ Some (first + place)
in_range first zero place within = absurd (omega (arith, within))
in_range first (suc count) zero within = let same : first ≡ first + 0 = omega arith in ap Some same
in_range first (suc count) (suc place) within =
    let same : first + 1 + place ≡ first + suc place = omega arith in in_range (first + 1) count place (omega (arith, within)) ∙ ap Some same

joined_ranges : (first count more : ℕ) → range_with_len first count ++ range_with_len (first + count) more ≡ range_with_len first (count + more)
joined_ranges first zero more =
    let same : first + 0 ≡ first = omega arith in let all : 0 + more ≡ more = omega arith in ap (λ n. range_with_len n more) same ∙ ap (range_with_len first) (sym all)
joined_ranges first (suc count) more =
    let same : first + suc count ≡ first + 1 + count = omega arith in
    let all : suc count + more ≡ suc (count + more) = omega arith in
    ap (λ n. first ∷ (range_with_len (first + 1) count ++ range_with_len n more)) same ∙ ap (λ ids. first ∷ ids) (joined_ranges (first + 1) count more) ∙ ap (range_with_len first) (sym all)

-- groups one after the other have all ids
all_ids : (start : ℕ) (ranges : List (Range ℕ)) (end : ℕ) → AreConsecutive start ranges end → flat_map (λ (ids : List ℕ). ids) (map ids_in_range ranges) ≡ range_with_len start (end - start)
all_ids start [] end are = let none : end - start ≡ 0 = omega (arith, are) in ap (range_with_len start) (sym none)
all_ids start (range ∷ ranges) end are =
    let first : range.start ≡ start = are.0 in
    let next : start + (range.end - range.start) ≡ range.end = omega (arith, are.0, are.1) in
    let count : range.end - range.start + (end - range.end) ≡ end - start = omega (arith, are.0, are.1, ends range.end ranges end are.2) in
    ap (λ ids. ids_in_range range ++ ids) (all_ids range.end ranges end are.2)
    ∙ ap (λ n. range_with_len n (range.end - range.start) ++ range_with_len range.end (end - range.end)) first
    ∙ ap (λ n. range_with_len start (range.end - range.start) ++ range_with_len n (end - range.end)) (sym next)
    ∙ joined_ranges start (range.end - range.start) (end - range.end) ∙ ap (range_with_len start) count

module _ (list : TypeTables) (agree : TablesAgree list) where
  pub are_parts : flat_map (λ (ids : List ℕ). ids) (interned_groups list) ≡ range_with_len 0 (length (interned_types list))
  are_parts =
      let all : length list.types - 0 ≡ length (interned_types list) = omega (arith, kept_count list agree) in all_ids 0 list.groups (length list.types) agree.groups ∙ ap (range_with_len 0) all

  -- the ids of a group of this number, as they are shown
  shown_ids : (number : ℕ) (range : Option (Range ℕ)) → slice_get list.groups number ≡ range → unwrap_or (slice_get (interned_groups list) number) [] ≡ ids_in range
  shown_ids number range at = ap (λ o. unwrap_or o []) (slice_get-map ids_in_range list.groups number ∙ ap (option_map ids_in_range) at) ∙ either range where
    either : (range : Option (Range ℕ)) → unwrap_or (option_map ids_in_range range) [] ≡ ids_in range
    either None = refl
    either (Some range) = refl

  pub are_shown : (number : ℕ) → group_ids list number ≡ unwrap_or (slice_get (interned_groups list) number) []
  are_shown number = sym (shown_ids number (slice_get list.groups number) refl)

  pub is_group : (id number : ℕ) → slice_get list.rec_groups id ≡ Some number → (place : ℕ) × (slice_get (unwrap_or (slice_get (interned_groups list) number) []) place ≡ Some id)
  is_group id number at =
      let found = range_of 0 0 list.groups (length list.types) id number agree.groups (ap (λ q. slice_get q id) (sym agree.rec_groups) ∙ at) in
      let has = found.2 in
      let same_id : has.range.start + (id - has.range.start) ≡ id = omega (arith, has.first) in
      let here : slice_get list.groups number ≡ Some has.range = let same : number ≡ found.0 = omega (arith, found.1) in ap (slice_get list.groups) same ∙ has.at in (
        id - has.range.start,
        ap (λ ids. slice_get ids (id - has.range.start)) (shown_ids number (Some has.range) here)
            ∙ in_range has.range.start (has.range.end - has.range.start) (id - has.range.start) (omega (arith, has.first, has.last)) ∙ ap Some same_id,
      )

  pub is_whole : (number : ℕ) → number < length (interned_groups list) → IsWholeGroup (interned_types list) (group_ids list number)
  is_whole number within = whole_groups all_groups list number agree (omega (arith, within, length-map list.groups ids_in_range))
