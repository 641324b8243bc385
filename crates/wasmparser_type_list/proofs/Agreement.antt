-- Tables agree after a group was added.
use Rattle.std.proofs.Common.{◌≡◌, ◌≢◌, ℕ, zero, suc, ◌+◌, ◌-◌, ◌<◌, ◌≤◌, Bool, true, false, List, [], ◌∷◌, ◌++◌, length, take, drop, replicate, slice_get, Option, Some, None, IfSome, IsSome, Vec, nat_lt, if◌then◌else◌, refl, sym, ap, ◌∙◌, subst, arith}
use Rattle.std.proofs.Math.Seq.{drop-append_seam}
use Rattle.std.proofs.lemmas.Bool.{ltb-true}
use Rattle.std.proofs.lemmas.List.{append-nil, append_assoc, drop-append-le, length-append, length-drop, length-map, take_all, take-append-le}
use Rattle.std.proofs.lemmas.Option.{slice_get_within}
use Rattle.std.proofs.lemmas.Slice.Eq.{bytes_eq-Decides}
use Rattle.std.specs.List.{AllByRecursion}
use Rattle.std.specs.declared.alloc.Global.{Global}
use Rattle.std.specs.declared.ops.Range.{Range}
use Rattle.std.specs.Str.{bytes_eq}
use Rattle.wasm_spec.proofs.MappedTypes.{all_map}
use Rattle.wasm_spec.proofs.Places.{all_by_place, all_get, get_left}
use Rattle.wasm_spec.proofs.TypeMaps.{subs_refs-map}
use Rattle.wasm_spec.specs.TypeReferences.{sub_map, subs_map, subs_refs}
use Rattle.wasm_spec.specs.Types.{SubType}
use Rattle.wasmparser_types.specs.Index.{Index, Module, RecGroup, Id}
use Rattle.wasmparser_types.specs.SubTypes.{sub_type}
use Rattle.wasmparser_type_relations.specs.Chains.{chain_after, chains_after}
use Rattle.wasmparser_type_relations.specs.GroupKeys.{group_key}
use Rattle.wasmparser_type_relations.specs.GroupMaps.{found}
use Rattle.wasmparser_type_list.specs.TypeTables.{Adds, AddsAs, AreConsecutive, AreWithin, EntersKey, IsGroupAt, IsKeyOf, IsWithin, RefersBack, TablesAgree, TypeTables, absolute, found_by, known_group, local_id, max_types, place_in, numbers_from, range_after, sub_types}
use Rattle.wasmparser_type_relations.proofs.ChainLaws.{at_last}
use Rattle.wasmparser_type_relations.proofs.KeyLaws.{groups_apart}

chains_joined : (chains : List (Option (List ℕ))) (types more : List (SubType Index)) → chains_after (chains_after chains types) more ≡ chains_after chains (types ++ more)
chains_joined chains [] more = refl
chains_joined chains (type ∷ types) more = chains_joined (chains ++ chain_after chains type ∷ []) types more

consecutive_more : (start : ℕ) (ranges : List (Range ℕ)) (end count : ℕ) → AreConsecutive start ranges end → AreConsecutive start (ranges ++ range_after end count ∷ []) (end + count)
consecutive_more start [] end count are = (sym are, omega arith, refl)
consecutive_more start (range ∷ ranges) end count are = (are.0, are.1, consecutive_more range.end ranges end count are.2)

numbers_more : (number : ℕ) (ranges : List (Range ℕ)) (range : Range ℕ)
    → numbers_from number (ranges ++ range ∷ []) ≡ numbers_from number ranges ++ replicate (range.end - range.start) (number + length ranges)
numbers_more number [] range =
    let here : number ≡ number + 0 = omega arith in append-nil (replicate (range.end - range.start) number) ∙ ap (replicate (range.end - range.start)) here
numbers_more number (first ∷ ranges) range =
    let n : number + 1 + length ranges ≡ number + suc (length ranges) = omega arith in
    let front = replicate (first.end - first.start) number in
    ap (λ q. front ++ q) (numbers_more (number + 1) ranges range ∙ ap (λ m. numbers_from (number + 1) ranges ++ replicate (range.end - range.start) m) n)
    ∙ sym (append_assoc front (numbers_from (number + 1) ranges) (replicate (range.end - range.start) (number + suc (length ranges))))

-- a group ends among the types
pub group_within : (start : ℕ) (ranges : List (Range ℕ)) (end number : ℕ) (range : Range ℕ) → AreConsecutive start ranges end → slice_get ranges number ≡ Some range → range.end ≤ end
group_within start [] end number range are e = absurd cc
group_within start (first ∷ ranges) end zero range are e =
    let one : first ≡ range = cc in subst (λ r. r.end ≤ end) one (below first.end ranges end are.2) where
      below : (start : ℕ) (ranges : List (Range ℕ)) (end : ℕ) → AreConsecutive start ranges end → start ≤ end
      below start [] end are = omega (arith, are)
      below start (range ∷ ranges) end are = let h = below range.end ranges end are.2 in omega (arith, h, are.0, are.1)
group_within start (first ∷ ranges) end (suc number) range are e = group_within first.end ranges end number range are.2 e

-- its ids are in order
range_in_order : (start : ℕ) (ranges : List (Range ℕ)) (end number : ℕ) (range : Range ℕ) → AreConsecutive start ranges end → slice_get ranges number ≡ Some range → range.start ≤ range.end
range_in_order start [] end number range are e = absurd cc
range_in_order start (first ∷ ranges) end zero range are e = let one : first ≡ range = cc in subst (λ r. r.start ≤ r.end) one are.1
range_in_order start (first ∷ ranges) end (suc number) range are e = range_in_order first.end ranges end number range are.2 e

-- what refers to a group's own types, and to those before it, still does where places became ids
known_after : (start count : ℕ) (index : Index) → IsWithin start count index → IsWithin (start + count) 0 (absolute start index)
known_after start count (Module n) h = tt
known_after start count (RecGroup place) h = omega (arith, h)
known_after start count (Id n) h = omega (arith, h)

all_more : {X : Type 0} (P : X → Type 0) (xs : List X) (x : X) → AllByRecursion P xs → P x → AllByRecursion P (xs ++ x ∷ [])
all_more P [] x h k = (k, tt)
all_more P (y ∷ xs) x h k = (h.0, all_more P xs x h.1 k)

module _ (old new : TypeTables) (group : List (SubType Index)) (number : ℕ) (agree : TablesAgree old) (adds : Adds old new group number) (within : AreWithin (length old.types) group) where
  abbrev added : List (SubType Index)
  added = subs_map (absolute (length old.types)) group

  added_count : length added ≡ length group
  added_count = length-map group (sub_map (absolute (length old.types)))

  old_count : length (sub_types old) ≡ length old.types
  old_count = length-map old.types sub_type

  count_is : length new.types ≡ length old.types + length group
  count_is = omega (arith, ap length adds.types, length-map new.types sub_type, length-append (sub_types old) added, added_count, old_count)

  -- types that were there are where they were
  still_types : (start count : ℕ) → start + count ≤ length old.types → take count (drop start (sub_types new)) ≡ take count (drop start (sub_types old))
  still_types start count ends =
      let dropped = drop-append-le start (sub_types old) added (omega (arith, ends, old_count)) in
      let enough : count ≤ length (drop start (sub_types old)) = omega (arith, ends, old_count, length-drop start (sub_types old)) in
      ap (λ q. take count (drop start q)) adds.types ∙ ap (take count) dropped ∙ take-append-le count (drop start (sub_types old)) added enough

  now_types : take (length group) (drop (length old.types) (sub_types new)) ≡ added
  now_types =
      ap (λ q. take (length group) (drop (length old.types) q)) adds.types
      ∙ ap (λ n. take (length group) (drop n (sub_types old ++ added))) (sym old_count) ∙ ap (take (length group)) (drop-append_seam (sub_types old) added)
      ∙ ap (λ n. take n added) (sym added_count) ∙ take_all (length added) added (omega arith)

  -- a group that was there is where it was
  pub still_at : (n : ℕ) (other : List (SubType Index)) → IsGroupAt old n other → IsGroupAt new n other
  still_at n other is =
      let ends : is.start + length other ≤ length old.types = group_within 0 old.groups (length old.types) n _ agree.groups is.at in
      record {
        start = is.start;
        at = ap (λ q. slice_get q n) adds.groups ∙ get_left old.groups (range_after (length old.types) (length group) ∷ []) n (slice_get_within old.groups n _ is.at) ∙ is.at;
        types = still_types is.start (length other) ends ∙ is.types;
        within = is.within;
      }

  pub now_at : IsGroupAt new number group
  now_at = record {
    start = length old.types;
    at = ap (λ q. slice_get q number) adds.groups ∙ ap (slice_get (old.groups ++ range_after (length old.types) (length group) ∷ [])) adds.number_is
        ∙ at_last old.groups (range_after (length old.types) (length group));
    types = now_types;
    within = within;
  }

  -- groups that were there refer to what they did, and the new one to its own types and to earlier ones
  still_known : (n : ℕ) (range : Range ℕ) → slice_get old.groups n ≡ Some range → RefersBack new range
  still_known n range at =
      let ends : range.end ≤ length old.types = group_within 0 old.groups (length old.types) n range agree.groups at in
      let order : range.start ≤ range.end = range_in_order 0 old.groups (length old.types) n range agree.groups at in
      subst (λ q. AllByRecursion (IsWithin range.end 0) (subs_refs q)) (sym (still_types range.start (range.end - range.start) (omega (arith, ends, order))))
      (all_get (RefersBack old) old.groups agree.references n range at)

  now_known : RefersBack new (range_after (length old.types) (length group))
  now_known =
      let count : length group ≡ length old.types + length group - length old.types = omega arith in
      let end = length old.types + length group in
      subst (λ n. AllByRecursion (IsWithin end 0) (subs_refs (take n (drop (length old.types) (sub_types new))))) count
      (subst (λ q. AllByRecursion (IsWithin end 0) (subs_refs q)) (sym now_types)
      (subst (AllByRecursion (IsWithin end 0)) (sym (subs_refs-map (absolute (length old.types)) group))
      (all_map (IsWithin (length old.types) (length group)) (IsWithin end 0) (absolute (length old.types)) (known_after (length old.types) (length group)) (subs_refs group) within)))

  all_known : AllByRecursion (RefersBack new) new.groups
  all_known =
      subst (AllByRecursion (RefersBack new)) (sym adds.groups)
      (all_more (RefersBack new) old.groups (range_after (length old.types) (length group)) (all_by_place (RefersBack new) old.groups still_known) now_known)

  found_groups : (key : Option (Vec ℕ Global)) → IfSome key (λ k. k.items ≡ group_key group) → EntersKey old.known new.known key number
      → (other : List (SubType Index)) → IfSome (known_group new.known other) (λ n. IsGroupAt new n other)
  found_groups key of enters other = go old.known new.known key of enters (agree.known other) where
    was : (known : Option ℕ) → IfSome known (λ n. IsGroupAt old n other) → IfSome known (λ n. IsGroupAt new n other)
    was None h = tt
    was (Some n) h = still_at n other h

    by_key : (entries more : List (List ℕ × ℕ)) (k : Vec ℕ Global) → k.items ≡ group_key group → found more k.items ≡ Some number
        → ((q : List ℕ) → q ≢ k.items → found more q ≡ found entries q) → IfSome (found entries (group_key other)) (λ n. IsGroupAt old n other)
        → (same : Bool) → bytes_eq (group_key other) k.items ≡ same → IfSome (found more (group_key other)) (λ n. IsGroupAt new n other)
    by_key entries more k of now others h true e =
        let same_items = (bytes_eq-Decides (group_key other) k.items).0 e in
        let one : group ≡ other = groups_apart group other (sym of ∙ sym same_items) in
        subst (λ o. IfSome o (λ n. IsGroupAt new n other)) (sym (ap (found more) same_items ∙ now)) (subst (IsGroupAt new number) one now_at)
    by_key entries more k of now others h false e =
        let apart : group_key other ≢ k.items = λ s. absurd (let t = (bytes_eq-Decides (group_key other) k.items).1 s in cc) in
        subst (λ o. IfSome o (λ n. IsGroupAt new n other)) (sym (others (group_key other) apart)) (was (found entries (group_key other)) h)

    go : (before after : Option (List (List ℕ × ℕ))) (key : Option (Vec ℕ Global)) → IfSome key (λ k. k.items ≡ group_key group) → EntersKey before after key number
        → IfSome (known_group before other) (λ n. IsGroupAt old n other) → IfSome (known_group after other) (λ n. IsGroupAt new n other)
    go (Some entries) (Some more) (Some k) of enters h = by_key entries more k of enters.0 enters.1 h (bytes_eq (group_key other) k.items) refl
    go (Some entries) None (Some k) of enters h = tt
    go (Some entries) after None of enters h = subst (λ known. IfSome (known_group known other) (λ n. IsGroupAt new n other)) (sym enters) (was (found entries (group_key other)) h)
    go None after key of enters h = subst (λ known. IfSome (known_group known other) (λ n. IsGroupAt new n other)) (sym enters) tt

  same_numbers : replicate (length group) number ≡ replicate (length old.types + length group - length old.types) (0 + length old.groups)
  same_numbers =
      let count : length group ≡ length old.types + length group - length old.types = omega arith in
      let n : number ≡ 0 + length old.groups = omega (arith, adds.number_is) in
      ap (λ k. replicate k number) count ∙ ap (replicate (length old.types + length group - length old.types)) n

  pub still_agree : (key : Option (Vec ℕ Global)) → IfSome key (λ k. k.items ≡ group_key group) → EntersKey old.known new.known key number
      → length old.types + length group ≤ max_types → TablesAgree new
  still_agree key of enters room = record {
    count = omega (arith, count_is, room);
    groups = subst (λ q. AreConsecutive 0 q (length new.types)) (sym adds.groups)
        (subst (AreConsecutive 0 (old.groups ++ range_after (length old.types) (length group) ∷ [])) (sym count_is) (consecutive_more 0 old.groups (length old.types) (length group) agree.groups));
    rec_groups = adds.rec_groups ∙ ap (λ q. q ++ replicate (length group) number) agree.rec_groups ∙ ap (λ q. numbers_from 0 old.groups ++ q) same_numbers
        ∙ sym (numbers_more 0 old.groups (range_after (length old.types) (length group))) ∙ ap (numbers_from 0) (sym adds.groups);
    chains = adds.chains ∙ ap (λ q. chains_after q added) agree.chains ∙ chains_joined [] (sub_types old) added ∙ ap (chains_after []) (sym adds.types);
    references = all_known;
    known = found_groups key of enters;
  }

pub key_holds : (canonical : Bool) (group : List (SubType Index)) (key : Option (Vec ℕ Global)) → IsKeyOf canonical group key → IfSome key (λ k. k.items ≡ group_key group)
key_holds true group (Some key) is = is
key_holds true group None is = tt
key_holds false group key is = subst (λ q. IfSome q (λ k. k.items ≡ group_key group)) (sym is) tt

-- what a group that was not known is known as
pub adds_as : (old new : TypeTables) (group : List (SubType Index)) (number : ℕ) (canonical : Bool) (key : Option (Vec ℕ Global)) → Adds old new group number → IsKeyOf canonical group key
    → EntersKey old.known new.known key number → found_by old.known key ≡ None → IsSome old.known → AddsAs old new canonical group number
adds_as old new group number canonical key adds is enters unknown some =
    let known = facts old.known new.known canonical key is enters unknown some in
    record { adds = adds; unknown = known.0; known = known.1; others = known.2 } where
      Known : Option (List (List ℕ × ℕ)) → Option (List (List ℕ × ℕ)) → Bool → Type 0
      Known before after canonical = (canonical ≡ true → known_group before group ≡ None) × (canonical ≡ true → known_group after group ≡ Some number)
          × ((other : List (SubType Index)) → (canonical ≡ true → other ≢ group) → known_group after other ≡ known_group before other)

      facts : (before after : Option (List (List ℕ × ℕ))) (canonical : Bool) (key : Option (Vec ℕ Global)) → IsKeyOf canonical group key → EntersKey before after key number
          → found_by before key ≡ None → IsSome before → Known before after canonical
      facts (Some entries) (Some more) true (Some k) of enters none some = (
        (λ t. ap (found entries) (sym of) ∙ none),
        (λ t. ap (found more) (sym of) ∙ enters.0),
        (λ other differs. enters.1 (group_key other) (λ same. differs refl (groups_apart other group (same ∙ of)))),
      )
      facts (Some entries) None true (Some k) of enters none some = absurd enters
      facts (Some entries) after true None of enters none some = absurd of
      facts (Some entries) after false key of enters none some =
          let kept : after ≡ Some entries = subst (λ q. EntersKey (Some entries) after q number) of enters in
          ((λ t. absurd cc), (λ t. absurd cc), (λ other differs. ap (λ q. known_group q other) kept))
      facts None after canonical key of enters none some = absurd cc

pub nothing : {X : Type 0} (o : Option X) → ((x : X) → o ≡ Some x → ⊥) → o ≡ None
nothing None not = refl
nothing (Some x) not = absurd (not x refl)

pub range_of : (tables : TypeTables) (number : ℕ) (range : Range ℕ) → TablesAgree tables → slice_get tables.groups number ≡ Some range → (range.start ≤ range.end) × (range.end ≤ max_types)
range_of tables number range agree e =
    let within = group_within 0 tables.groups (length tables.types) number range agree.groups e in
    (range_in_order 0 tables.groups (length tables.types) number range agree.groups e, omega (arith, within, agree.count))

-- ---- what is known after interning

pub added_group : (old new : TypeTables) (group : List (SubType Index)) (number : ℕ) → Adds old new group number → number < length new.groups
added_group old new group number adds =
    omega (arith, adds.number_is, ap length adds.groups, length-append old.groups (range_after (length old.types) (length group) ∷ []))

pub known_group_is : (tables : TypeTables) (group : List (SubType Index)) (number : ℕ) → TablesAgree tables → known_group tables.known group ≡ Some number → number < length tables.groups
known_group_is tables group number agree e = go (known_group tables.known group) (agree.known group) e where
  go : (o : Option ℕ) → IfSome o (λ n. IsGroupAt tables n group) → o ≡ Some number → number < length tables.groups
  go None h is = absurd cc
  go (Some n) h is = let one : n ≡ number = cc in let within = slice_get_within tables.groups n _ h.at in omega (arith, within, one)

pub place_is_type : (tables : TypeTables) (number place id : ℕ) → TablesAgree tables → local_id tables number place ≡ Some id → id < length tables.types
place_is_type tables number place id agree e = go (slice_get tables.groups number) refl e where
  go : (o : Option (Range ℕ)) → slice_get tables.groups number ≡ o → place_in o place ≡ Some id → id < length tables.types
  go None is h = absurd cc
  go (Some range) is h =
      inside (nat_lt place (range.end - range.start)) refl h where
        inside : (b : Bool) → nat_lt place (range.end - range.start) ≡ b → (if b then Some (range.start + place) else None) ≡ Some id → id < length tables.types
        inside true t some =
            let one : range.start + place ≡ id = cc in
            let less = ltb-true place (range.end - range.start) t in
            let ends = group_within 0 tables.groups (length tables.types) number range agree.groups is in
            omega (arith, one, less, ends)
        inside false t some = absurd cc

pub found_is_known : (known : Option (List (List ℕ × ℕ))) (canonical : Bool) (group : List (SubType Index)) (key : Option (Vec ℕ Global)) (number : ℕ) → IsKeyOf canonical group key
    → found_by known key ≡ Some number → known_group known group ≡ Some number
found_is_known None canonical group key number is e = absurd cc
found_is_known (Some entries) true group (Some key) number is e = ap (found entries) (sym is) ∙ e
found_is_known (Some entries) true group None number is e = absurd is
found_is_known (Some entries) false group key number is e =
    let none : found_by (Some entries) None ≡ Some number = subst (λ q. found_by (Some entries) q ≡ Some number) is e in absurd cc
