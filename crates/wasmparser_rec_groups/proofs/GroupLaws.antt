-- Rules on the types of a group, as far as a loop has come.
use Rattle.std.proofs.Common.{◌≡◌, ℕ, ◌+◌, ◌<◌, ◌≤◌, Some, slice_get, length, subst, sym, refl, arith, nat_lt, Bool, true, false, ◌⊎◌, inl, inr}
use Rattle.std.proofs.lemmas.Bool.{ltb-false, ltb-true}
use Rattle.std.specs.declared.ops.Range.{Range}
use Rattle.wasmparser_type_list.specs.TypeTables.{TablesAgree, TypeTables}
use Rattle.wasmparser_type_list.proofs.Agreement.{group_within}
use Rattle.wasmparser_rec_groups.specs.Rules.{IsIn, IsWithinDepth, KeepsRules, KeepsRulesAndDepth}

-- the ids from the first number up to the second one have a property
abbrev pub AllTo : (ℕ → Type 0) → ℕ → ℕ → Type 0
AllTo Holds start to = (id : ℕ) → start ≤ id → id < to → Holds id

pub none_yet : (Holds : ℕ → Type 0) (start : ℕ) → AllTo Holds start start
none_yet Holds start id after before = absurd (omega (arith, after, before))

last_or_before : (id to : ℕ) → id < to + 1 → (id < to) ⊎ (id ≡ to)
last_or_before id to h = go (nat_lt id to) refl where
  go : (b : Bool) → nat_lt id to ≡ b → (id < to) ⊎ (id ≡ to)
  go true less = inl (ltb-true id to less)
  go false more = inr (let far = ltb-false id to more in omega (arith, far, h))

pub one_more : (Holds : ℕ → Type 0) (start to : ℕ) → AllTo Holds start to → Holds to → AllTo Holds start (to + 1)
one_more Holds start to all last id after before = elim (last_or_before id to before) [
  | inl less ↦ all id after less
  | inr is ↦ subst Holds (sym is) last
]

same_range : (tables : TypeTables) (group : ℕ) (r s : Range ℕ) → slice_get tables.groups group ≡ Some r → slice_get tables.groups group ≡ Some s → r ≡ s
same_range tables group r s a b = cc

-- a loop that has come past the end of a group has gone over all of it
pub whole : (Holds : ℕ → Type 0) (range : Range ℕ) (start to : ℕ) → range.start ≡ start → range.end ≤ to → AllTo Holds start to → AllTo Holds range.start range.end
whole Holds range start to first last all id after before = all id (omega (arith, after, first)) (omega (arith, before, last))

pub whole_group : (tables : TypeTables) (group : ℕ) (range : Range ℕ) → slice_get tables.groups group ≡ Some range → AllTo (KeepsRules tables) range.start range.end
    → AllTo (IsWithinDepth tables) range.start range.end → KeepsRulesAndDepth tables group
whole_group tables group range at rules depth = record {
  rules = λ id is_in. let ends = bounds is_in in rules id ends.0 ends.1;
  depth = λ id is_in. let ends = bounds is_in in depth id ends.0 ends.1;
} where
  bounds : {id : ℕ} → IsIn tables group id → (range.start ≤ id) × (id < range.end)
  bounds {id} is_in =
      let one : is_in.range ≡ range = same_range tables group is_in.range range is_in.at at in
      (subst (λ r. r.start ≤ id) one is_in.after, subst (λ r. id < r.end) one is_in.before)

pub known_id : (tables : TypeTables) (group : ℕ) (range : Range ℕ) (id : ℕ) → TablesAgree tables → slice_get tables.groups group ≡ Some range → id < range.end → id < length tables.types
known_id tables group range id agree at before = let ends = group_within 0 tables.groups (length tables.types) group range agree.groups at in omega (arith, ends, before)
