-- A list that was passed over is read again by the group's reader.
use Rattle.std.proofs.Common.{◌≡◌, ◌≤◌, ◌<◌, ◌-◌, ℕ, suc, Bool, true, false, List, [], ◌∷◌, length, Option, Some, None, refl, sym, ap, ◌∙◌, inl, inr, arith}
use Rattle.std.proofs.lemmas.Bool.{cases_lt, lt-ltb, le-ltb}
use Rattle.std.specs.List.{AllByRecursion, Any}
use Rattle.wasm_core_read.specs.Input.{Input, end}
use Rattle.wasm_core_read.specs.Laws.{ReadsExactly}
use Rattle.wasm_core_read.specs.PartReading.{import_item_at}
use Rattle.wasm_core_read.specs.Reading.{◌>>=◌, ReadingOf, unsigned_at, seen_at, pair_at, name_at, filled}
use Rattle.wasm_core_read.specs.TypeReading.{list_at, external_type_at, items_at}
use Rattle.wasm_core_read.proofs.ExternalForms.{reads_external_type}
use Rattle.wasm_core_read.proofs.Forms.{some_is, reads_name}
use Rattle.wasm_core_read.proofs.ListForms.{reads_list}
use Rattle.wasm_core_read.proofs.WayForms.{reads_seen, reads_pair}
use Rattle.wasm_spec.specs.Bytes.{AreBytes, IsPair, IsList, IsName}
use Rattle.wasm_spec.specs.ModuleParts.{IsImportItem}
use Rattle.wasm_spec.specs.Syntax.{ImportItem}
use Rattle.wasm_spec.specs.TypeGrammar.{IsExternalType}
use Rattle.wasmparser_types.specs.Index.{packable}
use Rattle.wasmparser_readers.specs.Answers.{HasLargeIndex}
use Rattle.wasmparser_readers.specs.Passing.{rest_of, passed}
use Rattle.wasmparser_readers.specs.Sections.{Limited, limited_of, left_items}
use Rattle.wasmparser_readers.proofs.PassingLaws.{reads_again}
use Rattle.wasmparser_readers.proofs.SectionLaws.{section_begins}
use Rattle.wasmparser_entries.specs.ImportGroups.{all_of, items_of, AreRead}
use Rattle.wasmparser_entries.specs.ImportItems.{are_packable, items_refs}

reads_import_item : ReadsExactly IsImportItem import_item_at
unfolding import_item_at
reads_import_item =
    reads_seen (IsPair IsName IsExternalType) (pair_at name_at external_type_at) (λ x. record { name = x.0; type = x.1 }) (λ item. (item.name, item.type)) (λ x. refl) (λ item. refl)
    (reads_pair IsName name_at IsExternalType external_type_at reads_name reads_external_type)

-- ---- a list that was passed over

group_is : {A : Type 0} (IsA : List ℕ → A → Type 0) (a_at : ReadingOf A) → ReadsExactly IsA a_at → (old : Input) (rest : List ℕ) (group : Limited) → AreBytes old.rest → rest_of (list_at a_at old.rest) ≡ Some rest
    → limited_of (passed old (length rest)) ≡ Some group → list_at a_at old.rest ≡ Some (items_of a_at group, rest)
group_is {A = A} IsA a_at exact old rest group are e f =
    let r = reads_again (IsList IsA) (list_at a_at) (reads_list IsA a_at exact) [] old.rest rest are e in
    let begins : left_items (λ features. a_at) group.left ≡ filled (list_at a_at (passed old (length rest)).rest) = section_begins (λ features. a_at) (passed old (length rest)) group f in
    r.0 ∙ ap (λ (xs : List A). Some (xs, rest)) (sym (ap all_of (begins ∙ ap filled r.1)))

group_reads : {A : Type 0} (IsA : List ℕ → A → Type 0) (a_at : ReadingOf A) → ReadsExactly IsA a_at → (old : Input) (rest : List ℕ) (group : Limited) → AreBytes old.rest → rest_of (list_at a_at old.rest) ≡ Some rest
    → limited_of (passed old (length rest)) ≡ Some group → AreRead a_at group
group_reads {A = A} IsA a_at exact old rest group are e f =
    let r = reads_again (IsList IsA) (list_at a_at) (reads_list IsA a_at exact) [] old.rest rest are e in
    let begins : left_items (λ features. a_at) group.left ≡ filled (list_at a_at (passed old (length rest)).rest) = section_begins (λ features. a_at) (passed old (length rest)) group f in
    let read = begins ∙ ap filled r.1 in
    read ∙ ap (λ (xs : List A). Some xs) (sym (ap all_of read))

not_counted : {A : Type 0} (a_at : ReadingOf A) (i : Input) → limited_of i ≡ None → list_at a_at i.rest ≡ None
unfolding limited_of list_at
not_counted {A = A} a_at i e = by_count (unsigned_at 32 i.rest) e
  where
    given : ℕ × List ℕ → Option Limited
    given n = Some (record { start = i.position; left = record { count = n.0; input = record i { rest = n.1; position = end i - length n.1 } } })

    by_count : (read : Option (ℕ × List ℕ)) → (read >>= λ n. given n) ≡ None → (read >>= λ n. items_at a_at n.0 n.1) ≡ None
    by_count None h = refl
    by_count (Some n) h = absurd cc

group_opens : {A : Type 0} (IsA : List ℕ → A → Type 0) (a_at : ReadingOf A) → ReadsExactly IsA a_at → (old : Input) (rest : List ℕ) → AreBytes old.rest → rest_of (list_at a_at old.rest) ≡ Some rest → ¬ (limited_of (passed old (length rest)) ≡ None)
group_opens IsA a_at exact old rest are e f =
    let r = reads_again (IsList IsA) (list_at a_at) (reads_list IsA a_at exact) [] old.rest rest are e in
    let unread = not_counted a_at (passed old (length rest)) f in
    let no = sym unread ∙ r.1 in
    absurd cc

-- ---- names

pub names_passed : (old : Input) (rest : List ℕ) (group : Limited) → AreBytes old.rest → rest_of (list_at name_at old.rest) ≡ Some rest → limited_of (passed old (length rest)) ≡ Some group
    → list_at name_at old.rest ≡ Some (items_of name_at group, rest)
names_passed old rest group are e f = group_is IsName name_at reads_name old rest group are e f

pub names_read : (old : Input) (rest : List ℕ) (group : Limited) → AreBytes old.rest → rest_of (list_at name_at old.rest) ≡ Some rest → limited_of (passed old (length rest)) ≡ Some group → AreRead name_at group
names_read old rest group are e f = group_reads IsName name_at reads_name old rest group are e f

pub names_open : (old : Input) (rest : List ℕ) → AreBytes old.rest → rest_of (list_at name_at old.rest) ≡ Some rest → ¬ (limited_of (passed old (length rest)) ≡ None)
names_open old rest are e = group_opens IsName name_at reads_name old rest are e

-- ---- items

packable_all : (ns : List ℕ) → are_packable ns ≡ true → AllByRecursion (λ n. n < packable) ns
packable_all [] e = tt
packable_all (n ∷ ns) e =
    elim (cases_lt n packable) [
      | inl lt ↦ (lt, packable_all ns (rw (lt-ltb n packable lt) at e))
      | inr le ↦ let said : false ≡ true = rw (le-ltb n packable le) at e in absurd cc
    ]

any_large : (ns : List ℕ) → are_packable ns ≡ false → Any (λ n. packable ≤ n) ns
any_large [] e = absurd cc
any_large (n ∷ ns) e =
    elim (cases_lt n packable) [
      | inl lt ↦ let r = any_large ns (rw (lt-ltb n packable lt) at e) in (suc r.0, r.1, omega (arith, r.2), r.3, r.4)
      | inr le ↦ (0, n, omega arith, refl, le)
    ]

abbrev checked_items : Option (List ImportItem × List ℕ) → Option (Bool × List ℕ)
checked_items read = read >>= λ items. Some (are_packable (items_refs items.0), items.1)

checked_rest : (read : Option (List ImportItem × List ℕ)) (b : Bool) (rest : List ℕ) → checked_items read ≡ Some (b, rest) → rest_of read ≡ Some rest
checked_rest None b rest e = absurd cc
checked_rest (Some read) b rest e = ap (λ (p : Bool × List ℕ). Some p.1) (some_is (are_packable (items_refs read.0), read.1) (b, rest) e)

checked_flag : (read : Option (List ImportItem × List ℕ)) (xs : List ImportItem) (b : Bool) (rest : List ℕ) → read ≡ Some (xs, rest) → checked_items read ≡ Some (b, rest) → are_packable (items_refs xs) ≡ b
checked_flag read xs b rest is e = ap (λ (p : Bool × List ℕ). p.0) (some_is (are_packable (items_refs xs), rest) (b, rest) (sym (ap checked_items is) ∙ e))

pub items_passed : (old : Input) (rest : List ℕ) (group : Limited) (b : Bool) → AreBytes old.rest → seen_at (λ items. are_packable (items_refs items)) (list_at import_item_at) old.rest ≡ Some (b, rest) → b ≡ true → limited_of (passed old (length rest)) ≡ Some group
    → (list_at import_item_at old.rest ≡ Some (items_of import_item_at group, rest)) × AllByRecursion (λ n. n < packable) (items_refs (items_of import_item_at group))
items_passed old rest group b are e told f =
    let is = group_is IsImportItem import_item_at reads_import_item old rest group are (checked_rest (list_at import_item_at old.rest) b rest e) f in
    (is, packable_all (items_refs (items_of import_item_at group)) (checked_flag (list_at import_item_at old.rest) (items_of import_item_at group) b rest is e ∙ told))

pub items_read : (old : Input) (rest : List ℕ) (group : Limited) (b : Bool) → AreBytes old.rest → seen_at (λ items. are_packable (items_refs items)) (list_at import_item_at) old.rest ≡ Some (b, rest) → limited_of (passed old (length rest)) ≡ Some group
    → AreRead import_item_at group
items_read old rest group b are e f = group_reads IsImportItem import_item_at reads_import_item old rest group are (checked_rest (list_at import_item_at old.rest) b rest e) f

pub items_open : (old : Input) (rest : List ℕ) (b : Bool) → AreBytes old.rest → seen_at (λ items. are_packable (items_refs items)) (list_at import_item_at) old.rest ≡ Some (b, rest) → ¬ (limited_of (passed old (length rest)) ≡ None)
items_open old rest b are e = group_opens IsImportItem import_item_at reads_import_item old rest are (checked_rest (list_at import_item_at old.rest) b rest e)

pub items_large : (bytes rest : List ℕ) (b : Bool) → seen_at (λ items. are_packable (items_refs items)) (list_at import_item_at) bytes ≡ Some (b, rest) → b ≡ false → HasLargeIndex items_refs (list_at import_item_at bytes)
items_large bytes rest b e told = by_read (list_at import_item_at bytes) e
  where
    by_read : (read : Option (List ImportItem × List ℕ)) → checked_items read ≡ Some (b, rest) → HasLargeIndex items_refs read
    by_read None h = absurd cc
    by_read (Some read) h = any_large (items_refs read.0) (ap (λ (p : Bool × List ℕ). p.0) (some_is (are_packable (items_refs read.0), read.1) (b, rest) h) ∙ told)

pub items_unread : (bytes : List ℕ) → seen_at (λ items. are_packable (items_refs items)) (list_at import_item_at) bytes ≡ None → list_at import_item_at bytes ≡ None
items_unread bytes e = by_read (list_at import_item_at bytes) e
  where
    by_read : (read : Option (List ImportItem × List ℕ)) → checked_items read ≡ None → read ≡ None
    by_read None h = refl
    by_read (Some read) h = absurd cc

pub ruleset name_groups = (names_passed, names_read, names_open)

pub ruleset item_groups = (items_passed, items_read, items_open, items_large, items_unread)
