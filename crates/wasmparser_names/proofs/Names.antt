-- Imports of known names and of new ones.
use Rattle.std.proofs.Common.{◌≡◌, ◌≢◌, ◌<◌, Bool, true, false, List, [], ◌∷◌, ◌++◌, ℕ, length, Option, Some, None, map, unwrap_or, refl, sym, ap, ap₂, ◌∙◌}
use Rattle.std.proofs.lemmas.Map.{NonePasses, none_passes_from_lookup}
use Rattle.std.proofs.lemmas.Map.Entries.{none_past_head}
use Rattle.std.proofs.lemmas.Map.Keys.{IsDistinct-tail}
use Rattle.std.specs.List.{list_any, IsDistinct}
use Rattle.std.specs.Map.{lookup, set_value, keys_of}
use Rattle.std.specs.Prelude.{bytes_eq, cond, ◌&&◌, ◌||◌, not, if◌then◌else◌}
use Rattle.indexmap.specs.IndexMap.{insert_entry}
use Rattle.wasm_validity.specs.ImportedItems.{Imported, have_same_names, with_import}
use Rattle.wasmparser_names.proofs.Keys.{other_parts, same_bytes, same_key, same_keys, same_parts}
use Rattle.wasmparser_names.specs.ImportNames.{NamedItems, imported, module_at, imports_of, imports_in, AreKept}
use Rattle.wasmparser_names.specs.declared.import_key.ImportKey.{ImportKey}
use Rattle.wasmparser_names.specs.declared.imported_items.ImportedItem.{ImportedItem}

module _ (new : Imported) where
  -- whether a list has an import of the same names
  abbrev has_names : List Imported → Bool
  has_names = list_any (have_same_names new)

  -- imports of other names are passed
  passed : (others rest : List Imported) → has_names others ≡ false → with_import (others ++ rest) new ≡ others ++ with_import rest new
  passed [] rest none = refl
  passed (x ∷ others) rest none = by (passed others rest) (have_same_names new x) none
    where
      by : (has_names others ≡ false → with_import (others ++ rest) new ≡ others ++ with_import rest new) → (b : Bool) → (b || has_names others) ≡ false
          → (if b && not (has_names (others ++ rest)) then x ∷ new ∷ others ++ rest else x ∷ with_import (others ++ rest) new) ≡ x ∷ others ++ with_import rest new
      by further true none = absurd cc
      by further false none = ap (λ l. x ∷ l) (further none)

  -- it goes after the last of the same names
  after_same : (origin name : List ℕ) (item : ImportedItem) (items : List ImportedItem) (rest : List Imported) → (bytes_eq new.origin origin && bytes_eq new.name name) ≡ true → has_names rest ≡ false
      → with_import (map (imported origin name) (item ∷ items) ++ rest) new ≡ map (imported origin name) (item ∷ items) ++ new ∷ rest
  after_same origin name item [] rest same none = rw (same, none) refl
  after_same origin name item (next ∷ items) rest same none = by (after_same origin name next items rest same none) (bytes_eq new.origin origin && bytes_eq new.name name) same
    where
      by : with_import (map (imported origin name) (next ∷ items) ++ rest) new ≡ map (imported origin name) (next ∷ items) ++ new ∷ rest → (b : Bool) → b ≡ true
          → (if b && not (b || has_names (map (imported origin name) items ++ rest)) then imported origin name item ∷ new ∷ map (imported origin name) (next ∷ items) ++ rest else imported origin name item ∷ with_import (map (imported origin name) (next ∷ items) ++ rest) new)
          ≡ map (imported origin name) (item ∷ next ∷ items) ++ new ∷ rest
      by further true same = ap (λ l. imported origin name item ∷ l) further
      by further false same = absurd cc

  after_all_same : (origin name : List ℕ) (items : List ImportedItem) (rest : List Imported) → items ≢ [] → (bytes_eq new.origin origin && bytes_eq new.name name) ≡ true → has_names rest ≡ false
      → with_import (map (imported origin name) items ++ rest) new ≡ map (imported origin name) items ++ new ∷ rest
  after_all_same origin name [] rest some same none = absurd (some refl)
  after_all_same origin name (item ∷ items) rest some same none = after_same origin name item items rest same none

  neither : (xs ys : List Imported) → has_names xs ≡ false → has_names ys ≡ false → has_names (xs ++ ys) ≡ false
  neither [] ys none others = others
  neither (x ∷ xs) ys none others = by (neither xs ys) (have_same_names new x) none
    where
      by : (has_names xs ≡ false → has_names ys ≡ false → has_names (xs ++ ys) ≡ false) → (b : Bool) → (b || has_names xs) ≡ false → (b || has_names (xs ++ ys)) ≡ false
      by further true none = absurd cc
      by further false none = further none others

  other_names : (origin name : List ℕ) (items : List ImportedItem) → (bytes_eq new.origin origin && bytes_eq new.name name) ≡ false → has_names (map (imported origin name) items) ≡ false
  other_names origin name [] other = refl
  other_names origin name (item ∷ items) other = rw other (other_names origin name items other)

one_more : (origin name : List ℕ) (item : ImportedItem) (items : List ImportedItem) (rest : List Imported)
    → map (imported origin name) (items ++ item ∷ []) ++ rest ≡ map (imported origin name) items ++ imported origin name item ∷ rest
one_more origin name item [] rest = refl
one_more origin name item (x ∷ items) rest = ap (λ l. imported origin name x ∷ l) (one_more origin name item items rest)

module _ (modules : List (List ℕ)) (apart : IsDistinct bytes_eq modules) (key : ImportKey) (known : key.origin < length modules) where
  abbrev for_key : ImportedItem → Imported
  for_key item = imported (module_at modules key.origin) key.name.now item

  -- an equal key has the same names
  for_same : (k : ImportKey) (item : ImportedItem) → same_key key k ≡ true → imported (module_at modules k.origin) k.name.now item ≡ for_key item
  for_same k item same =
      let p = same_parts key k same in
      sym (ap₂ (λ (origin : ℕ) name. imported (module_at modules origin) name item) p.0 p.1)

  -- the imports of other keys have other names
  others : (item : ImportedItem) (entries : List NamedItems) → NonePasses (same_key key) entries → AreKept modules entries → has_names (for_key item) (imports_in modules entries) ≡ false
  others item [] none kept = refl
  others item (e ∷ entries) none kept =
      neither (for_key item) (imports_of modules e) (imports_in modules entries) (other_names (for_key item) _ _ e.1 (other_parts modules apart key e.0 known kept.0.0 none.0)) (others item entries none.1 kept.1)

  -- an import of a new key goes last
  new_key : (item : ImportedItem) (entries : List NamedItems) → NonePasses (same_key key) entries → AreKept modules entries
      → imports_in modules (insert_entry same_key entries key (item ∷ [])) ≡ with_import (imports_in modules entries) (for_key item)
  new_key item [] none kept = refl
  new_key item (e ∷ entries) none kept =
      ap (λ b. imports_in modules (if b then (e.0, item ∷ []) ∷ entries else e ∷ insert_entry same_key entries key (item ∷ []))) none.0 ∙ ap (λ l. imports_of modules e ++ l) (new_key item entries none.1 kept.1)
      ∙ sym (passed (for_key item) (imports_of modules e) (imports_in modules entries) (other_names (for_key item) _ _ e.1 (other_parts modules apart key e.0 known kept.0.0 none.0)))

  new_key_kept : (items : List ImportedItem) (entries : List NamedItems) → items ≢ [] → AreKept modules entries → AreKept modules (insert_entry same_key entries key items)
  new_key_kept items [] some kept = ((known, some), tt)
  new_key_kept items (e ∷ entries) some kept = by (same_key key e.0) (new_key_kept items entries some kept.1)
    where
      by : (b : Bool) → AreKept modules (insert_entry same_key entries key items) → AreKept modules (if b then (e.0, items) ∷ entries else e ∷ insert_entry same_key entries key items)
      by true further = ((kept.0.0, some), kept.1)
      by false further = (kept.0, further)

  -- an import of the first key goes after the others of this key
  first_key : (item : ImportedItem) (e : NamedItems) (entries : List NamedItems)
      → NonePasses (same_key key) entries → AreKept modules (e ∷ entries) → same_key key e.0 ≡ true
      → imports_of modules (e.0, e.1 ++ item ∷ []) ++ imports_in modules entries ≡ with_import (imports_of modules e ++ imports_in modules entries) (for_key item)
  first_key item e entries none kept same =
      one_more _ _ item e.1 (imports_in modules entries)
      ∙ ap (λ i. imports_of modules e ++ i ∷ imports_in modules entries) (for_same e.0 item same)
      ∙ sym (after_all_same (for_key item) _ _ e.1 (imports_in modules entries) kept.0.1 (same_names e.0 same) (others item entries none kept.1))
    where
      same_names : (k : ImportKey) → same_key key k ≡ true → (bytes_eq (module_at modules key.origin) (module_at modules k.origin) && bytes_eq key.name.now k.name.now) ≡ true
      same_names k same =
          let p = same_parts key k same in
          ap₂ (λ (origin : ℕ) name. bytes_eq (module_at modules key.origin) (module_at modules origin) && bytes_eq key.name.now name) (sym p.0) (sym p.1) ∙ same_bytes (module_at modules key.origin) key.name.now

  known_key : (item : ImportedItem) (old : List ImportedItem) (entries : List NamedItems)
      → IsDistinct same_key (keys_of entries) → AreKept modules entries → Some old ≡ lookup (same_key key) entries
      → imports_in modules (set_value (same_key key) entries (old ++ item ∷ [])) ≡ with_import (imports_in modules entries) (for_key item)
  known_key item old [] distinct kept found = absurd cc
  known_key item old (e ∷ entries) distinct kept found = by (known_key item old entries (IsDistinct-tail _ _ _ distinct) kept.1) (same_key key e.0) refl found
    where
      by : (Some old ≡ lookup (same_key key) entries → imports_in modules (set_value (same_key key) entries (old ++ item ∷ [])) ≡ with_import (imports_in modules entries) (for_key item))
          → (b : Bool) → same_key key e.0 ≡ b → Some old ≡ cond b (Some e.1) (lookup (same_key key) entries)
          → imports_in modules (cond b ((e.0, old ++ item ∷ []) ∷ entries) (e ∷ set_value (same_key key) entries (old ++ item ∷ []))) ≡ with_import (imports_in modules (e ∷ entries)) (for_key item)
      by further true same found =
          ap (λ (o : Option (List ImportedItem)). imports_of modules (e.0, unwrap_or o e.1 ++ item ∷ []) ++ imports_in modules entries) found
          ∙ first_key item e entries (none_past_head same_keys key e entries distinct same) kept same
      by further false other found =
          ap (λ l. imports_of modules e ++ l) (further found)
          ∙ sym (passed (for_key item) (imports_of modules e) (imports_in modules entries) (other_names (for_key item) _ _ e.1 (other_parts modules apart key e.0 known kept.0.0 other)))

module _ (modules : List (List ℕ)) (test : ImportKey → Bool) where
  -- items that come to a key leave all keys with some
  known_key_kept : (items : List ImportedItem) (entries : List NamedItems) → items ≢ [] → AreKept modules entries → AreKept modules (set_value test entries items)
  known_key_kept items [] some kept = tt
  known_key_kept items (e ∷ entries) some kept = by (test e.0) (known_key_kept items entries some kept.1)
    where
      by : (b : Bool) → AreKept modules (set_value test entries items) → AreKept modules (cond b ((e.0, items) ∷ entries) (e ∷ set_value test entries items))
      by true further = ((kept.0.0, some), kept.1)
      by false further = (kept.0, further)

  -- nothing changes where the items of a key don't
  same_items : (old : List ImportedItem) (entries : List NamedItems) → Some old ≡ lookup test entries → set_value test entries old ≡ entries
  same_items old [] found = absurd cc
  same_items old (e ∷ entries) found = by (same_items old entries) (test e.0) found
    where
      by : (Some old ≡ lookup test entries → set_value test entries old ≡ entries) → (b : Bool) → Some old ≡ cond b (Some e.1) (lookup test entries)
          → cond b ((e.0, old) ∷ entries) (e ∷ set_value test entries old) ≡ e ∷ entries
      by further true found = ap (λ (o : Option (List ImportedItem)). (e.0, unwrap_or o e.1) ∷ entries) found
      by further false found = ap (λ l. e ∷ l) (further found)

-- ---- what `push` leaves

-- the items of a key that are as before
pub unchanged : (test : ImportKey → Bool) (old items : List ImportedItem) (entries new : List NamedItems) → Some old ≡ lookup test entries → items ≡ old → new ≡ set_value test entries items → new ≡ entries
unchanged test old items entries new found same writes = writes ∙ ap (set_value test entries) same ∙ same_items [] test old entries found

module _ (modules : List (List ℕ)) (apart : IsDistinct bytes_eq modules) (key : ImportKey) (known : key.origin < length modules) (item : ImportedItem) where
  pub pushed : (old items : List ImportedItem) (entries new : List NamedItems) → IsDistinct same_key (keys_of entries) → AreKept modules entries → Some old ≡ lookup (same_key key) entries
      → items ≡ old ++ item ∷ [] → new ≡ set_value (same_key key) entries items
      → imports_in modules new ≡ with_import (imports_in modules entries) (imported (module_at modules key.origin) key.name.now item)
  pushed old items entries new distinct kept found is writes =
      ap (imports_in modules) (writes ∙ ap (set_value (same_key key) entries) is) ∙ known_key modules apart key known item old entries distinct kept found

  pub inserted : (entries new : List NamedItems) → AreKept modules entries → lookup (same_key key) entries ≡ None → new ≡ insert_entry same_key entries key (item ∷ [])
      → imports_in modules new ≡ with_import (imports_in modules entries) (imported (module_at modules key.origin) key.name.now item)
  inserted entries new kept absent inserts =
      ap (imports_in modules) inserts ∙ new_key modules apart key known item entries (none_passes_from_lookup _ entries absent) kept

module _ (modules : List (List ℕ)) (item : ImportedItem) where
  pub pushed_kept : (test : ImportKey → Bool) (old items : List ImportedItem) (entries new : List NamedItems) → AreKept modules entries → items ≡ old ++ item ∷ [] → new ≡ set_value test entries items → AreKept modules new
  pushed_kept test old items entries new kept is writes = rw writes (known_key_kept modules test items entries (λ none. not_empty old (sym is ∙ none)) kept)
    where
      not_empty : (xs : List ImportedItem) → xs ++ item ∷ [] ≢ []
      not_empty [] none = absurd cc
      not_empty (x ∷ xs) none = absurd cc

  pub inserted_kept : (apart : IsDistinct bytes_eq modules) (key : ImportKey) → key.origin < length modules → (entries new : List NamedItems) → AreKept modules entries → new ≡ insert_entry same_key entries key (item ∷ []) → AreKept modules new
  inserted_kept apart key known entries new kept inserts = rw inserts (new_key_kept modules apart key known (item ∷ []) entries (λ none. absurd (cons_nil none)) kept)
    where
      cons_nil : item ∷ [] ≢ []
      cons_nil none = absurd cc
