-- Exports as they are kept, and names among them.
use Rattle.std.proofs.Common.{◌≡◌, ◌<◌, ◌≤◌, ◌+◌, ◌-◌, ◌++◌, ◌∷◌, [], ℕ, zero, suc, Bool, true, false, List, None, Some, length, length-append, drop, take, slice_get, slice_index_or, refl, sym, ap, ap₂, subst, ◌∙◌, arith, rules}
use Rattle.std.proofs.Math.Seq.{drop-append_seam, take-length}
use Rattle.std.proofs.lemmas.List.{drop-append-le, drop_more, length-drop, take-append-le}
use Rattle.std.proofs.lemmas.Map.Text.{is_eq-slice_cmp}
use Rattle.std.specs.BTreeMap.Comparable.{le_lt_trans}
use Rattle.std.specs.Cmp.{IsTotalOrder}
use Rattle.std.specs.Cmp.Lexicographic.{bytes_decides, nat_list_cmp_total, slice_cmp}
use Rattle.std.specs.Ordering.{is_eq, is_le, is_lt, nat_cmp}
use Rattle.std.specs.declared.cmp.Ordering.{Ordering}
use Rattle.std.specs.declared.cmp.Ordering.TheVariants.{Equal, Greater, Less}
use Rattle.std.specs.List.{AllByRecursion, list_any}
use Rattle.std.specs.Prelude.{bytes_eq, cond, nat_eq, not, unwrap_or, IsTrue, ◌||◌}
use Rattle.std.specs.Str.{IsUtf8}
use Rattle.wasm_spec.specs.Syntax as spec
use Rattle.wasmparser_readers.specs.Exports.{external_kind}
use Rattle.wasmparser_names.specs.ExportNames.{is_exported}
use Rattle.wasmparser_names.specs.KeptExports.{AreHashed, AreNamed, EndInLast, IsAfter, IsNamed, hash_of, listed, name_in, start_at}
use Rattle.wasmparser_names.specs.declared.export_names.KeptExport.{KeptExport}
use Rattle.wasmparser_names.specs.declared.name_hasher.NameHasher.{NameHasher}

-- ---- an export more

module _ (names name : List ℕ) where
  same_name : (start : ℕ) (e : KeptExport) → IsNamed names start e → name_in (names ++ name) start e ≡ name_in names start e
  same_name start e is =
      ap (take (e.end - start)) (drop-append-le start names name (omega (arith, is.ordered, is.within)))
      ∙ take-append-le (e.end - start) (drop start names) name (omega (arith, length-drop start names, is.ordered, is.within))

  last_name : (start : ℕ) (e : KeptExport) → start ≡ length names → e.end ≡ length (names ++ name) → name_in (names ++ name) start e ≡ name
  last_name start e starts ends =
      let size : e.end - start ≡ length name = omega (arith, starts, ends, length-append names name) in
      ap₂ (λ (n m : ℕ). take n (drop m (names ++ name))) size starts ∙ ap (take (length name)) (drop-append_seam names name) ∙ take-length name

  pub pushed : (start : ℕ) (exports : List KeptExport) (e : KeptExport) → e.end ≡ length (names ++ name) → AreNamed names start exports
      → listed (names ++ name) start (exports ++ e ∷ []) ≡ listed names start exports ++ record { name = name; kind = external_kind e.kind; index = e.index } ∷ []
  pushed start [] e ends all = ap (λ name. record { name = name; kind = external_kind e.kind; index = e.index } ∷ []) (last_name start e all ends)
  pushed start (x ∷ exports) e ends all =
      ap₂ (λ name l. record { name = name; kind = external_kind x.kind; index = x.index } ∷ l) (same_name start x all.0) (pushed x.end exports e ends all.1)

  pub pushed_named : (start : ℕ) (exports : List KeptExport) (e : KeptExport) → e.end ≡ length (names ++ name) → IsUtf8 name → AreNamed names start exports
      → AreNamed (names ++ name) start (exports ++ e ∷ [])
  pushed_named start [] e ends text all =
      (record { ordered = omega (arith, all, ends, length-append names name); within = omega (arith, ends); text = subst IsUtf8 (sym (last_name start e all ends)) text }, ends)
  pushed_named start (x ∷ exports) e ends text all =
      (record { ordered = all.0.ordered; within = omega (arith, length-append names name, all.0.within); text = subst IsUtf8 (sym (same_name start x all.0)) all.0.text }, pushed_named x.end exports e ends text all.1)

-- ---- the export at a place

pub is_zero : (n : ℕ) → (1 ≤ n → ⊥) → n ≡ 0
is_zero zero none = refl
is_zero (suc n) none = absurd (none (omega arith))

-- a name begins where that before ends
pub end_before : (start : ℕ) (exports : List KeptExport) (place : ℕ) (d : KeptExport) → place < length exports → start_at start exports (suc place) ≡ (slice_index_or exports place d).end
end_before start [] place d few = absurd (omega (arith, few))
end_before start (x ∷ exports) zero d few = refl
end_before start (x ∷ exports) (suc place) d few = end_before x.end exports place d (omega (arith, few))

module _ (names : List ℕ) where
  pub listed_len : (start : ℕ) (exports : List KeptExport) → length (listed names start exports) ≡ length exports
  listed_len start [] = refl
  listed_len start (x ∷ exports) = ap suc (listed_len x.end exports)

  pub none_there : (start : ℕ) (exports : List KeptExport) (place : ℕ) → length exports ≤ place → None ≡ slice_get (listed names start exports) place
  none_there start [] place past = refl
  none_there start (x ∷ exports) zero past = absurd (omega (arith, past))
  none_there start (x ∷ exports) (suc place) past = none_there x.end exports place (omega (arith, past))

  pub named_there : (start : ℕ) (exports : List KeptExport) (place : ℕ) (d : KeptExport) → place < length exports → AreNamed names start exports
      → IsNamed names (start_at start exports place) (slice_index_or exports place d)
  named_there start [] place d few all = absurd (omega (arith, few))
  named_there start (x ∷ exports) zero d few all = all.0
  named_there start (x ∷ exports) (suc place) d few all = named_there x.end exports place d (omega (arith, few)) all.1

  pub listed_there : (start : ℕ) (exports : List KeptExport) (place : ℕ) (d : KeptExport) → place < length exports
      → slice_get (listed names start exports) place
      ≡ Some (record { name = name_in names (start_at start exports place) (slice_index_or exports place d); kind = external_kind (slice_index_or exports place d).kind; index = (slice_index_or exports place d).index })
  listed_there start [] place d few = absurd (omega (arith, few))
  listed_there start (x ∷ exports) zero d few = refl
  listed_there start (x ∷ exports) (suc place) d few = listed_there x.end exports place d (omega (arith, few))

-- ---- hashes

either_true : (a b : Bool) → a ≡ true → (a || b) ≡ true
either_true true b is = refl
either_true false b is = absurd cc

-- a name whose hash isn't there is new
none_named : (hasher : NameHasher) (hashes name : List ℕ) (exports : List spec.Export) → AreHashed hasher hashes exports → list_any (nat_eq (hash_of hasher name)) hashes ≡ false
    → is_exported name exports ≡ false
none_named hasher hashes name [] all none = refl
none_named hasher hashes name (e ∷ exports) all none = by (none_named hasher hashes name exports all.1 none) (bytes_eq name e.name) refl
  where
    by : is_exported name exports ≡ false → (b : Bool) → bytes_eq name e.name ≡ b → (b || is_exported name exports) ≡ false
    by others true same =
        let there = subst (λ name. list_any (nat_eq (hash_of hasher name)) hashes ≡ true) (sym ((bytes_decides name e.name).0 same)) all.0 in
        let no = sym there ∙ none in absurd cc
    by others false other = others

pub free_name : (hasher : NameHasher) (hashes name : List ℕ) (exports : List spec.Export) (hash : ℕ) (new : Bool) → AreHashed hasher hashes exports
    → hash ≡ hash_of hasher name → new ≡ not (list_any (nat_eq hash) hashes) → new ≡ true → true ≡ not (is_exported name exports)
free_name hasher hashes name exports hash new all is tells new_one =
    let none = other (list_any (nat_eq hash) hashes) (sym tells ∙ new_one) in
    let so = ap (λ (n : ℕ). list_any (nat_eq n) hashes) (sym is) ∙ none in
    rw (none_named hasher hashes name exports all so) refl
  where
    other : (b : Bool) → not b ≡ true → b ≡ false
    other true is = absurd cc
    other false is = refl

-- ---- a look at each name

module _ (names : List ℕ) (exports : List KeptExport) (i start : ℕ) (d : KeptExport) (few : i < length exports) where
  abbrev this : KeptExport
  this = slice_index_or exports i d

  pub this_named : AreNamed names start (drop i exports) → IsNamed names start this
  this_named all = (subst (AreNamed names start) (drop_more exports i d few) all).0

  pub others_named : AreNamed names start (drop i exports) → AreNamed names this.end (drop (i + 1) exports)
  others_named all = (subst (AreNamed names start) (drop_more exports i d few) all).1

module _ (names name : List ℕ) (exports : List KeptExport) (i start : ℕ) (d : KeptExport) (few : i < length exports) where
  abbrev next : KeptExport
  next = slice_index_or exports i d

  left_after : is_exported name (listed names start (drop i exports)) ≡ (bytes_eq name (name_in names start next) || is_exported name (listed names next.end (drop (i + 1) exports)))
  left_after = ap (λ l. is_exported name (listed names start l)) (drop_more exports i d few)

  pub this_has : is_exported name (listed names start (drop i exports)) ≡ is_exported name (listed names 0 exports) → bytes_eq name (name_in names start next) ≡ true
      → true ≡ is_exported name (listed names 0 exports)
  this_has left same = sym (either_true _ (is_exported name (listed names next.end (drop (i + 1) exports))) same) ∙ sym left_after ∙ left

  pub others_left : is_exported name (listed names start (drop i exports)) ≡ is_exported name (listed names 0 exports) → bytes_eq name (name_in names start next) ≡ false
      → is_exported name (listed names next.end (drop (i + 1) exports)) ≡ is_exported name (listed names 0 exports)
  others_left left other = sym (left_after ∙ ap (λ b. b || is_exported name (listed names next.end (drop (i + 1) exports))) other) ∙ left

-- ---- hashes of all names

abbrev Holds : List ℕ → List ℕ → Type 0
Holds more hashes = (hash : ℕ) → list_any (nat_eq hash) hashes ≡ true → list_any (nat_eq hash) more ≡ true

-- where the hashes of the others are there too, those of all are
abbrev pub Suffices : NameHasher → List ℕ → List spec.Export → List spec.Export → Type 0
Suffices hasher hashes others exports = (more : List ℕ) → Holds more hashes → AreHashed hasher more others → AreHashed hasher more exports

-- some hashes, and one more
abbrev pub Adds : List ℕ → ℕ → List ℕ → Type 0
Adds old hash new = (other : ℕ) → list_any (nat_eq other) new ≡ cond (nat_eq hash other) true (list_any (nat_eq other) old)

pub holds_others : (old : List ℕ) (hash : ℕ) (new : List ℕ) → Adds old hash new → Holds new old
holds_others old hash new adds other there = by (nat_eq hash other) (adds other)
  where
    by : (b : Bool) → list_any (nat_eq other) new ≡ cond b true (list_any (nat_eq other) old) → list_any (nat_eq other) new ≡ true
    by true is = is
    by false is = is ∙ there

-- what is hashed among some hashes is among more
pub still_hashed : (hasher : NameHasher) (more hashes : List ℕ) (exports : List spec.Export) → Holds more hashes → AreHashed hasher hashes exports → AreHashed hasher more exports
still_hashed hasher more hashes [] holds all = tt
still_hashed hasher more hashes (e ∷ exports) holds all = (holds (hash_of hasher e.name) all.0, still_hashed hasher more hashes exports holds all.1)

module _ (hasher : NameHasher) (names : List ℕ) (exports : List KeptExport) (i start : ℕ) (d : KeptExport) (few : i < length exports) where
  abbrev there : KeptExport
  there = slice_index_or exports i d

  pub others_suffice : (old new : List ℕ) (hash : ℕ) → Adds old hash new → list_any (nat_eq hash) new ≡ true → hash ≡ hash_of hasher (name_in names start there)
      → Suffices hasher old (listed names start (drop i exports)) (listed names 0 exports) → Suffices hasher new (listed names there.end (drop (i + 1) exports)) (listed names 0 exports)
  others_suffice old new hash adds has hashes suffices more holds others =
      suffices more (λ other among. holds other (holds_others old hash new adds other among))
      (subst (λ l. AreHashed hasher more (listed names start l)) (sym (drop_more exports i d few))
      (subst (λ (h : ℕ). list_any (nat_eq h) more ≡ true) hashes (holds hash has), others))

pub suffice : (hasher : NameHasher) (hashes : List ℕ) (exports : List spec.Export) → Suffices hasher hashes [] exports → AreHashed hasher hashes exports
suffice hasher hashes exports suffices = suffices hashes (λ hash is. is) tt

-- ---- names in order

order : IsTotalOrder (slice_cmp nat_cmp)
order = nat_list_cmp_total

not_same : (name other : List ℕ) → slice_cmp nat_cmp other name ≡ Less → bytes_eq name other ≡ false
not_same name other less = by (bytes_eq name other) refl
  where
    by : (b : Bool) → bytes_eq name other ≡ b → b ≡ false
    by true same =
        let equal : is_eq (slice_cmp nat_cmp other name) ≡ true = is_eq-slice_cmp other name ∙ subst (λ n. bytes_eq other n ≡ true) (sym ((bytes_decides name other).0 same)) (search rules) in
        let no : true ≡ false = sym equal ∙ ap is_eq less in
        absurd cc
    by false same = refl

pub after_is_new : (name : List ℕ) (exports : List spec.Export) → IsAfter name exports → true ≡ not (is_exported name exports)
after_is_new name exports after = rw (none exports after) refl
  where
    none : (exports : List spec.Export) → IsAfter name exports → is_exported name exports ≡ false
    none [] after = refl
    none (e ∷ exports) after = rw (not_same name e.name after.0) (none exports after.1)

less_of : (o : Ordering) → is_lt o ≡ true → o ≡ Less
less_of Less is = refl
less_of Equal is = absurd cc
less_of Greater is = absurd cc

le_of : (o : Ordering) → is_eq o ≡ true → is_le o ≡ true
le_of Less is = refl
le_of Equal is = refl
le_of Greater is = absurd cc

-- what comes after the last comes after all
pub after_all : (last : spec.Export) (name : List ℕ) (exports : List spec.Export) → AllByRecursion (λ e. IsTrue (is_le (slice_cmp nat_cmp e.name last.name))) exports
    → is_lt (slice_cmp nat_cmp last.name name) ≡ true → IsAfter name exports
after_all last name [] all is = tt
after_all last name (e ∷ exports) all is = (le_lt_trans order e.name last.name name all.0 (less_of _ is), after_all last name exports all.1 is)

module _ (new : spec.Export) where
  ends_in_new : (exports : List spec.Export) → IsAfter new.name exports → AllByRecursion (λ e. IsTrue (is_le (slice_cmp nat_cmp e.name new.name))) (exports ++ new ∷ [])
  ends_in_new [] after = (le_of _ (is_eq-slice_cmp new.name new.name ∙ search rules), tt)
  ends_in_new (e ∷ exports) after = (ap is_le after.0, ends_in_new exports after.1)

  last_there : (exports : List spec.Export) → slice_get (exports ++ new ∷ []) (length exports) ≡ Some new
  last_there [] = refl
  last_there (e ∷ exports) = last_there exports

  -- what comes after all is the last then
  pub ends_in_last : (exports : List spec.Export) → IsAfter new.name exports → EndInLast (exports ++ new ∷ [])
  ends_in_last exports after last at =
      let place : length (exports ++ new ∷ []) - 1 ≡ length exports = omega (arith, length-append exports (new ∷ [])) in
      let is : new ≡ last = ap (λ o. unwrap_or o new) (sym (last_there exports) ∙ ap (slice_get (exports ++ new ∷ [])) (sym place) ∙ at) in
      subst (λ (l : spec.Export). AllByRecursion (λ e. IsTrue (is_le (slice_cmp nat_cmp e.name l.name))) (exports ++ new ∷ [])) is (ends_in_new exports after)
