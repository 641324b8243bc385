-- Exports as they are kept: their names stand one after the other.
use Rattle.std.specs.Cmp.Lexicographic.{slice_cmp}
use Rattle.std.specs.Hash as fed
use Rattle.std.specs.Hash.DefaultHasher as sip
use Rattle.std.specs.List.{AllByRecursion, fold, list_any}
use Rattle.std.specs.Ordering.{is_le, nat_cmp}
use Rattle.std.specs.Prelude.{◌≡◌, ◌-◌, ◌≤◌, ℕ, zero, suc, true, IsTrue, List, [], ◌∷◌, Option, None, Some, drop, length, nat_eq, slice_get, take}
use Rattle.std.specs.Str.{IsUtf8}
use Rattle.wasm_spec.specs.Syntax as spec
use Rattle.wasmparser_readers.specs.Exports.{external_kind}
use Rattle.wasmparser_names.specs.declared.export_names.KeptExport.{KeptExport}
use Rattle.wasmparser_names.specs.declared.name_hasher.NameHasher.{NameHasher}
use Rattle.std.specs.declared.cmp.Ordering.TheVariants.{Less}

-- the hasher of names that stand in no section
abbrev pub first_hasher : NameHasher
first_hasher = record { start = sip.initial }

-- that of names that stand among these bytes: it starts with a hash of them
abbrev pub hasher_after : List ℕ → NameHasher
hasher_after bytes = record { start = sip.write sip.initial (fed.le_bytes 8 (sip.finish (sip.write sip.initial bytes))) }

-- the hash of a name
unfoldable pub hash_of : NameHasher → List ℕ → ℕ
hash_of hasher name = sip.finish (fold sip.write hasher.start (fed.str name))

module _ (names : List ℕ) where
  -- the name of an export, which begins where that of the one before ends
  abbrev pub name_in : ℕ → KeptExport → List ℕ
  name_in start export = take (export.end - start) (drop start names)

  -- a name stands among these
  pub record IsNamed (start : ℕ) (export : KeptExport) : Type 0 where
    pub ordered : start ≤ export.end
    pub within : export.end ≤ length names
    pub text : IsUtf8 (name_in start export)

  -- those of all exports do, and none stands after them
  abbrev pub AreNamed : ℕ → List KeptExport → Type 0
  AreNamed start [] = start ≡ length names
  AreNamed start (export ∷ exports) = IsNamed start export × AreNamed export.end exports

  abbrev pub listed : ℕ → List KeptExport → List spec.Export
  listed start [] = []
  listed start (export ∷ exports) = record { name = name_in start export; kind = external_kind export.kind; index = export.index } ∷ listed export.end exports

-- where the name of the export at this place begins
abbrev pub start_at : ℕ → List KeptExport → ℕ → ℕ
start_at start exports zero = start
start_at start [] (suc place) = start
start_at start (export ∷ exports) (suc place) = start_at export.end exports place

-- a name comes after those of all exports, in the order of their bytes
abbrev pub IsAfter : List ℕ → List spec.Export → Type 0
IsAfter name exports = AllByRecursion (λ export. slice_cmp nat_cmp export.name name ≡ Less) exports

-- no name comes after the last
abbrev pub EndInLast : List spec.Export → Type 0
EndInLast exports = (last : spec.Export) → slice_get exports (length exports - 1) ≡ Some last → AllByRecursion (λ export. IsTrue (is_le (slice_cmp nat_cmp export.name last.name))) exports

-- the hashes of all names are among these
abbrev pub AreHashed : NameHasher → List ℕ → List spec.Export → Type 0
AreHashed hasher hashes exports = AllByRecursion (λ export. list_any (nat_eq (hash_of hasher export.name)) hashes ≡ true) exports

-- what tells whether a name is new: the last one, or the hashes of all
abbrev pub AreKnown : NameHasher → Option (List ℕ) → List spec.Export → Type 0
AreKnown hasher None exports = EndInLast exports
AreKnown hasher (Some hashes) exports = AreHashed hasher hashes exports
