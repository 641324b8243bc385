-- Limits and what is imported are read as their forms say.
use Rattle.std.proofs.Common.{◌≡◌, ℕ, zero, suc, ◌+◌, ◌*◌, ◌/◌, ◌%◌, ◌<◌, arith, Bool, true, false, cond, eqb, List, ◌∷◌, ◌++◌, Option, Some, None, is_some, refl, sym, ap, ◌∙◌, inl, inr}
use Rattle.std.specs.Prelude.{◌||◌, nat_lt, if◌then◌else◌}
use Rattle.wasm_spec.specs.Bytes.{IsU32, IsU64, IsPair}
use Rattle.wasm_spec.specs.TypeGrammar.{limits_flags, IsLimits, IsTableLimits, IsTableType, IsRefType, IsValType, IsMutability, IsGlobalType, IsTagType, IsExternalKind, IsExternalType}
use Rattle.wasm_spec.specs.Types.{RefType, Limits, TableType, ExternalType, FuncExternal, TableExternal, MemoryExternal, GlobalExternal, TagExternal, ExternalKind, FuncKind, TableKind, MemoryKind, GlobalKind, TagKind}
use Rattle.wasm_core_read.specs.Laws.{ReadsExactly}
use Rattle.wasm_core_read.specs.Reading.{ReadingOf, unsigned_at, seen_at, tested_at, pair_at, optional_at, no_code}
use Rattle.wasm_core_read.specs.TypeReading.{val_type_at, ref_type_from, ref_type_at, mutability_at, has_bit, limits_with, limits_at, is_of_table, table_limits_at, table_type_from, table_type_at, global_type_at, tag_type_at, external_kind_at, external_type_at}
use Rattle.wasm_core_read.proofs.Forms.{ltb_tells, reads_unsigned}
use Rattle.wasm_core_read.proofs.TypeForms.{reads_val_type, reads_mutability, ref_from_found, reads_ref_type}
use Rattle.wasm_core_read.proofs.WayForms.{FindsAfter, Announced, IsPresent, seen, pair, reads_seen, reads_tested, reads_pair, reads_optional, none, bare, coded, announced, announced_seen, announced_pair, same_form, reads_marked}

-- ---- limits

abbrev flags_of : Bool → Bool → Bool → Bool → ℕ
flags_of a b c d = (if a then 0x01 else 0x00) + (if b then 0x02 else 0x00) + (if c then 0x04 else 0x00) + (if d then 0x08 else 0x00)

-- the bits of flags are theirs
record AreBits (a b c d : Bool) (flags : ℕ) : Type 0 where
  few : nat_lt flags 16 ≡ true
  first : has_bit 1 flags ≡ a
  second : has_bit 2 flags ≡ b
  third : has_bit 4 flags ≡ c
  fourth : has_bit 8 flags ≡ d

bits : (a b c d : Bool) → AreBits a b c d (flags_of a b c d)
bits false false false false = record { few = refl; first = refl; second = refl; third = refl; fourth = refl }
bits true false false false = record { few = refl; first = refl; second = refl; third = refl; fourth = refl }
bits false true false false = record { few = refl; first = refl; second = refl; third = refl; fourth = refl }
bits true true false false = record { few = refl; first = refl; second = refl; third = refl; fourth = refl }
bits false false true false = record { few = refl; first = refl; second = refl; third = refl; fourth = refl }
bits true false true false = record { few = refl; first = refl; second = refl; third = refl; fourth = refl }
bits false true true false = record { few = refl; first = refl; second = refl; third = refl; fourth = refl }
bits true true true false = record { few = refl; first = refl; second = refl; third = refl; fourth = refl }
bits false false false true = record { few = refl; first = refl; second = refl; third = refl; fourth = refl }
bits true false false true = record { few = refl; first = refl; second = refl; third = refl; fourth = refl }
bits false true false true = record { few = refl; first = refl; second = refl; third = refl; fourth = refl }
bits true true false true = record { few = refl; first = refl; second = refl; third = refl; fourth = refl }
bits false false true true = record { few = refl; first = refl; second = refl; third = refl; fourth = refl }
bits true false true true = record { few = refl; first = refl; second = refl; third = refl; fourth = refl }
bits false true true true = record { few = refl; first = refl; second = refl; third = refl; fourth = refl }
bits true true true true = record { few = refl; first = refl; second = refl; third = refl; fourth = refl }

-- a digit, in its unit
digit : (unit v : ℕ) → v < 2 → cond (eqb v 1) unit 0 ≡ unit * v
digit unit zero few = omega arith
digit unit (suc zero) few = omega arith
digit unit (suc (suc v)) few = absurd (omega (arith, few))

-- flags below 16 are those of their bits
flags_are : (flags : ℕ) → flags < 16 → flags ≡ flags_of (has_bit 1 flags) (has_bit 2 flags) (has_bit 4 flags) (has_bit 8 flags)
flags_are flags few = rw (digit 1 (flags / 1 % 2) (omega arith), digit 2 (flags / 2 % 2) (omega arith), digit 4 (flags / 4 % 2) (omega arith), digit 8 (flags / 8 % 2) (omega arith)) (omega (arith, few))

abbrev IsBounds : ℕ → List ℕ → ℕ × (Option ℕ × Option ℕ) → Type 0
IsBounds flags bytes x = IsPair IsU64 (IsPair (IsPresent (has_bit 1 flags) IsU64) (IsPresent (has_bit 8 flags) IsU32)) bytes x

abbrev bounds_at : ℕ → ReadingOf (ℕ × (Option ℕ × Option ℕ))
bounds_at flags = pair_at (unsigned_at 64) (pair_at (optional_at (has_bit 1 flags) (unsigned_at 64)) (optional_at (has_bit 8 flags) (unsigned_at 32)))

reads_bounds : (flags : ℕ) → ReadsExactly (IsBounds flags) (bounds_at flags)
reads_bounds flags =
    reads_pair IsU64 (unsigned_at 64) (IsPair (IsPresent (has_bit 1 flags) IsU64) (IsPresent (has_bit 8 flags) IsU32)) _ (reads_unsigned 64)
    (reads_pair (IsPresent (has_bit 1 flags) IsU64) (optional_at (has_bit 1 flags) (unsigned_at 64)) (IsPresent (has_bit 8 flags) IsU32) (optional_at (has_bit 8 flags) (unsigned_at 32))
    (reads_optional IsU64 (unsigned_at 64) (has_bit 1 flags) (reads_unsigned 64)) (reads_optional IsU32 (unsigned_at 32) (has_bit 8 flags) (reads_unsigned 32)))

abbrev limits_of : ℕ → ℕ × (Option ℕ × Option ℕ) → Limits
limits_of flags x = record { minimum = x.0; maximum = x.1.0; shared = has_bit 2 flags; is_64 = has_bit 4 flags; page_size_log2 = x.1.1 }

limits_found : FindsAfter (Announced IsLimits) (λ flags rest. cond (nat_lt flags 16) (limits_with flags rest) None)
limits_found flags bytes v rest are e =
    elim (ltb_tells flags 16) [
      | inl (t, few) ↦ seen (Announced IsLimits flags) (IsBounds flags) (bounds_at flags) (limits_of flags) (reads_bounds flags).found (λ encoding x h. with_flags encoding x few h) bytes v rest are (rw t at e)
      | inr (t, many) ↦ let f = rw t at e in absurd cc
    ]
  where
    with_flags : (encoding : List ℕ) (x : ℕ × (Option ℕ × Option ℕ)) → flags < 16 → IsBounds flags encoding x → IsLimits (flags ∷ encoding) (limits_of flags x)
    with_flags encoding x few h =
        let same : flags ≡ limits_flags (limits_of flags x) = rw (h.4.3.1, h.4.4.1) (flags_are flags few) in
        (encoding, ap (λ (n : ℕ). n ∷ encoding) same, (h.0, h.1, h.2, h.3, (h.4.0, h.4.1, h.4.2, h.4.3.0, h.4.4.0)))

limits_again : (bytes : List ℕ) (v : Limits) (rest : List ℕ) → IsLimits bytes v → limits_at (bytes ++ rest) ≡ Some (v, rest)
unfolding limits_at
limits_again bytes v rest h =
    let flags = limits_flags v in
    let b : AreBits (is_some v.maximum) v.shared v.is_64 (is_some v.page_size_log2) flags = bits (is_some v.maximum) v.shared v.is_64 (is_some v.page_size_log2) in
    let p = h.2 in
    let bounds : IsBounds flags h.0 (v.minimum, (v.maximum, v.page_size_log2)) = (p.0, p.1, p.2, p.3, (p.4.0, p.4.1, p.4.2, (p.4.3, sym b.first), (p.4.4, sym b.fourth))) in
    let read = (reads_bounds flags).again h.0 (v.minimum, (v.maximum, v.page_size_log2)) rest bounds in
    let same : limits_of flags (v.minimum, (v.maximum, v.page_size_log2)) ≡ v = rw (b.second, b.third) refl in
    ap (λ (l : List ℕ). limits_at (l ++ rest)) h.1 ∙ rw (b.few, read) (ap (λ x. Some (x, rest)) same)

pub reads_limits : ReadsExactly IsLimits limits_at
unfolding limits_at
reads_limits = record { found = announced IsLimits _ limits_found; again = limits_again }

neither : (a b : Bool) → cond (a || b) false true ≡ true → (a ≡ false) × (b ≡ false)
neither false false e = (refl, refl)
neither false true e = absurd cc
neither true b e = absurd cc

reads_table_limits : ReadsExactly IsTableLimits table_limits_at
unfolding table_limits_at
reads_table_limits =
    same_form (λ bytes v. IsLimits bytes v × (is_of_table v ≡ true)) IsTableLimits (tested_at is_of_table limits_at)
    (λ bytes v h. let n = neither v.shared (is_some v.page_size_log2) h.1 in (h.0, n.0, n.1))
    (λ bytes v h. (h.0, rw (h.1, h.2) refl))
    (reads_tested IsLimits limits_at is_of_table reads_limits)

-- ---- tables, globals and tags

abbrev table_of : RefType ℕ × Limits → TableType ℕ
table_of x = record { element_type = x.0; limits = x.1 }

pub table_from_found : FindsAfter (Announced IsTableType) table_type_from
table_from_found code =
    seen (Announced IsTableType code) (IsPair (Announced IsRefType code) IsTableLimits) (pair_at (ref_type_from code) table_limits_at) table_of
    (pair (Announced IsRefType code) (ref_type_from code) IsTableLimits table_limits_at (ref_from_found code) reads_table_limits.found)
    (λ bytes x h. (code ∷ h.0, h.1, ap (λ (l : List ℕ). code ∷ l) h.2, h.3, h.4))

table_again : (bytes : List ℕ) (v : TableType ℕ) (rest : List ℕ) → IsTableType bytes v → table_type_at (bytes ++ rest) ≡ Some (v, rest)
unfolding table_type_at ref_type_at
table_again bytes v rest h =
    let both = (reads_pair IsRefType ref_type_at IsTableLimits table_limits_at reads_ref_type reads_table_limits).again bytes (v.element_type, v.limits) rest h in
    announced_seen table_of (λ code. pair_at (ref_type_from code) table_limits_at) (bytes ++ rest) (v.element_type, v.limits) rest
    (announced_pair ref_type_from table_limits_at (bytes ++ rest) ∙ both)

pub reads_table_type : ReadsExactly IsTableType table_type_at
unfolding table_type_at
reads_table_type = record { found = announced IsTableType table_type_from table_from_found; again = table_again }

pub reads_global_type : ReadsExactly IsGlobalType global_type_at
unfolding global_type_at
reads_global_type =
    reads_seen (IsPair IsValType IsMutability) (pair_at val_type_at mutability_at) (λ x. record { value_type = x.0; mutable = x.1 }) (λ type. (type.value_type, type.mutable)) (λ x. refl) (λ type. refl)
    (reads_pair IsValType val_type_at IsMutability mutability_at reads_val_type reads_mutability)

pub reads_tag_type : ReadsExactly IsTagType tag_type_at
unfolding tag_type_at
reads_tag_type = reads_marked 0x00 IsU32 (unsigned_at 32) (reads_unsigned 32)

-- ---- kinds and external types

kind_again : (bytes : List ℕ) (v : ExternalKind) (rest : List ℕ) → IsExternalKind bytes v → external_kind_at (bytes ++ rest) ≡ Some (v, rest)
unfolding external_kind_at
kind_again bytes FuncKind rest h = rw h refl
kind_again bytes TableKind rest h = rw h refl
kind_again bytes MemoryKind rest h = rw h refl
kind_again bytes GlobalKind rest h = rw h refl
kind_again bytes TagKind rest h = rw h refl

pub reads_external_kind : ReadsExactly IsExternalKind external_kind_at
unfolding external_kind_at
reads_external_kind = record {
  found = announced IsExternalKind _
      (bare (Announced IsExternalKind) 0x00 FuncKind _ refl (bare (Announced IsExternalKind) 0x01 TableKind _ refl (bare (Announced IsExternalKind) 0x02 MemoryKind _ refl
      (bare (Announced IsExternalKind) 0x03 GlobalKind _ refl (bare (Announced IsExternalKind) 0x04 TagKind no_code refl (none (Announced IsExternalKind)))))));
  again = kind_again;
}

external_again : (bytes : List ℕ) (v : ExternalType ℕ) (rest : List ℕ) → IsExternalType bytes v → external_type_at (bytes ++ rest) ≡ Some (v, rest)
unfolding external_type_at
external_again bytes (FuncExternal function) rest h = rw (h.1, (reads_unsigned 32).again h.0 function rest h.2) refl
external_again bytes (TableExternal type) rest h = rw (h.1, reads_table_type.again h.0 type rest h.2) refl
external_again bytes (MemoryExternal type) rest h = rw (h.1, reads_limits.again h.0 type rest h.2) refl
external_again bytes (GlobalExternal type) rest h = rw (h.1, reads_global_type.again h.0 type rest h.2) refl
external_again bytes (TagExternal function) rest h = rw (h.1, reads_tag_type.again h.0 function rest h.2) refl

pub reads_external_type : ReadsExactly IsExternalType external_type_at
unfolding external_type_at
reads_external_type = record {
  found = announced IsExternalType _
      (coded (Announced IsExternalType) 0x00 (seen_at (λ function. FuncExternal function) (unsigned_at 32)) _
      (seen (Announced IsExternalType 0x00) IsU32 (unsigned_at 32) (λ function. FuncExternal function) (reads_unsigned 32).found (λ bytes function h. (bytes, refl, h)))
      (coded (Announced IsExternalType) 0x01 (seen_at (λ type. TableExternal type) table_type_at) _
      (seen (Announced IsExternalType 0x01) IsTableType table_type_at (λ type. TableExternal type) reads_table_type.found (λ bytes type h. (bytes, refl, h)))
      (coded (Announced IsExternalType) 0x02 (seen_at (λ type. MemoryExternal type) limits_at) _
      (seen (Announced IsExternalType 0x02) IsLimits limits_at (λ type. MemoryExternal type) reads_limits.found (λ bytes type h. (bytes, refl, h)))
      (coded (Announced IsExternalType) 0x03 (seen_at (λ type. GlobalExternal type) global_type_at) _
      (seen (Announced IsExternalType 0x03) IsGlobalType global_type_at (λ type. GlobalExternal type) reads_global_type.found (λ bytes type h. (bytes, refl, h)))
      (coded (Announced IsExternalType) 0x04 (seen_at (λ function. TagExternal function) tag_type_at) no_code
      (seen (Announced IsExternalType 0x04) IsTagType tag_type_at (λ function. TagExternal function) reads_tag_type.found (λ bytes function h. (bytes, refl, h)))
      (none (Announced IsExternalType)))))));
  again = external_again;
}
