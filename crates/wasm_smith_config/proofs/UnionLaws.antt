-- Sets of features that grow by each flag which is on.
use Rattle.std.proofs.Common.{◌≡◌, ℕ, ◌<◌, ◌≤◌, ◌^◌, ◌==◌, ◌||◌, Bool, true, false, List, [], ◌∷◌, bit_and, bit_or, nat_lt, length, drop, if◌then◌else◌, refl, sym, ap, ◌∙◌, inl, inr, arith}
use Rattle.std.specs.List.{list_all}
use Rattle.std.proofs.lemmas.Bool.{and_parts, or_right}
use Rattle.std.proofs.lemmas.Bool.Decides.{eqb_tells, nat_tests}
use Rattle.std.proofs.lemmas.List.{drop_all}
use Rattle.std.proofs.lemmas.Nat.{and_or_self, and_or_apart, or_lt}
use Rattle.wasm_spec.specs.Features.{bit_of, MutableGlobal, SaturatingFloatToInt, SignExtension, ReferenceTypes, MultiValue, BulkMemory, Simd, RelaxedSimd, Threads, TailCall, Floats, MultiMemory, Exceptions, Memory64, ExtendedConst, FunctionReferences, Gc, GcTypes, CustomPageSizes, CompactImports, WideArithmetic, StackSwitching}
use Rattle.wasm_core_types.specs.declared.features.WasmFeatures.{WasmFeatures}
use Rattle.wasm_smith_config.specs.Config.{AreFeaturesOf}
use Rattle.wasm_smith_config.specs.Rows.{rows_of, switches}
use Rattle.wasm_smith_config.specs.declared.config.Config.{Config}

-- the set after one row
abbrev pub grown : ℕ → ℕ × Bool → ℕ
grown set row = if row.1 then bit_or set row.0 else set

-- the set after these rows
abbrev pub grown_by : ℕ → List (ℕ × Bool) → ℕ
grown_by set [] = set
grown_by set (row ∷ rows) = grown_by (grown set row) rows

-- whether a bit is in the set after these rows, given whether it was there before
abbrev pub found_in : ℕ → Bool → ℕ × Bool → Bool
found_in bit was row = if row.0 == bit then was || row.1 else was

abbrev pub found_after : ℕ → Bool → List (ℕ × Bool) → Bool
found_after bit was [] = was
found_after bit was (row ∷ rows) = found_after bit (found_in bit was row) rows

-- each row is this bit or shares none with it
abbrev pub is_clear_row : ℕ → ℕ × Bool → Bool
is_clear_row bit row = (row.0 == bit) || (bit_and row.0 bit == 0)

abbrev pub is_clear : ℕ → List (ℕ × Bool) → Bool
is_clear bit rows = list_all (is_clear_row bit) rows

-- whether a bit is in a set
abbrev pub has_bit : ℕ → ℕ → Bool
has_bit set bit = bit_and set bit == bit

or_false : (b : Bool) → b ≡ (b || false)
or_false true = refl
or_false false = refl

second : (a b : Bool) → a ≡ false → (a || b) ≡ true → b ≡ true
second true b e h = absurd cc
second false b e h = h

equal : (n : ℕ) → (n == n) ≡ true
equal n = elim (eqb_tells n n) [ inl (test, same) ↦ test | inr (test, differs) ↦ absurd (differs refl) ]

is_zero : (n : ℕ) → (n == 0) ≡ true → n ≡ 0
is_zero n h = elim (eqb_tells n 0) [ inl (test, same) ↦ same | inr (test, differs) ↦ absurd cc ]

-- a row adds its bit where it is on, and no other
same_row : (bit set : ℕ) (on : Bool) → has_bit (grown set (bit, on)) bit ≡ (has_bit set bit || on)
same_row bit set true =
    let self : has_bit (bit_or set bit) bit ≡ true = rw (and_or_self bit set) (equal bit) in self ∙ sym (or_right (has_bit set bit) true refl)
same_row bit set false = or_false (has_bit set bit)

other_row : (bit set other : ℕ) (on : Bool) → bit_and other bit ≡ 0 → has_bit (grown set (other, on)) bit ≡ has_bit set bit
other_row bit set other true apart = ap (λ n. n == bit) (and_or_apart bit set other apart)
other_row bit set other false apart = refl

one_row : (bit set : ℕ) (row : ℕ × Bool) → is_clear_row bit row ≡ true → has_bit (grown set row) bit ≡ found_in bit (has_bit set bit) row
one_row bit set row clear =
    elim (eqb_tells row.0 bit) [
      | inl (test, same) ↦ rw (test, same) (same_row bit set row.1)
      | inr (test, differs) ↦ rw test (other_row bit set row.0 row.1 (is_zero (bit_and row.0 bit) (second (row.0 == bit) (bit_and row.0 bit == 0) test clear)))
    ]

pub has-grown_by : (bit set : ℕ) (rows : List (ℕ × Bool)) → is_clear bit rows ≡ true → has_bit (grown_by set rows) bit ≡ found_after bit (has_bit set bit) rows
has-grown_by bit set [] clear = refl
has-grown_by bit set (row ∷ rows) clear =
    let parts = and_parts (is_clear_row bit row) (is_clear bit rows) clear in
    has-grown_by bit (grown set row) rows parts.1 ∙ ap (λ was. found_after bit was rows) (one_row bit set row parts.0)

-- no row has a bit at 22 or above
grown-below : (set other : ℕ) (on : Bool) → set < 2 ^ 22 → nat_lt other (2 ^ 22) ≡ true → grown set (other, on) < 2 ^ 22
grown-below set other true below small = or_lt 22 set other below (grind (arith, nat_tests, small))
grown-below set other false below small = below

pub grown_by-below : (set : ℕ) (rows : List (ℕ × Bool)) → set < 2 ^ 22 → list_all (λ row. nat_lt row.0 (2 ^ 22)) rows ≡ true → grown_by set rows < 2 ^ 22
grown_by-below set [] below small = below
grown_by-below set (row ∷ rows) below small =
    let parts = and_parts (nat_lt row.0 (2 ^ 22)) (list_all (λ row. nat_lt row.0 (2 ^ 22)) rows) small in
    grown_by-below (grown set row) rows (grown-below set row.0 row.1 below parts.0) parts.1

pub below : (c : Config) → grown_by 0 (switches c) < 2 ^ 22
below c = grown_by-below 0 (switches c) (omega arith) refl

-- the set of a row of each flag has those that are on
pub flags : (c : Config) → AreFeaturesOf c (grown_by 0 (switches c))
flags c MutableGlobal = has-grown_by (bit_of MutableGlobal) 0 (switches c) refl
flags c SaturatingFloatToInt = has-grown_by (bit_of SaturatingFloatToInt) 0 (switches c) refl
flags c SignExtension = has-grown_by (bit_of SignExtension) 0 (switches c) refl
flags c ReferenceTypes = has-grown_by (bit_of ReferenceTypes) 0 (switches c) refl
flags c MultiValue = has-grown_by (bit_of MultiValue) 0 (switches c) refl
flags c BulkMemory = has-grown_by (bit_of BulkMemory) 0 (switches c) refl
flags c Simd = has-grown_by (bit_of Simd) 0 (switches c) refl
flags c RelaxedSimd = has-grown_by (bit_of RelaxedSimd) 0 (switches c) refl
flags c Threads = has-grown_by (bit_of Threads) 0 (switches c) refl
flags c TailCall = has-grown_by (bit_of TailCall) 0 (switches c) refl
flags c Floats = has-grown_by (bit_of Floats) 0 (switches c) refl
flags c MultiMemory = has-grown_by (bit_of MultiMemory) 0 (switches c) refl
flags c Exceptions = has-grown_by (bit_of Exceptions) 0 (switches c) refl
flags c Memory64 = has-grown_by (bit_of Memory64) 0 (switches c) refl
flags c ExtendedConst = has-grown_by (bit_of ExtendedConst) 0 (switches c) refl
flags c FunctionReferences = has-grown_by (bit_of FunctionReferences) 0 (switches c) refl
flags c Gc = has-grown_by (bit_of Gc) 0 (switches c) refl
flags c GcTypes = has-grown_by (bit_of GcTypes) 0 (switches c) refl
flags c CustomPageSizes = has-grown_by (bit_of CustomPageSizes) 0 (switches c) refl
flags c CompactImports = has-grown_by (bit_of CompactImports) 0 (switches c) refl
flags c WideArithmetic = has-grown_by (bit_of WideArithmetic) 0 (switches c) refl
flags c StackSwitching = has-grown_by (bit_of StackSwitching) 0 (switches c) refl

-- once all rows were gone over, the set is that of all rows
pub all_grown : (c : Config) (rows : List (WasmFeatures × Bool)) (i set : ℕ) → length rows ≤ i → grown_by set (rows_of (drop i rows)) ≡ grown_by 0 (rows_of rows) → rows_of rows ≡ switches c → set ≡ grown_by 0 (switches c)
all_grown c rows i set over step same = ap (λ rest. grown_by set (rows_of rest)) (sym (drop_all i rows over)) ∙ step ∙ ap (grown_by 0) same
