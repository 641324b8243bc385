-- The contents of sets of kinds, kind by kind.
use Rattle.std.proofs.Common.{◌≡◌, ℕ, zero, suc, ◌+◌, ◌*◌, ◌/◌, ◌%◌, ◌^◌, ◌<◌, ◌==◌, ◌||◌, ◌⊎◌, Bool, true, false, List, [], ◌∷◌, bit_and, bit_or, refl, sym, ap, ◌∙◌, inl, inr, arith}
use Rattle.std.specs.List.{list_any}
use Rattle.std.proofs.lemmas.Bool.{eqb-true, eq-eqb, ne_eqb, or_right}
use Rattle.std.proofs.lemmas.Nat.{and_assoc, and_or_apart, and_or_self, mod-pow-add, pow_pos, shr-shr}
use Rattle.std.proofs.lemmas.Nat.Bits.{and_high, and_pow, bit_at-lt}
use Rattle.wasm_smith_config.proofs.InstructionLaws.{has_part}
use Rattle.wasm_smith_config.specs.Instructions.{bits_of, contains_kind, has, kinds_of, no_kinds, with_kind, with_kinds}
use Rattle.wasm_smith_config.specs.declared.instruction_kinds.InstructionKind.{InstructionKind}
use Rattle.wasm_smith_config.specs.declared.instruction_kinds.InstructionKind.TheVariants.{NumericInt, Numeric, VectorInt, Vector, Reference, Parametric, Variable, Table, MemoryInt, Memory, Control, Aggregate}
use Rattle.wasm_smith_config.specs.declared.instruction_kinds.InstructionKinds.{InstructionKinds}

-- whether a number has the bit at a place
abbrev pub is_set : ℕ → ℕ → Bool
is_set bits place = bit_and bits (2 ^ place) == 2 ^ place

or_false : (a b : Bool) → b ≡ false → a ≡ (a || b)
or_false true b is = refl
or_false false b is = sym is

or_assoc : (a b c : Bool) → ((a || b) || c) ≡ (a || (b || c))
or_assoc true b c = refl
or_assoc false b c = refl

same_bool : (a b : Bool) → (a ≡ true → b ≡ true) → (b ≡ true → a ≡ true) → a ≡ b
same_bool true b to from = sym (to refl)
same_bool false true to from = from refl
same_bool false false to from = refl

-- a bit is there or not
part_or_none : (bit part n : ℕ) → bit < 2 → n ≡ bit * part → (n ≡ part) ⊎ (n ≡ 0)
part_or_none zero part n below is = inr (omega (arith, is))
part_or_none (suc zero) part n below is = inl (omega (arith, is))
part_or_none (suc (suc bit)) part n below is = absurd (omega arith)

one_bit : (bits place : ℕ) → (bit_and bits (2 ^ place) ≡ 2 ^ place) ⊎ (bit_and bits (2 ^ place) ≡ 0)
one_bit bits place = part_or_none (bits / 2 ^ place % 2) (2 ^ place) (bit_and bits (2 ^ place)) (bit_at-lt bits place) (and_pow bits place)

-- what is added is there, and all else stays
stays : (bits mask part : ℕ) → bit_and mask part ≡ part → bit_and (bit_or bits mask) part ≡ part
stays bits mask part within =
    ap (bit_and (bit_or bits mask)) (sym within) ∙ sym (and_assoc part (bit_or bits mask) mask) ∙ ap (λ n. bit_and n part) (and_or_self mask bits) ∙ within

set_more : (bits mask place : ℕ) → is_set (bit_or bits mask) place ≡ (is_set bits place || is_set mask place)
set_more bits mask place =
    elim (one_bit mask place) [
      | inl there ↦
          eq-eqb (bit_and (bit_or bits mask) (2 ^ place)) (2 ^ place) (stays bits mask (2 ^ place) there)
          ∙ sym (or_right (is_set bits place) (is_set mask place) (eq-eqb (bit_and mask (2 ^ place)) (2 ^ place) there))
      | inr gone ↦
          let some : 0 < 2 ^ place = pow_pos place in
          ap (λ n. n == 2 ^ place) (and_or_apart (2 ^ place) bits mask gone)
          ∙ or_false (is_set bits place) (is_set mask place) (ne_eqb (bit_and mask (2 ^ place)) (2 ^ place) (λ same. omega (arith, gone, same, some)))
    ]

set_among : (kinds : List InstructionKind) (set : InstructionKinds) (place : ℕ) → is_set (with_kinds set kinds).bits place ≡ (is_set set.bits place || list_any (λ kind. is_set (bits_of kind) place) kinds)
set_among [] set place = or_false (is_set set.bits place) false refl
set_among (kind ∷ kinds) set place =
    set_among kinds (with_kind set kind) place
    ∙ ap (λ b. b || list_any (λ kind. is_set (bits_of kind) place) kinds) (set_more set.bits (bits_of kind) place)
    ∙ or_assoc (is_set set.bits place) (is_set (bits_of kind) place) (list_any (λ kind. is_set (bits_of kind) place) kinds)

-- tests of kinds, one by one
alike : (test other : InstructionKind → Bool) → ((kind : InstructionKind) → test kind ≡ other kind) → (kinds : List InstructionKind) → list_any test kinds ≡ list_any other kinds
alike test other same [] = refl
alike test other same (kind ∷ kinds) = rw (same kind, alike test other same kinds) refl

more_or : (a b c d : Bool) → (a ≡ true → c ≡ true) → (b ≡ true → d ≡ true) → (a || b) ≡ true → (c || d) ≡ true
more_or true b c d first second is = rw (first refl) refl
more_or false b c d first second is = or_right c d (second is)

any_more : (test other : InstructionKind → Bool) → ((kind : InstructionKind) → test kind ≡ true → other kind ≡ true) → (kinds : List InstructionKind) → list_any test kinds ≡ true → list_any other kinds ≡ true
any_more test other more [] is = is
any_more test other more (kind ∷ kinds) is = more_or (test kind) (list_any test kinds) (other kind) (list_any other kinds) (more kind) (any_more test other more kinds) is

-- two neighbouring bits
both_numeric : (bits : ℕ) → is_set bits 0 ≡ true → is_set bits 1 ≡ true → (bit_and bits 3 == 3) ≡ true
both_numeric bits low high =
    let is_low : bit_and bits 1 ≡ 1 = eqb-true (bit_and bits 1) 1 low in
    let is_high : bit_and bits 2 ≡ 2 = eqb-true (bit_and bits 2) 2 high in
    let low_bit : bit_and bits 1 ≡ bits / 1 % 2 * 1 = and_pow bits 0 in
    let high_bit : bit_and bits 2 ≡ bits / 2 % 2 * 2 = and_pow bits 1 in
    let both : bit_and bits 3 ≡ bits / 1 % 4 * 1 = and_high bits 2 0 in
    let parts : bits / 1 % 4 ≡ bits / 1 / 2 % 2 * 2 + bits / 1 % 2 = mod-pow-add (bits / 1) 1 1 in
    let next : bits / 1 / 2 % 2 ≡ bits / 2 % 2 = ap (λ n. n % 2) (shr-shr bits 0 1) in
    eq-eqb (bit_and bits 3) 3 (omega arith)

both_vector : (bits : ℕ) → is_set bits 2 ≡ true → is_set bits 3 ≡ true → (bit_and bits 12 == 12) ≡ true
both_vector bits low high =
    let is_low : bit_and bits 4 ≡ 4 = eqb-true (bit_and bits 4) 4 low in
    let is_high : bit_and bits 8 ≡ 8 = eqb-true (bit_and bits 8) 8 high in
    let low_bit : bit_and bits 4 ≡ bits / 4 % 2 * 4 = and_pow bits 2 in
    let high_bit : bit_and bits 8 ≡ bits / 8 % 2 * 8 = and_pow bits 3 in
    let both : bit_and bits 12 ≡ bits / 4 % 4 * 4 = and_high bits 2 2 in
    let parts : bits / 4 % 4 ≡ bits / 4 / 2 % 2 * 2 + bits / 4 % 2 = mod-pow-add (bits / 4) 1 1 in
    let next : bits / 4 / 2 % 2 ≡ bits / 8 % 2 = ap (λ n. n % 2) (shr-shr bits 2 1) in
    eq-eqb (bit_and bits 12) 12 (omega arith)

both_memory : (bits : ℕ) → is_set bits 8 ≡ true → is_set bits 9 ≡ true → (bit_and bits 768 == 768) ≡ true
both_memory bits low high =
    let is_low : bit_and bits 256 ≡ 256 = eqb-true (bit_and bits 256) 256 low in
    let is_high : bit_and bits 512 ≡ 512 = eqb-true (bit_and bits 512) 512 high in
    let low_bit : bit_and bits 256 ≡ bits / 256 % 2 * 256 = and_pow bits 8 in
    let high_bit : bit_and bits 512 ≡ bits / 512 % 2 * 512 = and_pow bits 9 in
    let both : bit_and bits 768 ≡ bits / 256 % 4 * 256 = and_high bits 2 8 in
    let parts : bits / 256 % 4 ≡ bits / 256 / 2 % 2 * 2 + bits / 256 % 2 = mod-pow-add (bits / 256) 1 1 in
    let next : bits / 256 / 2 % 2 ≡ bits / 512 % 2 = ap (λ n. n % 2) (shr-shr bits 8 1) in
    eq-eqb (bit_and bits 768) 768 (omega arith)

-- a kind with floats is there where its own bit is
numeric_alike : (kind : InstructionKind) → contains_kind kind Numeric ≡ is_set (bits_of kind) 1
numeric_alike NumericInt = refl
numeric_alike Numeric = refl
numeric_alike VectorInt = refl
numeric_alike Vector = refl
numeric_alike Reference = refl
numeric_alike Parametric = refl
numeric_alike Variable = refl
numeric_alike Table = refl
numeric_alike MemoryInt = refl
numeric_alike Memory = refl
numeric_alike Control = refl
numeric_alike Aggregate = refl

numeric_part : (kind : InstructionKind) → is_set (bits_of kind) 1 ≡ true → is_set (bits_of kind) 0 ≡ true
numeric_part kind is = has_part (bits_of kind) 3 1 refl (numeric_alike kind ∙ is)

numeric_each : (kinds : List InstructionKind) → has (kinds_of kinds) Numeric ≡ list_any (λ given. contains_kind given Numeric) kinds
numeric_each kinds =
    let bits = (kinds_of kinds).bits in
    let low : is_set bits 0 ≡ list_any (λ given. is_set (bits_of given) 0) kinds = set_among kinds no_kinds 0 in
    let high : is_set bits 1 ≡ list_any (λ given. is_set (bits_of given) 1) kinds = set_among kinds no_kinds 1 in
    same_bool (bit_and bits 3 == 3) (is_set bits 1) (has_part bits 3 2 refl)
    (λ is. both_numeric bits (low ∙ any_more (λ given. is_set (bits_of given) 1) (λ given. is_set (bits_of given) 0) numeric_part kinds (sym high ∙ is)) is)
    ∙ high ∙ sym (alike (λ given. contains_kind given Numeric) (λ given. is_set (bits_of given) 1) numeric_alike kinds)

vector_alike : (kind : InstructionKind) → contains_kind kind Vector ≡ is_set (bits_of kind) 3
vector_alike NumericInt = refl
vector_alike Numeric = refl
vector_alike VectorInt = refl
vector_alike Vector = refl
vector_alike Reference = refl
vector_alike Parametric = refl
vector_alike Variable = refl
vector_alike Table = refl
vector_alike MemoryInt = refl
vector_alike Memory = refl
vector_alike Control = refl
vector_alike Aggregate = refl

vector_part : (kind : InstructionKind) → is_set (bits_of kind) 3 ≡ true → is_set (bits_of kind) 2 ≡ true
vector_part kind is = has_part (bits_of kind) 12 4 refl (vector_alike kind ∙ is)

vector_each : (kinds : List InstructionKind) → has (kinds_of kinds) Vector ≡ list_any (λ given. contains_kind given Vector) kinds
vector_each kinds =
    let bits = (kinds_of kinds).bits in
    let low : is_set bits 2 ≡ list_any (λ given. is_set (bits_of given) 2) kinds = set_among kinds no_kinds 2 in
    let high : is_set bits 3 ≡ list_any (λ given. is_set (bits_of given) 3) kinds = set_among kinds no_kinds 3 in
    same_bool (bit_and bits 12 == 12) (is_set bits 3) (has_part bits 12 8 refl)
    (λ is. both_vector bits (low ∙ any_more (λ given. is_set (bits_of given) 3) (λ given. is_set (bits_of given) 2) vector_part kinds (sym high ∙ is)) is)
    ∙ high ∙ sym (alike (λ given. contains_kind given Vector) (λ given. is_set (bits_of given) 3) vector_alike kinds)

memory_alike : (kind : InstructionKind) → contains_kind kind Memory ≡ is_set (bits_of kind) 9
memory_alike NumericInt = refl
memory_alike Numeric = refl
memory_alike VectorInt = refl
memory_alike Vector = refl
memory_alike Reference = refl
memory_alike Parametric = refl
memory_alike Variable = refl
memory_alike Table = refl
memory_alike MemoryInt = refl
memory_alike Memory = refl
memory_alike Control = refl
memory_alike Aggregate = refl

memory_part : (kind : InstructionKind) → is_set (bits_of kind) 9 ≡ true → is_set (bits_of kind) 8 ≡ true
memory_part kind is = has_part (bits_of kind) 768 256 refl (memory_alike kind ∙ is)

memory_each : (kinds : List InstructionKind) → has (kinds_of kinds) Memory ≡ list_any (λ given. contains_kind given Memory) kinds
memory_each kinds =
    let bits = (kinds_of kinds).bits in
    let low : is_set bits 8 ≡ list_any (λ given. is_set (bits_of given) 8) kinds = set_among kinds no_kinds 8 in
    let high : is_set bits 9 ≡ list_any (λ given. is_set (bits_of given) 9) kinds = set_among kinds no_kinds 9 in
    same_bool (bit_and bits 768 == 768) (is_set bits 9) (has_part bits 768 512 refl)
    (λ is. both_memory bits (low ∙ any_more (λ given. is_set (bits_of given) 9) (λ given. is_set (bits_of given) 8) memory_part kinds (sym high ∙ is)) is)
    ∙ high ∙ sym (alike (λ given. contains_kind given Memory) (λ given. is_set (bits_of given) 9) memory_alike kinds)

-- a set of kinds has what one of them contains
pub each_kind_of : (kinds : List InstructionKind) (kind : InstructionKind) → has (kinds_of kinds) kind ≡ list_any (λ given. contains_kind given kind) kinds
each_kind_of kinds NumericInt = set_among kinds no_kinds 0
each_kind_of kinds Numeric = numeric_each kinds
each_kind_of kinds VectorInt = set_among kinds no_kinds 2
each_kind_of kinds Vector = vector_each kinds
each_kind_of kinds Reference = set_among kinds no_kinds 4
each_kind_of kinds Parametric = set_among kinds no_kinds 5
each_kind_of kinds Variable = set_among kinds no_kinds 6
each_kind_of kinds Table = set_among kinds no_kinds 7
each_kind_of kinds MemoryInt = set_among kinds no_kinds 8
each_kind_of kinds Memory = memory_each kinds
each_kind_of kinds Control = set_among kinds no_kinds 10
each_kind_of kinds Aggregate = set_among kinds no_kinds 11
