-- Sets of kinds of instructions, and texts that name kinds.
use Rattle.std.proofs.Common.{◌≡◌, ℕ, ◌+◌, ◌<◌, ◌≤◌, ◌==◌, ◌&&◌, Bool, true, false, List, ◌∷◌, Option, Some, None, option_map, find, cond, bit_and, length, get_or, drop, refl, sym, ap, ◌∙◌, arith}
use Rattle.std.specs.Option.{option_and_then}
use Rattle.std.proofs.lemmas.Bool.{eqb-true, eq-eqb, ne_eqb}
use Rattle.std.proofs.lemmas.List.{at_drop_more, drop_all}
use Rattle.std.proofs.lemmas.Nat.{and_assoc, and_le_r}
use Rattle.wasm_smith_config.specs.Instructions.{has, with_kind, with_kinds, is_without_floats, without_floats, kind_named, each_named}
use Rattle.wasm_smith_config.specs.declared.instruction_kinds.InstructionKind.{InstructionKind}
use Rattle.wasm_smith_config.specs.declared.instruction_kinds.InstructionKind.TheVariants.{NumericInt, Numeric, VectorInt, Vector, Reference, Parametric, Variable, Table, MemoryInt, Memory, Control, Aggregate}
use Rattle.wasm_smith_config.specs.declared.instruction_kinds.InstructionKinds.{InstructionKinds}

-- what has all bits of a number has those of its parts
pub has_part : (bits whole part : ℕ) → bit_and whole part ≡ part → (bit_and bits whole == whole) ≡ true → (bit_and bits part == part) ≡ true
has_part bits whole part within is =
    let same : bit_and bits whole ≡ whole = eqb-true (bit_and bits whole) whole is in
    eq-eqb (bit_and bits part) part (ap (bit_and bits) (sym within) ∙ sym (and_assoc part bits whole) ∙ ap (λ n. bit_and n part) same ∙ within)

-- bits that are left are left again
pub left_again : (bits mask : ℕ) → bit_and mask mask ≡ mask → bit_and (bit_and bits mask) mask ≡ bit_and bits mask
left_again bits mask same = and_assoc mask bits mask ∙ ap (bit_and bits) same

-- whether a number is there, where all its bits are left, and where some are not
all_left : (bits mask part : ℕ) → bit_and mask part ≡ part → (bit_and (bit_and bits mask) part == part) ≡ (bit_and bits part == part)
all_left bits mask part within = ap (λ n. n == part) (and_assoc part bits mask ∙ ap (bit_and bits) within)

some_gone : (bits mask part left : ℕ) → bit_and mask part ≡ left → left < part → (bit_and (bit_and bits mask) part == part) ≡ false
some_gone bits mask part left within fewer =
    let same : bit_and (bit_and bits mask) part ≡ bit_and bits left = and_assoc part bits mask ∙ ap (bit_and bits) within in
    let few : bit_and bits left ≤ left = and_le_r bits left in
    ne_eqb (bit_and (bit_and bits mask) part) part (λ equal. omega arith)

pub kept : (kinds : InstructionKinds) (kind : InstructionKind) → has (without_floats kinds) kind ≡ (is_without_floats kind && has kinds kind)
kept kinds NumericInt = all_left kinds.bits 0xfdf5 0x1 refl
kept kinds Numeric = some_gone kinds.bits 0xfdf5 0x3 0x1 refl (omega arith)
kept kinds VectorInt = all_left kinds.bits 0xfdf5 0x4 refl
kept kinds Vector = some_gone kinds.bits 0xfdf5 0xc 0x4 refl (omega arith)
kept kinds Reference = all_left kinds.bits 0xfdf5 0x10 refl
kept kinds Parametric = all_left kinds.bits 0xfdf5 0x20 refl
kept kinds Variable = all_left kinds.bits 0xfdf5 0x40 refl
kept kinds Table = all_left kinds.bits 0xfdf5 0x80 refl
kept kinds MemoryInt = all_left kinds.bits 0xfdf5 0x100 refl
kept kinds Memory = some_gone kinds.bits 0xfdf5 0x300 0x100 refl (omega arith)
kept kinds Control = all_left kinds.bits 0xfdf5 0x400 refl
kept kinds Aggregate = all_left kinds.bits 0xfdf5 0x800 refl

-- one more text is read
one_more : (set : InstructionKinds) (kind : InstructionKind) (o : Option (List InstructionKind)) → option_map (with_kinds set) (option_map (λ kinds. kind ∷ kinds) o) ≡ option_map (with_kinds (with_kind set kind)) o
one_more set kind None = refl
one_more set kind (Some kinds) = refl

read_more : (set : InstructionKinds) (texts : List (List ℕ)) (text : List ℕ) (n : ℕ) → n < length texts → text ≡ get_or texts n text → option_map (with_kinds set) (each_named (drop n texts)) ≡ option_map (with_kinds set) (option_and_then (λ kind. option_map (λ kinds. kind ∷ kinds) (each_named (drop (n + 1) texts))) (kind_named text))
read_more set texts text n within is =
    at_drop_more (λ texts. option_map (with_kinds set) (each_named texts)) texts n text within ∙ ap (λ text. option_map (with_kinds set) (option_and_then (λ kind. option_map (λ kinds. kind ∷ kinds) (each_named (drop (n + 1) texts))) (kind_named text))) (sym is)

pub one_named : (set : InstructionKinds) (texts : List (List ℕ)) (text : List ℕ) (n : ℕ) (kind : InstructionKind) → (n < length texts) × (text ≡ get_or texts n text) → Some kind ≡ kind_named text → option_map (with_kinds (with_kind set kind)) (each_named (drop (n + 1) texts)) ≡ option_map (with_kinds set) (each_named (drop n texts))
one_named set texts text n kind (within, is) named =
    sym (one_more set kind (each_named (drop (n + 1) texts)))
    ∙ ap (λ named. option_map (with_kinds set) (option_and_then (λ kind. option_map (λ kinds. kind ∷ kinds) (each_named (drop (n + 1) texts))) named)) named
    ∙ sym (read_more set texts text n within is)

pub none_named : (set : InstructionKinds) (texts : List (List ℕ)) (text : List ℕ) (n : ℕ) → (n < length texts) × (text ≡ get_or texts n text) → None ≡ kind_named text → None ≡ option_map (with_kinds set) (each_named (drop n texts))
none_named set texts text n (within, is) named =
    ap (λ named. option_map (with_kinds set) (option_and_then (λ kind. option_map (λ kinds. kind ∷ kinds) (each_named (drop (n + 1) texts))) named)) named
    ∙ sym (read_more set texts text n within is)

pub all_named : (set : InstructionKinds) (texts : List (List ℕ)) (n : ℕ) → length texts ≤ n → Some set ≡ option_map (with_kinds set) (each_named (drop n texts))
all_named set texts n over = ap (λ texts. option_map (with_kinds set) (each_named texts)) (sym (drop_all n texts over))

-- one kind that isn't the one is passed
pub find_more : (test : InstructionKind → Bool) (kinds : List InstructionKind) (i : ℕ) (kind : InstructionKind) → i < length kinds → test (get_or kinds i kind) ≡ false → find test (drop (i + 1) kinds) ≡ find test (drop i kinds)
find_more test kinds i kind within not =
    ap (λ is. cond is (Some (get_or kinds i kind)) (find test (drop (i + 1) kinds))) (sym not) ∙ sym (at_drop_more (find test) kinds i kind within)
