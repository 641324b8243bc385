-- What the first bytes of an encoding leave open, where the encoding may go on.
use Rattle.std.proofs.Common.{◌≡◌, ◌+◌, ◌^◌, ◌<◌, ◌≢◌, ℕ, Bool, true, false, List, [], ◌∷◌, ◌++◌, length, if◌then◌else◌, inl, inr, arith, sym, ap, ◌∙◌, append_assoc}
use Rattle.wasm_spec.specs.Bytes.{IsU32, IsName}
use Rattle.wasm_spec.specs.TypeGrammar.{IsReference, kind_code}
use Rattle.wasm_spec.specs.Types.{HeapType, Abstract, Concrete, ExternalKind, FuncKind, TableKind, MemoryKind, GlobalKind, TagKind}

pub heads : (a b : ℕ) (x y : List ℕ) → a ∷ x ≡ b ∷ y → a ≡ b
heads a b x y e = cc

pub tails : (a b : ℕ) (x y : List ℕ) → a ∷ x ≡ b ∷ y → x ≡ y
tails a b x y e = cc

-- a number that begins with a byte below 2 ^ 7 is that byte
pub number_is : (bytes rest others : List ℕ) (b n : ℕ) → IsU32 bytes n → b < 2 ^ 7 → b ∷ others ≡ bytes ++ rest → (n ≡ b) × (rest ≡ others)
number_is [] rest others b n h small e = absurd h
number_is (c ∷ []) rest others b n h small e = (h.2 ∙ sym (heads b c others rest e), sym (tails b c others rest e))
number_is (c ∷ d ∷ ds) rest others b n h small e = absurd (omega (arith, h.0, small, heads b c others (d ∷ (ds ++ rest)) e))

-- and one that begins so is a padded 0
padded_is : (bytes rest others : List ℕ) (n : ℕ) → IsU32 bytes n → 0x80 ∷ 0x00 ∷ others ≡ bytes ++ rest → (n ≡ 0) × (rest ≡ others)
padded_is [] rest others n h e = absurd h
padded_is (c ∷ []) rest others n h e = absurd (omega (arith, h.0, heads 0x80 c (0x00 ∷ others) rest e))
padded_is (c ∷ d ∷ []) rest others n h e =
    let e' = tails 0x80 c (0x00 ∷ others) (d ∷ rest) e in
    (omega (arith, heads 0x80 c (0x00 ∷ others) (d ∷ rest) e, heads 0x00 d others rest e', h.4, h.5.2), sym (tails 0x00 d others rest e'))
padded_is (c ∷ d ∷ x ∷ xs) rest others n h e =
    let e' = tails 0x80 c (0x00 ∷ others) (d ∷ x ∷ (xs ++ rest)) e in
    absurd (omega (arith, h.5.0, heads 0x00 d others (x ∷ (xs ++ rest)) e'))

none_taken : (content rest others : List ℕ) → length content ≡ 0 → content ++ rest ≡ others → rest ≡ others
none_taken [] rest others l e = e
none_taken (x ∷ xs) rest others l e = absurd (omega (arith, l))

one_taken : (content rest others : List ℕ) (b : ℕ) → length content ≡ 1 → content ++ rest ≡ b ∷ others → rest ≡ others
one_taken [] rest others b l e = absurd (omega (arith, l))
one_taken (x ∷ []) rest others b l e = tails x b rest others e
one_taken (x ∷ y ∷ ys) rest others b l e = absurd (omega (arith, l))

-- the first part of an encoding in parts, and what stands after it
pub joined : (bytes after first others whole : List ℕ) → whole ≡ bytes ++ after → bytes ≡ first ++ others → whole ≡ first ++ (others ++ after)
joined bytes after first others whole e p = e ∙ ap (λ (l : List ℕ). l ++ after) p ∙ append_assoc first others after

-- what stands after a name of one byte, an empty one, and an empty one whose size is padded
pub after_name : (bytes rest others name : List ℕ) (b : ℕ) → IsName bytes name → 0x01 ∷ b ∷ others ≡ bytes ++ rest → rest ≡ others
after_name bytes rest others name b h e =
    let n = number_is h.0.0 (h.0.1 ++ rest) (b ∷ others) 1 _ h.0.3 (omega arith) (joined bytes rest h.0.0 h.0.1 _ e h.0.2) in
    one_taken h.0.1 rest others b n.0 n.1

pub after_empty : (bytes rest others name : List ℕ) → IsName bytes name → 0x00 ∷ others ≡ bytes ++ rest → rest ≡ others
after_empty bytes rest others name h e =
    let n = number_is h.0.0 (h.0.1 ++ rest) others 0 _ h.0.3 (omega arith) (joined bytes rest h.0.0 h.0.1 _ e h.0.2) in
    none_taken h.0.1 rest others n.0 n.1

pub after_padded : (bytes rest others name : List ℕ) → IsName bytes name → 0x80 ∷ 0x00 ∷ others ≡ bytes ++ rest → rest ≡ others
after_padded bytes rest others name h e =
    let n = padded_is h.0.0 (h.0.1 ++ rest) others _ h.0.3 (joined bytes rest h.0.0 h.0.1 _ e h.0.2) in
    none_taken h.0.1 rest others n.0 n.1

-- what stands after the byte of an abstract heap type
pub after_reference : (nullable : Bool) (bytes rest others : List ℕ) (heap : HeapType ℕ) → IsReference nullable bytes heap → 0x70 ∷ others ≡ bytes ++ rest → rest ≡ others
after_reference false bytes rest others heap h e =
    absurd (omega (arith, heads 0x70 0x64 others (h.0 ++ rest) (e ∙ ap (λ (l : List ℕ). l ++ rest) h.1)))
after_reference true bytes rest others heap (inl h) e =
    absurd (omega (arith, heads 0x70 0x63 others (h.0 ++ rest) (e ∙ ap (λ (l : List ℕ). l ++ rest) h.1)))
after_reference true bytes rest others (Abstract heap) (inr h) e = sym (tails 0x70 _ others rest (e ∙ ap (λ (l : List ℕ). l ++ rest) h))
after_reference true bytes rest others (Concrete index) (inr h) e = absurd h

-- the flags of a table's limits
pub table_flags : (maximum shared wide pages : Bool) → shared ≡ false → pages ≡ false
    → (((if maximum then 1 else 0) + (if shared then 2 else 0) + (if wide then 4 else 0) + (if pages then 8 else 0)) ≢ 2)
    × (((if maximum then 1 else 0) + (if shared then 2 else 0) + (if wide then 4 else 0) + (if pages then 8 else 0)) ≢ 8)
table_flags maximum true wide pages s p = absurd cc
table_flags maximum false wide true s p = absurd cc
table_flags true false true false s p = (λ e. omega (arith, e), λ e. omega (arith, e))
table_flags true false false false s p = (λ e. omega (arith, e), λ e. omega (arith, e))
table_flags false false true false s p = (λ e. omega (arith, e), λ e. omega (arith, e))
table_flags false false false false s p = (λ e. omega (arith, e), λ e. omega (arith, e))

-- a kind's byte is small
pub small_kind : (kind : ExternalKind) → kind_code kind < 5
small_kind FuncKind = omega arith
small_kind TableKind = omega arith
small_kind MemoryKind = omega arith
small_kind GlobalKind = omega arith
small_kind TagKind = omega arith
