-- Small encodings that several laws speak of.
use Rattle.std.proofs.Common.{◌≡◌, ◌<◌, ◌^◌, ℕ, Bool, List, [], ◌∷◌, ◌++◌, length, refl, arith}
use Rattle.wasm_spec.specs.Bytes.{IsU32, IsList}
use Rattle.wasm_spec.specs.Grammar.{section_id, IsContent, IsSection}
use Rattle.wasm_spec.specs.Syntax.{Section, FunctionSection}

-- a small number is a byte
pub small : (n : ℕ) → n < 2 ^ 7 → IsU32 (n ∷ []) n
small n h = (h, omega (arith, h), refl)

-- a section, from the encoding of its size
pub section : (compact : Bool) (size content : List ℕ) (s : Section) → IsU32 size (length content) → IsContent compact content s
    → IsSection compact (section_id s ∷ (size ++ content)) s
section compact size content s framed h = (size ++ content, refl, (size, content, refl, framed, h))

-- lists of nothing, and of one item
pub none : {A : Type 0} (IsA : List ℕ → A → Type 0) → IsList IsA (0x00 ∷ []) []
none IsA = (0x00 ∷ [], [], refl, small 0 (omega arith), refl)

pub one : {A : Type 0} (IsA : List ℕ → A → Type 0) (bytes : List ℕ) (item : A) → bytes ≡ bytes ++ [] → IsA bytes item → IsList IsA (0x01 ∷ bytes) (item ∷ [])
one IsA bytes item e h = (0x01 ∷ [], bytes, refl, small 1 (omega arith), (bytes, [], e, h, refl))

-- a function of the first type
pub function_section : (compact : Bool) → IsSection compact (0x03 ∷ 0x02 ∷ 0x01 ∷ 0x00 ∷ []) (FunctionSection (0 ∷ []))
function_section compact = section compact (0x02 ∷ []) (0x01 ∷ 0x00 ∷ []) (FunctionSection (0 ∷ [])) (small 2 (omega arith)) (one IsU32 (0x00 ∷ []) 0 refl (small 0 (omega arith)))
