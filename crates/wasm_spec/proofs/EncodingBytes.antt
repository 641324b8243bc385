-- Each encoding is bytes, whatever is made of which forms.
use Rattle.std.proofs.Common.{◌≡◌, ◌-◌, ◌<◌, ℕ, ℤ, List, [], ◌∷◌, ◌++◌, Some, None, inl, inr, arith, subst, sym}
use Rattle.wasm_spec.specs.Bytes.{IsBytes, AreBytes, IsBytesOf, IsUnsigned, IsU32, IsU64, IsSigned, IsLastSigned, IsS32, IsS33, IsS64, IsFloatBits, IsPair, IsMarked, IsNumbered, IsOptional, IsItems, IsList, IsFramed, IsName}

-- whatever has such an encoding, it is bytes
abbrev pub HasBytes : {A : Type 0} → (List ℕ → A → Type 0) → Type 0
HasBytes {A} IsA = (bytes : List ℕ) (value : A) → IsA bytes value → AreBytes bytes

both : (a b : List ℕ) → AreBytes a → AreBytes b → AreBytes (a ++ b)
both [] b p q = q
both (x ∷ a) b p q = (p.0, both a b p.1 q)

-- an encoding that is one encoding after another
pub parted : (bytes a b : List ℕ) → bytes ≡ a ++ b → AreBytes a → AreBytes b → AreBytes bytes
parted bytes a b e p q = subst AreBytes (sym e) (both a b p q)

pub led : (bytes : List ℕ) (b : ℕ) (bs : List ℕ) → bytes ≡ b ∷ bs → b < 256 → AreBytes bs → AreBytes bytes
led bytes b bs e h p = subst AreBytes (sym e) (h, p)

pub one_byte : (bytes : List ℕ) (b : ℕ) → bytes ≡ b ∷ [] → b < 256 → AreBytes bytes
one_byte bytes b e h = led bytes b [] e h tt

pub of_bytes : HasBytes IsBytes
of_bytes encoding bytes h = h.0

pub of_bytes_of : (n : ℕ) → HasBytes (IsBytesOf n)
of_bytes_of n encoding bytes h = h.0.0

-- ---- numbers

of_unsigned : (bits : ℕ) → HasBytes (IsUnsigned bits)
of_unsigned bits [] n h = tt
of_unsigned bits (b ∷ []) n h = (omega (arith, h.0), tt)
of_unsigned bits (b ∷ c ∷ bs) n h = (h.1, of_unsigned (bits - 7) (c ∷ bs) h.3 h.5)

pub of_u32 : HasBytes IsU32
of_u32 bytes n h = of_unsigned 32 bytes n h

pub of_u64 : HasBytes IsU64
of_u64 bytes n h = of_unsigned 64 bytes n h

of_last : (bits b : ℕ) (z : ℤ) → IsLastSigned bits b z → b < 256
of_last bits b z (inl h) = omega (arith, h.0)
of_last bits b z (inr h) = omega (arith, h.1)

of_signed : (bits : ℕ) → HasBytes (IsSigned bits)
of_signed bits [] z h = tt
of_signed bits (b ∷ []) z h = (of_last bits b z h, tt)
of_signed bits (b ∷ c ∷ bs) z h = (h.1, of_signed (bits - 7) (c ∷ bs) h.3 h.5)

pub of_s32 : HasBytes IsS32
of_s32 bytes z h = of_signed 32 bytes z h

pub of_s33 : HasBytes IsS33
of_s33 bytes z h = of_signed 33 bytes z h

pub of_s64 : HasBytes IsS64
of_s64 bytes z h = of_signed 64 bytes z h

pub of_float : (len : ℕ) → HasBytes (IsFloatBits len)
of_float len bytes bits h = h.0

-- ---- forms made of others

pub of_pair : {A B : Type 0} (IsA : List ℕ → A → Type 0) (IsB : List ℕ → B → Type 0) → HasBytes IsA → HasBytes IsB → HasBytes (IsPair IsA IsB)
of_pair IsA IsB of_a of_b bytes value h = parted bytes h.0 h.1 h.2 (of_a h.0 value.0 h.3) (of_b h.1 value.1 h.4)

pub of_marked : {A : Type 0} (code : ℕ) (IsA : List ℕ → A → Type 0) → code < 256 → HasBytes IsA → HasBytes (IsMarked code IsA)
of_marked code IsA small of_a bytes value h = led bytes code h.0 h.1 small (of_a h.0 value h.2)

pub of_numbered : {A : Type 0} (code : ℕ) (IsA : List ℕ → A → Type 0) → HasBytes IsA → HasBytes (IsNumbered code IsA)
of_numbered code IsA of_a bytes value h = parted bytes h.0 h.1 h.2 (of_u32 h.0 code h.3) (of_a h.1 value h.4)

pub of_optional : {A : Type 0} (IsA : List ℕ → A → Type 0) → HasBytes IsA → HasBytes (IsOptional IsA)
of_optional IsA of_a bytes None h = subst AreBytes (sym h) tt
of_optional IsA of_a bytes (Some value) h = of_a bytes value h

pub of_items : {A : Type 0} (IsA : List ℕ → A → Type 0) → HasBytes IsA → HasBytes (IsItems IsA)
of_items IsA of_item bytes [] h = subst AreBytes (sym h) tt
of_items IsA of_item bytes (item ∷ items) h = parted bytes h.0 h.1 h.2 (of_item h.0 item h.3) (of_items IsA of_item h.1 items h.4)

pub of_list : {A : Type 0} (IsA : List ℕ → A → Type 0) → HasBytes IsA → HasBytes (IsList IsA)
of_list IsA of_item bytes items h = parted bytes h.0 h.1 h.2 (of_u32 h.0 _ h.3) (of_items IsA of_item h.1 items h.4)

pub of_framed : {A : Type 0} (IsA : List ℕ → A → Type 0) → HasBytes IsA → HasBytes (IsFramed IsA)
of_framed IsA of_a bytes value h = parted bytes h.0 h.1 h.2 (of_u32 h.0 _ h.3) (of_a h.1 value h.4)

pub of_name : HasBytes IsName
of_name bytes name h = of_framed IsBytes of_bytes bytes name h.0
