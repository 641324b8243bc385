-- Encodings than which none is shorter, of parts and of what they make.
use Rattle.std.proofs.Common.{◌≡◌, ℕ, ◌≤◌, List, [], ◌++◌, length, refl, ap, arith, length-append}
use Rattle.wasm_spec.specs.Bytes.{IsShortest}

-- bytes with a property, such that no others that have it are shorter
abbrev pub IsLeast : (List ℕ → Type 0) → List ℕ → Type 0
IsLeast Is bytes = Is bytes × ((other : List ℕ) → Is other → length bytes ≤ length other)

pub least : {A : Type 0} (IsA : List ℕ → A → Type 0) (bytes : List ℕ) (value : A) → IsShortest IsA bytes value → IsLeast (λ other. IsA other value) bytes
least IsA bytes value s = (s.encodes, λ other h. s.shortest other h)

pub nothing : IsLeast (λ other. other ≡ []) []
nothing = (refl, λ other h. omega (arith, ap length h))

-- one after the other
pub both : (IsA IsB : List ℕ → Type 0) (first others : List ℕ) → IsLeast IsA first → IsLeast IsB others
    → IsLeast (λ bytes. (a b : List ℕ) × (bytes ≡ a ++ b) × IsA a × IsB b) (first ++ others)
both IsA IsB first others s t = (
  (first, others, refl, s.0, t.0),
  λ other h. omega (arith, length-append first others, ap length h.2, length-append h.0 h.1, s.1 h.0 h.3, t.1 h.1 h.4),
)

-- what holds besides, whatever the bytes are
pub besides : (IsA : List ℕ → Type 0) (B : Type 0) (bytes : List ℕ) → IsLeast IsA bytes → B → IsLeast (λ other. IsA other × B) bytes
besides IsA B bytes s b = ((s.0, b), λ other h. s.1 other h.0)
