-- Subtyping of heap types by the test on them.
use Rattle.std.proofs.Common.{◌≡◌, ◌↔◌, true}
use Rattle.wasm_spec.proofs.Closures.{complete, sound}
use Rattle.wasm_spec.specs.Subtyping.{SubTypes, HeapBelow, HeapTest, RefBelow}
use Rattle.wasm_spec.specs.Types.{HeapType, Concrete, RefType}

pub below_by_test : {R : Type 0} (P : Type 0) (sub_at : SubTypes R) (a b : HeapType R) → P ↔ HeapTest sub_at a b → P ↔ HeapBelow sub_at a b
below_by_test P sub_at a b is = ((λ h. sound sub_at a b (is.0 h)), (λ h. is.1 (complete sub_at h)))

pub test_by_below : {R : Type 0} (P : Type 0) (sub_at : SubTypes R) (a b a' b' : HeapType R) → a ≡ a' → b ≡ b' → P ↔ HeapBelow sub_at a' b' → P ↔ HeapTest sub_at a b
test_by_below P sub_at a b a' b' ea eb is = rw (ea, eb) ((λ h. complete sub_at (is.0 h)), (λ h. is.1 (sound sub_at a' b' h)))

pub ref_by_heap : {R : Type 0} (P : Type 0) (sub_at : SubTypes R) (a b : RefType R) (heap_a heap_b : HeapType R) → (a.nullable ≡ true → b.nullable ≡ true) → heap_a ≡ a.heap_type → heap_b ≡ b.heap_type
    → P ↔ HeapBelow sub_at heap_a heap_b → P ↔ RefBelow sub_at a b
ref_by_heap P sub_at a b heap_a heap_b null ea eb is = (
  (λ h. record { null = null; heap = rw (ea, eb) at (is.0 h) }),
  (λ h. is.1 (rw (ea, eb) h.heap)),
)

pub concrete_by_index : {R : Type 0} (P : Type 0) (sub_at : SubTypes R) (r t r' t' : R) → r ≡ r' → t ≡ t' → P ↔ HeapBelow sub_at (Concrete r) (Concrete t) → P ↔ HeapBelow sub_at (Concrete r') (Concrete t')
concrete_by_index P sub_at r t r' t' er et is = rw (er, et) at is
