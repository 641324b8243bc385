-- Operators by their first byte, and heap types whose index is that of a type in the module.
use Rattle.std.proofs.Common.{◌≡◌, ℕ, List, [], ◌∷◌, Option, Some, None, refl, sym, ap, subst, ◌∙◌}
use Rattle.wasm_core_read.specs.ConstantReading.{operator_from, operator_at}
use Rattle.wasm_core_read.specs.Reading.{◌>>=◌, ReadingOf, byte_at, announced_at}
use Rattle.wasm_core_read.specs.TypeReading.{heap_type_at}
use Rattle.wasm_core_read.proofs.Forms.{some_is}
use Rattle.wasm_spec.specs.TypeReferences.{heap_map}
use Rattle.wasm_spec.specs.Types.{HeapType, Abstract, Concrete}
use Rattle.wasmparser_types.specs.Index.{Index, Module, number_of}
use Rattle.wasmparser_readers.specs.PackedReading.{module_heap_at}
use Rattle.wasmparser_readers.proofs.MappedReading.{given}
use Rattle.wasmparser_entries.specs.ConstOperators.{IsModuleHeap}

no_code : {A : Type 0} (form : ℕ → ReadingOf A) (bytes : List ℕ) → byte_at bytes ≡ None → announced_at form bytes ≡ None
unfolding byte_at
no_code form [] e = refl
no_code form (b ∷ rest) e = absurd cc

after : {A : Type 0} (form : ℕ → ReadingOf A) (bytes : List ℕ) (b : ℕ) (rest : List ℕ) → byte_at bytes ≡ Some (b, rest) → announced_at form bytes ≡ form b rest
unfolding byte_at
after form [] b rest e = absurd cc
after form (c ∷ cs) b rest e = ap (λ (p : ℕ × List ℕ). form p.0 p.1) (some_is (c, cs) (b, rest) e)

pub no_operator : (bytes : List ℕ) → byte_at bytes ≡ None → operator_at bytes ≡ None
unfolding operator_at
no_operator bytes e = no_code _ bytes e

pub operator_after : (bytes : List ℕ) (b : ℕ) (rest : List ℕ) → byte_at bytes ≡ Some (b, rest) → operator_at bytes ≡ operator_from b rest
unfolding operator_at
operator_after bytes b rest e = after _ bytes b rest e

pub ruleset operator_codes = (no_operator, operator_after)

module_back : (x : HeapType ℕ) → heap_map number_of (heap_map Module x) ≡ x
module_back (Abstract heap) = refl
module_back (Concrete n) = refl

abbrev in_module : HeapType ℕ → HeapType Index
in_module heap = heap_map Module heap

pub null_unread : (bytes : List ℕ) → module_heap_at bytes ≡ None → heap_type_at bytes ≡ None
unfolding module_heap_at
null_unread bytes e = by_read (heap_type_at bytes) e
  where
    by_read : (read : Option (HeapType ℕ × List ℕ)) → (read >>= λ x. given (in_module x.0) x.1) ≡ None → read ≡ None
    by_read None h = refl
    by_read (Some x) h = absurd cc

pub null_read : (bytes : List ℕ) (v : HeapType Index) (rest : List ℕ) → module_heap_at bytes ≡ Some (v, rest) → heap_type_at bytes ≡ Some (heap_map number_of v, rest)
unfolding module_heap_at
null_read bytes v rest e = by_read (heap_type_at bytes) e
  where
    by_read : (read : Option (HeapType ℕ × List ℕ)) → (read >>= λ x. given (in_module x.0) x.1) ≡ given v rest → read ≡ given (heap_map number_of v) rest
    by_read None h = absurd cc
    by_read (Some x) h =
        let p = some_is (in_module x.0, x.1) (v, rest) h in
        ap (λ (y : HeapType ℕ). given y x.1) (sym (module_back x.0)) ∙ ap (λ (q : HeapType Index × List ℕ). given (heap_map number_of q.0) q.1) p

pub null_in_module : (bytes : List ℕ) (v : HeapType Index) (rest : List ℕ) → module_heap_at bytes ≡ Some (v, rest) → IsModuleHeap v
unfolding module_heap_at
null_in_module bytes v rest e = by_read (heap_type_at bytes) e
  where
    is_in : (x : HeapType ℕ) → IsModuleHeap (in_module x)
    is_in (Abstract heap) = tt
    is_in (Concrete n) = tt

    by_read : (read : Option (HeapType ℕ × List ℕ)) → (read >>= λ x. given (in_module x.0) x.1) ≡ given v rest → IsModuleHeap v
    by_read None h = absurd cc
    by_read (Some x) h = subst (λ (q : HeapType Index × List ℕ). IsModuleHeap q.0) (some_is (in_module x.0, x.1) (v, rest) h) (is_in x.0)

pub ruleset null_types = (null_unread, null_read, null_in_module)
