-- Types as bytes have them.
use Rattle.std.specs.Prelude.{ℕ}
use Rattle.wasm_spec.specs.Types as spec
use Rattle.wasmparser_types.specs.HeapTypes.{abstract_heap_type}
use Rattle.wasmparser_readers.specs.declared.heap_type.WrittenHeapType.{WrittenHeapType}
use Rattle.wasmparser_readers.specs.declared.heap_type.WrittenHeapType.TheVariants.{Abstract, Index}

abbrev pub written_heap : WrittenHeapType → spec.HeapType ℕ
written_heap (Abstract heap) = spec.Abstract (abstract_heap_type heap)
written_heap (Index n) = spec.Concrete n
