use Rattle.std.proofs.Common.{sym}
use Rattle.wasmparser_readers.proofs.HeapLaws.{heap_abstract}
use Rattle.wasmparser_readers.proofs.heap_type.read_written.Goals as goal

pub returns-in-Some-abstract_of : goal.returns-in-Some-abstract_of
returns-in-Some-abstract_of c =
    let read = c.in_ok-read_u8.ensures.exact in
    (heap_abstract _ _ _ _ _ (sym c.in-Some.ensures) (sym c.in-Some-abstract_of.ensures) read.0, read.1)
