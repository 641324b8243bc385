use Rattle.std.proofs.Common.{length}
use Rattle.wasm_smith_unstructured.proofs.number.+little_number.Given as goal

abbrev pub decreases-little_number : goal.decreases-little_number
decreases-little_number l = length l.bytes.now
