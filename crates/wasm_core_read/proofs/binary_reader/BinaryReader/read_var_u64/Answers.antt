use Rattle.std.proofs.Common.{subst}
use Rattle.wasm_spec.specs.Bytes.{AreBytes, IsU64}
use Rattle.wasm_core_read.specs.Input.{Input}
use Rattle.wasm_core_read.specs.Reading.{unsigned_at}
use Rattle.wasm_core_read.proofs.Forms.{reads_unsigned}
use Rattle.wasm_core_read.proofs.FrontLaws.{reads_from}
use Rattle.wasm_core_read.proofs.binary_reader.BinaryReader.read_var_u64.Goals as goal

pub returns-clause-reads : goal.returns-clause-reads
returns-clause-reads c =
    let are = subst (λ (i : Input). AreBytes i.rest) c.self.view_is c.self.invariant.1 in
    reads_from IsU64 (unsigned_at 64) (reads_unsigned 64) (λ n. n) _ _ c.var_u64.result are c.var_u64.ensures
