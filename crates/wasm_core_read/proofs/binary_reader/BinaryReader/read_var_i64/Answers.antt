use Rattle.std.proofs.Common.{subst}
use Rattle.wasm_spec.specs.Bytes.{AreBytes, IsS64}
use Rattle.wasm_core_read.specs.Input.{Input}
use Rattle.wasm_core_read.specs.Reading.{signed_at}
use Rattle.wasm_core_read.proofs.NumberForms.{reads_signed}
use Rattle.wasm_core_read.proofs.FrontLaws.{reads_from}
use Rattle.wasm_core_read.proofs.binary_reader.BinaryReader.read_var_i64.Goals as goal

pub returns-clause-reads : goal.returns-clause-reads
returns-clause-reads c =
    let are = subst (λ (i : Input). AreBytes i.rest) c.self.view_is c.self.invariant.1 in
    reads_from IsS64 (signed_at 64) (reads_signed 64) (λ n. n) _ _ c.signed.result are c.signed.ensures
