use Rattle.std.proofs.Common.{subst}
use Rattle.wasm_spec.specs.Bytes.{AreBytes, IsS32}
use Rattle.wasm_core_read.specs.Input.{Input}
use Rattle.wasm_core_read.specs.Reading.{signed_at}
use Rattle.wasm_core_read.proofs.NumberForms.{reads_signed}
use Rattle.wasm_core_read.proofs.FrontLaws.{reads_from}
use Rattle.wasm_core_read.proofs.binary_reader.BinaryReader.read_var_i32.Goals as goal

pub returns-clause-reads : goal.returns-clause-reads
returns-clause-reads c =
    let are = subst (λ (i : Input). AreBytes i.rest) c.self.view_is c.self.invariant.1 in
    reads_from IsS32 (signed_at 32) (reads_signed 32) (λ n. n) _ _ c.var_i32.result are c.var_i32.ensures
