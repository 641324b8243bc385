use Rattle.std.proofs.Common.{subst}
use Rattle.wasm_spec.specs.Bytes.{AreBytes, IsName}
use Rattle.wasm_core_read.specs.Input.{Input}
use Rattle.wasm_core_read.specs.Reading.{name_at}
use Rattle.wasm_core_read.proofs.Forms.{reads_name}
use Rattle.wasm_core_read.proofs.FrontLaws.{reads_from}
use Rattle.wasm_core_read.proofs.binary_reader.BinaryReader.read_string.Goals as goal

pub returns-clause-reads : goal.returns-clause-reads
returns-clause-reads c =
    let are = subst (λ (i : Input). AreBytes i.rest) c.self.view_is c.self.invariant.1 in
    reads_from IsName name_at reads_name (λ s. s.now) _ _ c.string.result are c.string.ensures
