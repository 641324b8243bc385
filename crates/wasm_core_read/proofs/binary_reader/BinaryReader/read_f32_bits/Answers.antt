use Rattle.std.proofs.Common.{subst}
use Rattle.wasm_spec.specs.Bytes.{AreBytes, IsF32}
use Rattle.wasm_core_read.specs.Input.{Input}
use Rattle.wasm_core_read.specs.Reading.{float_at}
use Rattle.wasm_core_read.proofs.NumberForms.{reads_float}
use Rattle.wasm_core_read.proofs.FrontLaws.{reads_from}
use Rattle.wasm_core_read.proofs.binary_reader.BinaryReader.read_f32_bits.Goals as goal

pub returns-clause-reads : goal.returns-clause-reads
returns-clause-reads c =
    let are = subst (λ (i : Input). AreBytes i.rest) c.self.view_is c.self.invariant.1 in
    reads_from IsF32 (float_at 4) (reads_float 4) (λ n. n) _ _ c.f32_bits.result are c.f32_bits.ensures
