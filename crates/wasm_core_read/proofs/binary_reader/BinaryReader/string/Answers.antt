use Rattle.std.proofs.Common.{arith, subst, sym}
use Rattle.wasm_spec.specs.Bytes.{AreBytes}
use Rattle.wasm_core_read.proofs.FrontLaws.{after_number, dropped}
use Rattle.wasm_core_read.proofs.binary_reader.BinaryReader.string.Goals as goal

pub invariant_of-self : goal.invariant_of-self
invariant_of-self c =
    let rest_bytes = after_number 32 _ _ _ c.self.invariant.1 c.in-Some.ensures.read in
    (omega (arith, c.in-Some.ensures.shorter, c.split_at.ensures.back_len, c.self.invariant.0), subst AreBytes (sym c.split_at.ensures.back) (dropped _ _ rest_bytes))
