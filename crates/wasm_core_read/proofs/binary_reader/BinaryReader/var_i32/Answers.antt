use Rattle.std.proofs.Common.{rules, SFits, w32, w64, FitsSigned, arith}
use Rattle.std.proofs.lemmas.Int.{to_z-of_z}
use Rattle.wasm_core_read.proofs.FrontLaws.{after_signed}
use Rattle.wasm_core_read.proofs.NumberForms.{read_fits}
use Rattle.wasm_core_read.proofs.binary_reader.BinaryReader.var_i32.Goals as goal

pub overflow_cast-result : goal.overflow_cast-result
overflow_cast-result c =
    let f : SFits w64 c.in-Some.value = search rules in
    rw (to_z-of_z w64 c.in-Some.value f) (read_fits _ _ _ c.self.invariant.1 c.in-Some.ensures.read)

pub returns-in-Some : goal.returns-in-Some
returns-in-Some c =
    let f : SFits w64 c.in-Some.value = search rules in
    let g : FitsSigned w32 c.in-Some.value = read_fits _ _ _ c.self.invariant.1 c.in-Some.ensures.read in
    rw (to_z-of_z w64 c.in-Some.value f, to_z-of_z w32 c.in-Some.value g) (search rules)

pub invariant_of-self : goal.invariant_of-self
invariant_of-self c = (omega (arith, c.in-Some.ensures.shorter, c.self.invariant.0), after_signed 32 _ _ _ c.self.invariant.1 c.in-Some.ensures.read)
