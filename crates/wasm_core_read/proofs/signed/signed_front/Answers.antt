use Rattle.std.proofs.Common.{rules, None, Some, SFits, w64, sym, ◌∙◌}
use Rattle.std.proofs.lemmas.Int.{to_z-of_z}
use Rattle.wasm_core_read.proofs.SignedLaws.{one_byte}
use Rattle.wasm_core_read.proofs.signed.signed_front.Goals as goal

pub returns-in-None-clause-read : goal.returns-in-None-clause-read
returns-in-None-clause-read c = one_byte _ _ _ c.in-Some.rest.now None c.in-Some.ensures.cases.0 c.if-byte-lt128.true (sym c.in-None.is ∙ c.with_last.ensures)

pub returns-in-Some-with_last-clause-read : goal.returns-in-Some-with_last-clause-read
returns-in-Some-with_last-clause-read c =
    let fits : SFits w64 c.in-Some-with_last.value = search rules in
    rw (to_z-of_z w64 c.in-Some-with_last.value fits)
    (one_byte _ _ _ c.in-Some.rest.now (Some c.in-Some-with_last.value) c.in-Some.ensures.cases.0 c.if-byte-lt128.true (sym c.in-Some-with_last.is ∙ c.with_last.ensures))
