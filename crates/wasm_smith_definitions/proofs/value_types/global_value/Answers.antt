use Rattle.std.proofs.Common.{subst, sym}
use Rattle.wasm_smith_definitions.specs.Offered.{IsOfferedValue}
use Rattle.wasm_smith_definitions.proofs.OfferedLaws.{no_reference, value_offered}
use Rattle.wasm_smith_definitions.proofs.value_types.global_value.Goals as goal

pub returns-in-Ref-clause-offered : goal.returns-in-Ref-clause-offered
returns-in-Ref-clause-offered c = λ k are. subst (IsOfferedValue k c.args.type_count) (sym c.nullable.ensures) (value_offered k c.args.offers.now c.args.type_count _ _ _ are c.in-Ref.ensures.drawn)

pub returns-in_default-clause-offered : goal.returns-in_default-clause-offered
returns-in_default-clause-offered c = λ k are.
    subst (IsOfferedValue k c.args.type_count) (no_reference c.value.result c.in_default.not-Ref) (value_offered k c.args.offers.now c.args.type_count _ _ _ are c.value.ensures.drawn)
