use Rattle.std.proofs.Common.{sym, false}
use Rattle.wasm_core_types.specs.CoreTypes.{val_type}
use Rattle.wasm_spec.specs.Types.{Concrete, Ref}
use Rattle.wasm_smith_definitions.proofs.ConstantLaws.{below_now, function_gives}
use Rattle.wasm_smith_definitions.proofs.candidates.can_refer.Goals as goal

pub returns : goal.returns
returns c = λ rules e.
    let below = rw c.reference_to.ensures at c.is_below.ensures in
    function_gives c.args.config.now c.args.spaces.now (val_type c.args.ty.now) c.args.function c.in-Some.index (sym c.in-Some.ensures) c.if-not-config.false
    (below_now _ c.args.spaces.now.types (Ref false (Concrete c.in-Some.index)) (val_type c.args.ty.now) _ c.types.ensures below rules e)
