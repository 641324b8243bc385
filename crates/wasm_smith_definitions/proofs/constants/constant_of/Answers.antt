use Rattle.std.proofs.Common.{subst}
use Rattle.wasm_core_types.specs.CoreTypes.{val_type}
use Rattle.wasm_smith_definitions.specs.Constants.{Fits}
use Rattle.wasm_smith_definitions.proofs.ConstantLaws.{plain_gives, operation_gives}
use Rattle.wasm_smith_definitions.proofs.constants.constant_of.Goals as goal

pub returns-in-Plain-clause-gives : goal.returns-in-Plain-clause-gives
returns-in-Plain-clause-gives c = plain_gives c.args.config.now c.args.spaces.now _ _ c.requires.written c.plain.ensures.plain

pub returns-in-Operation-clause-gives : goal.returns-in-Operation-clause-gives
returns-in-Operation-clause-gives c =
    let fits = subst (Fits c.args.config.now c.args.spaces.now (val_type c.args.ty)) c.in-Operation.is c.requires.fits in
    operation_gives c.args.config.now c.args.spaces.now _ _ fits.0 c.on_integers.ensures.made
