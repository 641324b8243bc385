use Rattle.wasm_smith_types.proofs.OfferingLaws.{values_suit, offers_suit}
use Rattle.wasm_smith_types.proofs.laws.suited_offers.Goals as goal

pub returns-clause-values : goal.returns-clause-values
returns-clause-values c = values_suit

pub returns-clause-types : goal.returns-clause-types
returns-clause-types c = offers_suit
