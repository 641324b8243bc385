use Rattle.std.proofs.Common.{◌<◌, length, ap}
use Rattle.wasm_smith_types.specs.Making.{made, IsCandidate}
use Rattle.wasm_smith_types.proofs.ListLaws.{chosen}
use Rattle.wasm_smith_types.proofs.MakingLaws.{some_asked}
use Rattle.wasm_smith_types.proofs.OfferLaws.{is_chosen}
use Rattle.wasm_smith_types.proofs.types.Types.push_type.Goals as goal

pub unwrap-candidate-requires : goal.unwrap-candidate-requires
unwrap-candidate-requires c =
    let some : 0 < length c.args.self.now.candidates.items =
    some_asked _ _ _ _ _ c.is_empty-asked.ensures c.args.self.now.candidates.ok.0 c.if-bool_if.ensures.exact in
    is_chosen _ c.args.self.now.candidates.items _ _ c.choose.result (rw c.deref.ensures.value at c.choose.ensures.exact) some

pub push_under-requires-clause-candidate : goal.push_under-requires-clause-candidate
push_under-requires-clause-candidate c =
    chosen (IsCandidate (made c.args.self.now)) c.args.self.now.candidates.items _ c.unwrap-candidate.result.now c.requires.candidates
    (ap (λ (d : _ × _). d.0) (rw (c.deref.ensures.value, c.unwrap-candidate.ensures) at c.choose.ensures.exact))
