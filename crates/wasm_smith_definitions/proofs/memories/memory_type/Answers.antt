use Rattle.std.proofs.lemmas.Bool.{or_left, or_right}
use Rattle.wasm_smith_definitions.proofs.OfferedLaws.{asked_since}
use Rattle.wasm_smith_definitions.proofs.memories.memory_type.Goals as goal

pub returns-clause-offered : goal.returns-clause-offered
returns-clause-offered c = record {
  is_64 = asked_since _ _ _ _ c.bool_if-memory64.ensures.exact;
  shared = asked_since _ _ _ _ c.bool_if-shared.ensures.exact;
  shared_maximum = λ e. c.bounds_within-bounds.ensures.required (or_left _ _ e);
  sized = c.page_size-page_size_log2.ensures.offered;
  size = c.page_size-page_size_log2.ensures.valid;
  bounds = rw c.most_pages-most.ensures at c.bounds_within-bounds.ensures.within;
  required = λ e. c.bounds_within-bounds.ensures.required (or_right _ _ e);
}
