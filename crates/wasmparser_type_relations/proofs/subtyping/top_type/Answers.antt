use Rattle.std.proofs.Common.{ap, sym, ◌∙◌, option_map}
use Rattle.wasmparser_types.specs.HeapTypes.{abstract_heap_type}
use Rattle.wasmparser_type_relations.proofs.TopLaws.{no_top, tops}
use Rattle.wasmparser_type_relations.proofs.subtyping.top_type.Goals as goal

pub returns-in-Some : goal.returns-in-Some
returns-in-Some g c = tops _ _ _ (sym c.top_of.ensures ∙ ap (option_map abstract_heap_type) c.in-Some.is)

pub returns-in-None : goal.returns-in-None
returns-in-None g c = no_top _ _ (sym c.top_of.ensures ∙ ap (option_map abstract_heap_type) c.in-None.is)
