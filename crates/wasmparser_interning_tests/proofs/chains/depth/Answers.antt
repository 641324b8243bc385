use Rattle.std.proofs.Common.{IfSome, ◌∙◌, subst, slice_get}
use Rattle.wasmparser_type_relations.specs.Chains.{IsDepth}
use Rattle.wasmparser_type_list.specs.TypeTables.{TypeTables, sub_types}
use Rattle.wasmparser_interning_tests.proofs.chains.depth.Goals as goal

pub returns-in-Some : goal.returns-in-Some
returns-in-Some c = subst (λ (tables : TypeTables). IfSome c.depth.result (IsDepth (slice_get (sub_types tables)) c.args.id)) (c.in-Some.ensures ∙ c.list.ensures.same) c.depth.ensures
