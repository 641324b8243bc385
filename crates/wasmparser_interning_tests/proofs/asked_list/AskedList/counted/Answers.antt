use Rattle.std.proofs.Common.{◌≡◌, sym, subst, ◌∙◌, slice_get, refl, arith}
use Rattle.wasmparser_type_relations.specs.Chains.{HasChain}
use Rattle.wasmparser_type_list.specs.TypeTables.{TypeTables, sub_types}
use Rattle.wasmparser_interning_tests.proofs.asked_list.AskedList.counted.Goals as goal

pub id_is_subtype_counted-answer-requires : goal.id_is_subtype_counted-answer-requires
id_is_subtype_counted-answer-requires c κs =
    let same_list : c.args.self.now ≡ c.new-counter.result.tables = sym (c.new-counter.ensures.same ∙ c.self.view_is) in
    let lower = subst (λ (tables : TypeTables). HasChain (slice_get (sub_types tables)) c.args.a) same_list c.in_ok-depth.ensures.0 in
    let upper = subst (λ (tables : TypeTables). HasChain (slice_get (sub_types tables)) c.args.b) same_list c.in_ok-depth-2.ensures.0 in
    ((refl, tt), (lower, (upper, omega (arith, c.new-counter.ensures.unread))))
