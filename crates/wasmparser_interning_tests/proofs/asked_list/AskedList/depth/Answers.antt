use Rattle.std.proofs.Common.{◌<◌, ap, subst, length, slice_get, arith}
use Rattle.wasmparser_type_relations.specs.Chains.{IsDepth}
use Rattle.wasmparser_type_list.specs.TypeTables.{TypeTables, sub_types}
use Rattle.wasmparser_interning_tests.proofs.Depths.{known_has_chain}
use Rattle.wasmparser_interning_tests.proofs.asked_list.AskedList.depth.Goals as goal

pub get_subtyping_depth-requires-clause-chain : goal.get_subtyping_depth-requires-clause-chain
get_subtyping_depth-requires-clause-chain c =
    let known : c.args.id < length c.self.inside.list.now.types = omega (arith, c.index.ensures, c.if-index-len.false, c.len.ensures, ap length c.list.ensures) in
    known_has_chain c.self.inside.list.now c.self.invariant.earlier c.args.id known (c.is_within_depth.ensures.within c.if-not-is_within_depth.false)

pub returns : goal.returns
returns c = subst (λ (tables : TypeTables). IsDepth (slice_get (sub_types tables)) c.args.id c.get_subtyping_depth.result) c.self.view_is c.get_subtyping_depth.ensures
