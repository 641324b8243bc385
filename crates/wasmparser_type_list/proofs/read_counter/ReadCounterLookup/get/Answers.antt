use Rattle.std.proofs.Common.{rules, ap, sym, subst, ◌∙◌, slice_get}
use Rattle.std.specs.Option.{option_copied}
use Rattle.wasmparser_type_relations.specs.Chains.{HasChain}
use Rattle.wasmparser_type_list.specs.CountedReads.{CountedReads}
use Rattle.wasmparser_type_list.specs.TypeTables.{sub_types}
use Rattle.wasmparser_type_list.proofs.ChainsOfTypes.{chain_is_kept, kept_is_chain}
use Rattle.wasmparser_type_list.proofs.read_counter.ReadCounterLookup.get.Goals as goal

pub unwrap-requires : goal.unwrap-requires
unwrap-requires c =
    let tables = c.self.inside.list.now in
    let has = subst (λ (s : CountedReads). HasChain (slice_get (sub_types s.tables)) c.args.id) (sym c.self.view_is) c.requires.chain in
    let kept = c.chain.ensures ∙ chain_is_kept tables c.self.invariant.agree c.self.invariant.earlier c.args.id has in
    search rules

pub returns-clause-chain : goal.returns-clause-chain
returns-clause-chain c =
    let tables = c.self.inside.list.now in
    kept_is_chain tables c.self.invariant.agree c.self.invariant.earlier c.args.id c.unwrap.result.now
    (sym c.chain.ensures ∙ ap option_copied c.unwrap.ensures)
