use Rattle.std.proofs.lemmas.List.{length-append}
use Rattle.std.proofs.Common.{[], ◌∷◌, length, ap, ◌++◌, ◌∙◌, map, take, arith}
use Rattle.wasmparser_types.specs.SubTypes.{sub_type}
use Rattle.wasmparser_type_relations.specs.Chains.{chain_after}
use Rattle.wasmparser_type_relations.proofs.KeptChains.{longer_chains, next_type}
use Rattle.wasmparser_type_relations.proofs.chain.group_chains.Goals as goal

pub loop-it-preserved : goal.loop-it-preserved
loop-it-preserved c =
    let earlier = c.args.earlier.now.items in
    let types = c.args.types.now in
    let i = c.loop-it.it-index in
    let pushed = c.in_ok-push.ensures.items in
    record {
      count = omega (arith, ap length pushed, length-append c.loop-it.added.items (c.in_ok-chain.chain ∷ []), c.loop-it.invariant.count);
      chains = ap (λ q. earlier ++ q) pushed
          ∙ longer_chains earlier c.loop-it.added.items (map sub_type (take i types)) _ (sub_type c.it-item.result) c.in_ok-chain.chain c.loop-it.invariant.chains
          (c.in_ok-chain.ensures ∙ ap (λ q. chain_after (earlier ++ q) (sub_type c.it-item.result)) c.deref.ensures.value)
          (next_type sub_type types i c.it-item.result c.loop-it-test.true c.it-item.is);
    }
