use Rattle.std.proofs.Common.{◌≡◌, ◌≢◌, ap, sym, ◌∙◌, subst, refl, slice_get}
use Rattle.wasm_spec.specs.Subtyping.{HeapBelow, same}
use Rattle.wasm_spec.specs.Types.{Concrete}
use Rattle.wasmparser_types.specs.Index.{Id}
use Rattle.wasmparser_type_list.specs.TypeTables.{sub_types}
use Rattle.std.specs.Option.{option_copied}
use Rattle.wasmparser_type_relations.specs.Chains.{StandsIn, by_id}
use Rattle.wasmparser_type_relations.proofs.ChainLaws.{told_apart, told_same}
use Rattle.wasmparser_type_list.proofs.ChainsOfTypes.{chain_tells, top, up}
use Rattle.wasmparser_type_list.proofs.type_list.TypeList.id_is_subtype.Goals as goal

pub loop-b-init : goal.loop-b-init
loop-b-init c = ((λ h. h), (λ h. h))

pub returns-in-Some : goal.returns-in-Some
returns-in-Some c =
    let law = chain_tells c.args.self.now c.requires.agree c.requires.earlier c.loop-b.at c.args.b c.in-Some.chain.now (sym c.chain.ensures ∙ ap option_copied c.in-Some.is) in
    let own = c.chain-in-Some.ensures in (
      (λ h. c.loop-b.invariant.1 (law.0 (subst (λ q. StandsIn q c.in-Some.chain.now c.args.b) own (c.stands_in.ensures.0 h)))),
      (λ h. c.stands_in.ensures.1 (subst (λ q. StandsIn q c.in-Some.chain.now c.args.b) (sym own) (law.1 (c.loop-b.invariant.0 h)))),
    )

pub loop-b-preserved : goal.loop-b-preserved
loop-b-preserved c =
    let differs : c.loop-b.at ≢ c.args.b = told_apart c.ne.result c.loop-b.at c.args.b c.ne.ensures c.loop-b-test.true in
    let step = up c.args.self.now c.requires.agree c.requires.earlier c.loop-b.at c.in-Some-supertype_of.supertype c.args.b (sym c.supertype_of.ensures ∙ c.in-Some-supertype_of.is) differs in
    ((λ h. step.1.0 (c.loop-b.invariant.0 h)), (λ h. c.loop-b.invariant.1 (step.1.1 h)))

pub returns-in-None : goal.returns-in-None
returns-in-None c =
    let differs : c.loop-b.at ≢ c.args.b = told_apart c.ne.result c.loop-b.at c.args.b c.ne.ensures c.loop-b-test.true in
    let none = top c.args.self.now c.requires.agree c.requires.earlier c.loop-b.at c.args.b (sym c.supertype_of.ensures ∙ c.in-None.is) differs in
    ((λ h. absurd cc), (λ h. absurd (none (c.loop-b.invariant.0 h))))

pub returns : goal.returns
returns c =
    let one : c.loop-b.at ≡ c.args.b = told_same c.ne.result c.loop-b.at c.args.b c.ne.ensures c.loop-b-test.false in
    ((λ h. c.loop-b.invariant.1 (subst (λ q. HeapBelow (by_id (slice_get (sub_types c.args.self.now))) (Concrete (Id q)) (Concrete (Id c.args.b))) (sym one) same)), (λ h. refl))
