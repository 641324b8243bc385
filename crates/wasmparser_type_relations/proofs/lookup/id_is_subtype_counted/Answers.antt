use Rattle.std.proofs.Common.{rules, ap, ◌∙◌, Some}
use Rattle.wasmparser_type_relations.proofs.ChainLaws.{tells}
use Rattle.wasmparser_type_relations.proofs.lookup.id_is_subtype_counted.Goals as goal

pub returns-in-Some-clause-answer : goal.returns-in-Some-clause-answer
returns-in-Some-clause-answer g c =
    let law = tells c.get.ensures.chain c.get.ensures.same c.depth-depth.ensures c.get-2.ensures.chain c.get-2.ensures.same c.at.ensures in
    (λ h. law.0 (c.in-Some.is ∙ ap Some (search rules)), λ h. let e = law.1 h in search rules)

pub returns-in-None-clause-answer : goal.returns-in-None-clause-answer
returns-in-None-clause-answer g c =
    let law = tells c.get.ensures.chain c.get.ensures.same c.depth-depth.ensures c.get-2.ensures.chain c.get-2.ensures.same c.at.ensures in
    (λ h. absurd cc, λ h. let e = law.1 h in absurd cc)
