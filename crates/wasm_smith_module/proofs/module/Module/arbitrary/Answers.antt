use Rattle.wasm_smith_module.proofs.ArbitraryLaws.{made_from_drawn, nothing_owed, plain_drawn, refused_from_drawn}
use Rattle.wasm_smith_module.proofs.module.Module.arbitrary.Goals as goal

pub returns-clause-made : goal.returns-clause-made
returns-clause-made c =
    made_from_drawn c.args.unstructured.now c.arbitrary-config.new.unstructured c.new.new.unstructured c.arbitrary-config.result c.new.result c.arbitrary-config.ensures.exact c.arbitrary-config.ensures.in_order
    c.new.ensures.made c.new.ensures.drawn

pub returns-clause-refused : goal.returns-clause-refused
returns-clause-refused c =
    refused_from_drawn c.args.unstructured.now c.arbitrary-config.new.unstructured c.new.new.unstructured c.arbitrary-config.result c.new.result c.arbitrary-config.ensures.exact c.arbitrary-config.ensures.in_order
    c.new.ensures.refused c.new.ensures.unread

pub returns-clause-nothing_owed : goal.returns-clause-nothing_owed
returns-clause-nothing_owed c =
    nothing_owed c.args.unstructured.now c.arbitrary-config.new.unstructured c.arbitrary-config.result c.new.result c.arbitrary-config.ensures.exact c.arbitrary-config.ensures.in_order c.new.ensures.refused

pub returns-clause-plain : goal.returns-clause-plain
returns-clause-plain c =
    plain_drawn c.args.unstructured.now c.arbitrary-config.new.unstructured c.arbitrary-config.result c.new.result c.arbitrary-config.ensures.exact c.arbitrary-config.ensures.in_order
    c.new.ensures.made c.new.ensures.plain
