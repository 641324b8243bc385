use Rattle.std.proofs.Common.{rules, ap, sym, ◌∙◌, length, arith}
use Rattle.std.specs.Option.{option_copied}
use Rattle.wasmparser_type_list.proofs.ChainsOfTypes.{chain_is_kept, told_chain}
use Rattle.wasmparser_type_list.proofs.type_list.TypeList.get_subtyping_depth.Goals as goal

pub unwrap-requires : goal.unwrap-requires
unwrap-requires c =
    let kept = c.chain.ensures ∙ chain_is_kept c.args.self.now c.requires.agree c.requires.earlier c.args.id c.requires.chain in
    search rules

pub overflow_cast-result : goal.overflow_cast-result
overflow_cast-result c =
    let same = told_chain c.args.self.now c.requires.agree c.requires.earlier c.args.id c.requires.chain c.unwrap.result.now (sym c.chain.ensures ∙ ap option_copied c.unwrap.ensures) in
    omega (arith, c.requires.chain.within, ap length same, c.depth.ensures)

pub returns : goal.returns
returns c =
    let same = told_chain c.args.self.now c.requires.agree c.requires.earlier c.args.id c.requires.chain c.unwrap.result.now (sym c.chain.ensures ∙ ap option_copied c.unwrap.ensures) in
    (c.requires.chain, omega (arith, ap length same, c.depth.ensures))
