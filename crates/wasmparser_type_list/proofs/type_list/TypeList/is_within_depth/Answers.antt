use Rattle.std.proofs.Common.{◌∙◌, ap, sym}
use Rattle.std.specs.Option.{option_copied}
use Rattle.wasmparser_type_list.proofs.Depths.{past, within}
use Rattle.wasmparser_type_list.proofs.type_list.TypeList.is_within_depth.Goals as goal

pub returns-in-Some-clause-within : goal.returns-in-Some-clause-within
returns-in-Some-clause-within c h links above is =
    within c.args.self.now c.requires.agree c.requires.earlier c.args.id links _ above (sym c.chain.ensures ∙ ap option_copied c.in-Some.is) is

pub returns-in-None-clause-past : goal.returns-in-None-clause-past
returns-in-None-clause-past c e = past c.args.self.now c.requires.agree c.requires.earlier c.args.id c.requires.known (sym c.chain.ensures ∙ ap option_copied c.in-None.is)
