use Rattle.std.proofs.Common.{refl}
use Rattle.wasmparser_types.specs.SubTypes.{sub_type}
use Rattle.wasmparser_rec_groups.proofs.RuleLaws.{keeps_by, keeps_continues, keeps_extends}
use Rattle.wasmparser_rec_groups.proofs.rules.keeps_rules.Goals as goal

pub returns-then-not-extends_supertypes : goal.returns-then-not-extends_supertypes
returns-then-not-extends_supertypes c =
    ((λ h. absurd cc), (λ k. absurd (let no = c.if-not-extends_supertypes.ensures.1 (keeps_extends c.args.types.now c.args.id (sub_type c.args.it.now) c.requires.is k) in cc)))

pub returns : goal.returns
returns c =
    let tables = c.args.types.now in
    let type = sub_type c.args.it.now in (
      (λ h. keeps_by tables c.args.id type c.requires.is (c.if-not-extends_supertypes.ensures.0 refl) (c.continues_func.ensures.0 h)),
      (λ k. c.continues_func.ensures.1 (keeps_continues tables c.args.id type c.requires.is k)),
    )
