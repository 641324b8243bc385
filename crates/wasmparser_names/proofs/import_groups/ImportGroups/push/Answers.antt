use Rattle.std.proofs.Common.{◌<◌, length, rules, ap, subst, sym, ◌∙◌}
use Rattle.wasmparser_names.proofs.Names.{inserted, inserted_kept, pushed, pushed_kept, unchanged}
use Rattle.wasmparser_names.specs.ImportNames.{Kept}
use Rattle.wasmparser_names.proofs.import_groups.ImportGroups.push.Goals as goal

pub invariant_of-self : goal.invariant_of-self
invariant_of-self c =
    let same = unchanged _ c.in-Some.items.now c.push.new.self c.self.inside.map.entries _ c.in-Some.ensures.value c.in_err-push.ensures.refused (c.get_mut.follows.holds c.push.new.self).0 in
    (c.self.invariant.0, rw same c.self.invariant.1, (c.get_mut.follows.holds c.push.new.self).5 ∙ c.self.invariant.2)

pub returns-in_err-push-clause-refused : goal.returns-in_err-push-clause-refused
returns-in_err-push-clause-refused c =
    let same = unchanged _ c.in-Some.items.now c.push.new.self c.self.inside.map.entries _ c.in-Some.ensures.value c.in_err-push.ensures.refused (c.get_mut.follows.holds c.push.new.self).0 in
    search (rules, same, c.self.view_is)

pub invariant_of-self-in-Some : goal.invariant_of-self-in-Some
invariant_of-self-in-Some c =
    (c.self.invariant.0, pushed_kept c.self.inside.modules.now.names c.args.item _ c.in-Some.items.now c.push.new.self c.self.inside.map.entries _ c.self.invariant.1 c.in_ok-push.ensures.added (c.get_mut.follows.holds c.push.new.self).0, (c.get_mut.follows.holds c.push.new.self).5 ∙ c.self.invariant.2)

pub returns-in-Some-clause-added : goal.returns-in-Some-clause-added
returns-in-Some-clause-added c =
    let known = subst (λ (kept : Kept). c.args.origin < length kept.modules) (sym c.self.view_is) c.requires in
    rw (← c.self.view_is)
    (ap (λ imports. record { modules = c.self.inside.modules.now.names; imports = imports; hasher = c.self.inside.modules.now.hasher })
    (pushed c.self.inside.modules.now.names c.self.invariant.0 (record { origin = c.args.origin; name = c.args.name }) known c.args.item c.in-Some.items.now c.push.new.self c.self.inside.map.entries _
    c.get_mut.ensures.unique c.self.invariant.1 c.in-Some.ensures.value c.in_ok-push.ensures.added (c.get_mut.follows.holds c.push.new.self).0))

pub invariant_of-self-2 : goal.invariant_of-self-2
invariant_of-self-2 c =
    let known = subst (λ (kept : Kept). c.args.origin < length kept.modules) (sym c.self.view_is) c.requires in (
      c.self.invariant.0,
      inserted_kept c.self.inside.modules.now.names c.args.item c.self.invariant.0 (record { origin = c.args.origin; name = c.args.name }) known c.self.inside.map.entries _ c.self.invariant.1
          (rw (c.get_mut.follows.holds-at-none, c.new.ensures) at c.in_ok-insert.ensures.entries),
      (rw c.get_mut.follows.holds-at-none at c.insert.ensures.hasher) ∙ c.self.invariant.2,
    )

pub returns-clause-added : goal.returns-clause-added
returns-clause-added c =
    let known = subst (λ (kept : Kept). c.args.origin < length kept.modules) (sym c.self.view_is) c.requires in
    rw (← c.self.view_is)
    (ap (λ imports. record { modules = c.self.inside.modules.now.names; imports = imports; hasher = c.self.inside.modules.now.hasher })
    (inserted c.self.inside.modules.now.names c.self.invariant.0 (record { origin = c.args.origin; name = c.args.name }) known c.args.item c.self.inside.map.entries _ c.self.invariant.1
    (sym c.in_default.ensures.value) (rw (c.get_mut.follows.holds-at-none, c.new.ensures) at c.in_ok-insert.ensures.entries)))
