use Rattle.std.proofs.Common.{◌≡◌, ap, map, subst, ◌∙◌, ◌+◌, drop, get_or, false, arith}
use Rattle.std.proofs.lemmas.List.{map_push}
use Rattle.std.proofs.lemmas.Result.{err_from_is_err_and}
use Rattle.wasm_core_types.specs.declared.types.ValType.TheVariants.{I32}
use Rattle.wasm_encoder_sections.specs.CoreItems.{global_type}
use Rattle.wasm_encoder_sections.specs.declared.entity_type.GlobalType.{GlobalType}
use Rattle.wasm_smith_definitions.specs.Constants.{has_plain}
use Rattle.wasm_smith_definitions.specs.Items as items
use Rattle.wasm_smith_definitions.specs.Kinds.{of_global}
use Rattle.wasm_smith_definitions.proofs.OwnStepLaws.{AreMade, MayHoldGlobals, left_is, made_goes_on, not_empty, one_global_less, one_refused}
use Rattle.wasm_smith_definitions.proofs.globals.shape_globals.Goals as goal

abbrev none : GlobalType
none = record { val_type = I32; mutable = false }

pub global_of-requires-clause-written : goal.global_of-requires-clause-written
global_of-requires-clause-written c = λ features f.
    let here = subst (MayHoldGlobals c.args.config.now c.loop-ty.spaces) (left_is global_type c.args.types.now c.loop-ty.ty-index none c.loop-ty-test.true) c.loop-ty.invariant.may_hold in
    (here.kept features f).0

pub returns-in_err-global-clause-refused : goal.returns-in_err-global-clause-refused
returns-in_err-global-clause-refused c =
    let p = err_from_is_err_and c.from_residual.result c.from_residual.ensures.1 in
    rw (p.1, p.2) (one_refused (λ t. has_plain t.value_type ≡ false) global_type c.args.types.now c.loop-ty.ty-index none _ c.loop-ty-test.true c.in_err-global.ensures.refused)

pub loop-ty-preserved : goal.loop-ty-preserved
loop-ty-preserved c =
    let i = c.loop-ty.ty-index in
    let first = global_type (get_or c.args.types.now i none) in
    let rest = map global_type (drop (i + 1) c.args.types.now) in
    let left = left_is global_type c.args.types.now i none c.loop-ty-test.true in
    record {
      may_hold = one_global_less c.args.config.now c.loop-ty.spaces c.push_global.new.self first _ rest (subst (MayHoldGlobals c.args.config.now c.loop-ty.spaces) left c.loop-ty.invariant.may_hold)
          c.in_ok-push_global.ensures.added;
      made = made_goes_on c.args.config.now of_global (λ g. g.type) (map global_type c.args.types.now) c.args.spaces.now c.loop-ty.spaces c.push_global.new.self (map items.global c.loop-ty.own.items)
          (map items.global c.push.new.list.items) (items.global c.in_ok-global.global) first rest
          (subst (AreMade c.args.config.now of_global (λ g. g.type) (map global_type c.args.types.now) c.args.spaces.now c.loop-ty.spaces (map items.global c.loop-ty.own.items)) left c.loop-ty.invariant.made)
          c.in_ok-global.ensures.allowed c.in_ok-global.ensures.typed c.in_ok-push_global.ensures.added (ap (map items.global) c.in_ok-push.ensures ∙ map_push items.global _ _);
      unread = λ empty. absurd (not_empty c.args.types.now i c.loop-ty-test.true empty);
      taken = omega arith;
    }
