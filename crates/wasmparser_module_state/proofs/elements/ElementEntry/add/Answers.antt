use Rattle.std.proofs.Common.{ap, rules, tests}
use Rattle.std.proofs.lemmas.Result.{err_from_is_err_and}
use Rattle.wasmparser_entries.specs.Entries.{element_of, packed_element}
use Rattle.wasmparser_module_types.specs.ModuleTypes.{KnownTypes}
use Rattle.wasmparser_module_state.proofs.ElementLaws.{accepted, items_refused, mode_refused, no_room, not_pushed}
use Rattle.wasmparser_module_state.specs.History.{held}
use Rattle.wasmparser_module_state.specs.State.{context, features_of, reference}
use Rattle.wasmparser_module_state.proofs.elements.ElementEntry.add.Goals as goal

pub returns-in_err-make_room-clause-added : goal.returns-in_err-make_room-clause-added
returns-in_err-make_room-clause-added c =
    let p = err_from_is_err_and c.from_residual.result c.from_residual.ensures.1 in
    rw (p.1, p.2)
    (no_room (features_of c.args.state.now) (context c.args.state.now) (held c.args.state.now) (element_of (packed_element c.args.self)) c.args.offset (search (rules, tests)) _ (context c.make_room.new.self) c.in_err-make_room.ensures.refused c.in_err-make_room.ensures.same)

pub returns-in_err-add_items-clause-added : goal.returns-in_err-add_items-clause-added
returns-in_err-add_items-clause-added c =
    let p = err_from_is_err_and c.from_residual-in_err-add_items.result c.from_residual-in_err-add_items.ensures.1 in
    rw (p.1, p.2)
    (items_refused (features_of c.args.state.now) (context c.args.state.now) (held c.args.state.now) (element_of (packed_element c.args.self)) c.args.offset (search (rules, tests)) (features_of c.make_room.new.self) (context c.make_room.new.self) (context c.add_items.new.self)
    (ap (λ (types : KnownTypes). types.features) c.in_ok-make_room.ensures.types) c.in_ok-make_room.ensures.same c.in_err-add_items.ensures.same
    _ c.in_err-add_items.ensures.judged c.in_err-add_items.ensures.between)

pub returns-in_err-add_element_kind-clause-added : goal.returns-in_err-add_element_kind-clause-added
returns-in_err-add_element_kind-clause-added c =
    let p = err_from_is_err_and c.from_residual-in_err-add_element_kind.result c.from_residual-in_err-add_element_kind.ensures.1 in
    rw (p.1, p.2)
    (mode_refused (features_of c.args.state.now) (context c.args.state.now) (held c.args.state.now) (element_of (packed_element c.args.self)) c.args.offset (search (rules, tests)) (features_of c.make_room.new.self) (context c.make_room.new.self) (context c.add_items.new.self)
    (ap (λ (types : KnownTypes). types.features) c.in_ok-make_room.ensures.types) c.in_ok-make_room.ensures.same c.in_ok-add_items.ensures.same
    (features_of c.add_items.new.self) (reference c.element_type-ty.result) (ap (λ (types : KnownTypes). types.features) c.in_ok-add_items.ensures.types) c.element_type-ty.ensures
    _ (context c.add_element_kind.new.self) c.in_err-add_element_kind.ensures.judged c.in_ok-add_items.ensures.between c.in_err-add_element_kind.ensures.refused)

pub returns-in_err-push_element-clause-added : goal.returns-in_err-push_element-clause-added
returns-in_err-push_element-clause-added c =
    let p = err_from_is_err_and c.from_residual-in_err-push_element.result c.from_residual-in_err-push_element.ensures.1 in
    rw (p.1, p.2)
    (not_pushed (features_of c.args.state.now) (context c.args.state.now) (held c.args.state.now) (element_of (packed_element c.args.self)) c.args.offset (search (rules, tests)) (features_of c.make_room.new.self) (context c.make_room.new.self) (context c.add_items.new.self)
    (ap (λ (types : KnownTypes). types.features) c.in_ok-make_room.ensures.types) c.in_ok-make_room.ensures.same c.in_ok-add_items.ensures.same
    (context c.add_element_kind.new.self) c.in_ok-add_items.ensures.declared c.in_ok-add_element_kind.ensures.declared _ (context c.push_element.new.self) c.in_err-push_element.ensures.refused)

pub returns-clause-added : goal.returns-clause-added
returns-clause-added c =
    accepted (features_of c.args.state.now) (context c.args.state.now) (held c.args.state.now) (element_of (packed_element c.args.self)) c.args.offset (search (rules, tests)) (features_of c.make_room.new.self) (context c.make_room.new.self) (context c.add_items.new.self)
    (ap (λ (types : KnownTypes). types.features) c.in_ok-make_room.ensures.types) c.in_ok-make_room.ensures.same c.in_ok-add_items.ensures.same
    (context c.add_element_kind.new.self) c.in_ok-add_items.ensures.declared c.in_ok-add_element_kind.ensures.declared
    (features_of c.add_items.new.self) (reference c.element_type-ty.result) (context c.push_element.new.self) (ap (λ (types : KnownTypes). types.features) c.in_ok-add_items.ensures.types) c.element_type-ty.ensures
    c.in_ok-add_items.ensures.judged c.in_ok-add_element_kind.ensures.judged c.in_ok-push_element.ensures.pushed
