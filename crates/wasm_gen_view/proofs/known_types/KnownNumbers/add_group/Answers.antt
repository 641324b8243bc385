use Rattle.std.proofs.Common.{Some, sym, ap, ◌∙◌}
use Rattle.wasm_gen_view.proofs.KnownNumbers.{known_goes_on, new_goes_on}
use Rattle.wasmparser_validator.specs.Shown.{known}
use Rattle.wasm_gen_view.proofs.known_types.KnownNumbers.add_group.Goals as goal
use Rattle.wasm_gen_view.proofs.known_types.KnownNumbers.add_group.Goals.{in-Some, in-None+in_ok-number-in-None}

pub returns-clause-so_far : goal.returns-clause-so_far
returns-clause-so_far c section are here so_far =
    let types = known c.args.types.now in
    let old = c.args.self.now in
    let first = c.group_of-group.result.first in
    let count = c.group_of-group.result.count in
    let places = c.in_ok-add_places.ensures.places in
    let groups = c.in_ok-add_places.ensures.groups in
    elim c.match-get.branch [
      | in-Some w ↦
          let named = sym c.get.ensures ∙ w.in-Some.is ∙ ap Some (sym w.number-is) in
          rw (groups, places, w.self-is)
          (known_goes_on types are section old.types.groups old.types.places.items old.numbers so_far c.args.id first count c.group_of-group.ensures.group here c.match-get.number named)
      | in-None+in_ok-number-in-None w ↦
          let added = w.in_ok-number-in-None.ensures in
          let unnamed = sym c.get.ensures ∙ w.in-None.is in
          rw (groups, places, w.number-is, w.self-is, added.places)
          (new_goes_on types are section old.types.groups old.types.places.items old.numbers so_far c.args.id first count c.group_of-group.ensures.group here unnamed w.in_ok-number-in-None.number
          w.number.new.self.types.groups w.number.new.self.numbers added.numbered added.named)
    ]
