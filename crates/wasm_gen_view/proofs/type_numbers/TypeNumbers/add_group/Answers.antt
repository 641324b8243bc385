use Rattle.std.proofs.Common.{◌≡◌, ◌<◌, List, length, sym, ◌∙◌, arith}
use Rattle.std.proofs.lemmas.Bool.Decides.{nat_tests}
use Rattle.std.specs.List.{range_with_len}
use Rattle.wasm_core_types.specs.SubTypes as written
use Rattle.wasm_gen_view.specs.TypeNumbers.{places_from}
use Rattle.wasm_gen_view.proofs.KnownGroups.{range_count}
use Rattle.wasm_gen_view.proofs.NumberLaws.{group_added, same_places}
use Rattle.wasm_gen_view.proofs.type_numbers.TypeNumbers.add_group.Goals as goal

pub returns : goal.returns
returns c before group is trees h =
    let types = c.args.types.now in
    let some : 0 < length types = let is = sym c.is_empty.ensures ∙ c.if-is_empty.false in grind (arith, nat_tests) in
    let places : places_from c.in_ok-number.number 0 (range_with_len 0 (length types)) ≡ places_from c.in_ok-number.number 0 types = same_places c.in_ok-number.number 0 (range_with_len 0 (length types)) types (range_count 0 (length types)) in
    rw (c.in_ok-push_places.ensures, places)
    (group_added written.sub_type types c.args.self.now.groups c.number.new.self c.args.self.now.places.items c.in_ok-number.number some
    (rw (sym c.deref.ensures.value, sym c.in_ok-group.ensures) c.in_ok-number.ensures) before group is trees h)
