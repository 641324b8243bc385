use Rattle.std.proofs.Common.{◌≡◌, ◌∙◌, is_some, true, false, ap, sym, rules}
use Rattle.std.specs.BTreeMap.{get_by_text}
use Rattle.std.proofs.lemmas.Map.Text.{btree_map_updates_text}
use Rattle.wasm_smith_unstructured.proofs.NameLaws.{is_name_by}
use Rattle.wasm_smith_unstructured.proofs.names.keep.Goals as goal

pub returns-in-Some-clause-kept : goal.returns-in-Some-clause-kept
returns-in-Some-clause-kept c = btree_map_updates_text c.args.name.now c.args.numbers.now (c.get_mut.follows.lender c.args.number) _ ((c.get_mut.follows.holds c.args.number).3 (search rules))

pub returns-in_default-clause-kept : goal.returns-in_default-clause-kept
returns-in_default-clause-kept c =
    let none : is_some (get_by_text c.args.numbers.now c.args.name.now) ≡ false = sym (ap is_some (rw c.in_default.is at c.get_mut.ensures.value)) in
    let both : true ≡ false = sym c.requires ∙ is_name_by c.args.numbers.now c.args.name.now ∙ none in
    absurd cc
