use Rattle.std.proofs.Common.{◌≡◌, ◌∙◌, is_some, false, ap, sym}
use Rattle.std.specs.BTreeMap.{get_by_text}
use Rattle.wasm_smith_unstructured.proofs.NameLaws.{is_name_by}
use Rattle.wasm_smith_unstructured.proofs.names.UniqueNames.add.Goals as goal

pub add_text-requires-clause-new : goal.add_text-requires-clause-new
add_text-requires-clause-new c =
    let none : is_some (get_by_text c.self.inside.numbers c.args.text.now) ≡ false = ap is_some (sym c.get.ensures.value ∙ sym c.copied.ensures ∙ c.in-None.is) in
    is_name_by c.self.inside.numbers c.args.text.now ∙ none
