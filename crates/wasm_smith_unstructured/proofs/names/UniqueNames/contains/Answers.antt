use Rattle.std.proofs.Common.{◌∙◌, sym}
use Rattle.wasm_smith_unstructured.proofs.NameLaws.{is_name_by}
use Rattle.wasm_smith_unstructured.proofs.names.UniqueNames.contains.Goals as goal

pub returns : goal.returns
returns c = rw (← c.self.view_is) (c.contains_key.ensures ∙ sym (is_name_by c.self.inside.numbers c.args.text.now))
