use Rattle.std.proofs.Common.{◌≡◌, ◌∙◌, is_some, string_bytes, false, ap, sym}
use Rattle.std.proofs.lemmas.Map.Text.{btree_map_updates_text}
use Rattle.wasm_smith_unstructured.proofs.NameLaws.{count_is, is_name_by}
use Rattle.wasm_smith_unstructured.proofs.names.put.Goals as goal

pub returns-clause-put : goal.returns-clause-put
returns-clause-put c = btree_map_updates_text (string_bytes c.args.name) c.args.numbers.now c.insert.new.self _ c.in_ok-insert.ensures.updates

pub returns-clause-one_more : goal.returns-clause-one_more
returns-clause-one_more c =
    let new : is_some c.in_ok-insert.field-0 ≡ false = ap is_some c.in_ok-insert.ensures.old ∙ sym (is_name_by c.args.numbers.now (string_bytes c.args.name)) ∙ c.requires in
    count_is c.insert.new.self ∙ rw (new, ← count_is c.args.numbers.now) at c.in_ok-insert.ensures.len
