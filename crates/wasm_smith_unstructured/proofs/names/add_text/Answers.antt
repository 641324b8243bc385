use Rattle.std.proofs.Common.{length, string_bytes, arith}
use Rattle.wasm_smith_unstructured.specs.Names.{is_name, names_in}
use Rattle.wasm_smith_unstructured.proofs.NameLaws.{none_tried, one_more, still_tried, stays, text_is_new, unchanged_tried}
use Rattle.wasm_smith_unstructured.proofs.names.add_text.Goals as goal

pub returns-in_err-put-clause-tried : goal.returns-in_err-put-clause-tried
returns-in_err-put-clause-tried c = unchanged_tried c.args.numbers.now c.put.new.numbers c.in_err-put.ensures.refused c.requires.tried

pub returns-clause-added : goal.returns-clause-added
returns-clause-added c = record {
  named = text_is_new (is_name (names_in c.args.numbers.now)) _ c.args.text.now (string_bytes c.in_ok-name.name) c.requires.new c.in_ok-name.ensures.ok;
  added = rw c.in_ok-clone.ensures.cases at (one_more c.args.numbers.now c.put.new.numbers (string_bytes c.in_ok-clone.field-0) 0 c.in_ok-put.ensures.put);
  one_more = c.in_ok-put.ensures.one_more;
}

pub returns-clause-tried : goal.returns-clause-tried
returns-clause-tried c =
    let name = string_bytes c.in_ok-clone.field-0 in
    let numbers = c.put.new.numbers in
    still_tried c.args.numbers.now numbers name 0 c.in_ok-put.ensures.put (omega (arith, c.in_ok-put.ensures.one_more)) (stays c.args.numbers.now numbers name 0 c.in_ok-put.ensures.put)
    (none_tried (is_name (names_in numbers)) (length (names_in numbers)) name) c.requires.tried
