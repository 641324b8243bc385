use Rattle.std.proofs.Common.{◌≡◌, ◌∙◌, is_some, length, string_bytes, true, ap, arith}
use Rattle.wasm_smith_unstructured.specs.Names.{is_name, names_in}
use Rattle.wasm_smith_unstructured.specs.Texts.{IsNewName}
use Rattle.wasm_smith_unstructured.proofs.NameLaws.{IsUpdated, few_digits, is_name_by, number_is_new, numbered_added, numbered_tried, stays, unchanged_tried}
use Rattle.wasm_smith_unstructured.proofs.names.add_numbered.Goals as goal

pub returns-in_err-put-clause-tried : goal.returns-in_err-put-clause-tried
returns-in_err-put-clause-tried c = unchanged_tried c.args.numbers.now c.put.new.numbers c.in_err-put.ensures.refused c.requires.tried

pub keep-requires : goal.keep-requires
keep-requires c =
    let there : is_name (names_in c.args.numbers.now) c.args.text.now ≡ true = is_name_by c.args.numbers.now c.args.text.now ∙ ap is_some c.requires.there in
    stays c.args.numbers.now c.put.new.numbers (string_bytes c.in_ok-clone.field-0) 0 c.in_ok-put.ensures.put c.args.text.now there

there : (c : goal.After-keep) → is_name (names_in c.args.numbers.now) c.args.text.now ≡ true
there c = is_name_by c.args.numbers.now c.args.text.now ∙ ap is_some c.requires.there

put : (c : goal.After-keep) → IsUpdated c.args.numbers.now c.put.new.numbers (string_bytes c.in_ok-name.name) 0
put c = rw c.in_ok-clone.ensures.cases at c.in_ok-put.ensures.put

named : (c : goal.After-keep) → IsNewName (is_name (names_in c.args.numbers.now)) (length (names_in c.args.numbers.now)) c.args.text.now (string_bytes c.in_ok-name.name)
named c =
    let found = c.in_ok-name.ensures in
    number_is_new (is_name (names_in c.args.numbers.now)) (length (names_in c.args.numbers.now)) c.args.text.now (string_bytes c.in_ok-name.name) c.in_ok-name.number (there c) found.new found.from found.written found.taken

pub returns-clause-added : goal.returns-clause-added
returns-clause-added c =
    numbered_added c.args.numbers.now c.put.new.numbers c.keep.new.numbers c.args.text.now (string_bytes c.in_ok-name.name) c.in_ok-name.number
    (put c) c.keep.ensures.kept c.in_ok-put.ensures.one_more c.keep.ensures.as_many (there c) (named c)

pub returns-clause-short : goal.returns-clause-short
returns-clause-short c = rw c.in_ok-name.ensures.written (few_digits c.args.text.now c.in_ok-name.number (omega (arith, c.in_ok-name.ensures.few)))

pub returns-clause-tried : goal.returns-clause-tried
returns-clause-tried c =
    numbered_tried c.args.numbers.now c.put.new.numbers c.keep.new.numbers c.args.text.now (string_bytes c.in_ok-name.name) c.in_ok-name.number
    (put c) c.keep.ensures.kept c.in_ok-put.ensures.one_more c.keep.ensures.as_many (there c) c.in_ok-name.ensures.written c.in_ok-name.ensures.taken c.requires.tried
