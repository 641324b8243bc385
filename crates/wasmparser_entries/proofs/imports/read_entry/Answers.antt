use Rattle.std.proofs.Common.{rules}
use Rattle.wasmparser_entries.proofs.EntryLaws.{plain_entry, single_entry, items_entry, names_entry}
use Rattle.wasmparser_entries.proofs.imports.read_entry.Goals as goal

pub returns-then-not-compact_imports : goal.returns-then-not-compact_imports
returns-then-not-compact_imports c =
    plain_entry _ c.args.reader.now c.read_string.new.self c.read_single.new.reader _ _ c.in_ok-origin.ensures.exact.0 c.in_ok-origin.ensures.exact.1 (search rules) (search rules)

pub returns-then-branch : goal.returns-then-branch
returns-then-branch c =
    items_entry _ c.args.reader.now c.read_string.new.self c.skip_code.new.reader c.read_items.new.reader _ _ c.in_ok-origin.ensures.exact.0 (search rules) (search rules) (search rules) c.read_items.ensures

pub returns-then-branch-2 : goal.returns-then-branch-2
returns-then-branch-2 c =
    names_entry _ c.args.reader.now c.read_string.new.self c.skip_code-2.new.reader c.read_names.new.reader _ _ c.in_ok-origin.ensures.exact.0 (search rules) (search rules) (search rules) c.read_names.ensures

pub returns : goal.returns
returns c =
    single_entry _ c.args.reader.now c.read_string.new.self c.read_single-2.new.reader _ _ c.in_ok-origin.ensures.exact.0 c.in_ok-origin.ensures.exact.1 (search rules) (search rules) (search rules) (search rules)
