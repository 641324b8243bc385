use Rattle.std.proofs.Common.{◌≡◌, ◌++◌, drop, string_bytes}
use Rattle.wasm_gen_view.specs.Text.{item_line, item_lines, numbered}
use Rattle.wasm_gen_view.proofs.lines.put_items.Given as goal

-- the text so far, then the lines of the other items, is the text at the start, then the lines of all items
abbrev pub invariant-loop-index : goal.invariant-loop-index
invariant-loop-index g l =
    string_bytes l.out ++ numbered (item_line l.word g.T.Put.text) l.index (drop l.index l.items)
    ≡ string_bytes l.initial.out ++ item_lines l.word g.T.Put.text l.items
