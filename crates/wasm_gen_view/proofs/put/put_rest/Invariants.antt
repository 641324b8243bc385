use Rattle.std.proofs.Common.{◌≡◌, ◌++◌, codes, drop, string_bytes}
use Rattle.std.specs.List.{flat_map}
use Rattle.wasm_gen_view.proofs.put.put_rest.Given as goal

-- the text so far, then that of the other items, is the text at the start, then that of all items
abbrev pub invariant-loop-item : goal.invariant-loop-item
invariant-loop-item g l =
    string_bytes l.out ++ flat_map (λ item. codes " " ++ g.T.Put.text item) (drop l.item-index l.items)
    ≡ string_bytes l.initial.out ++ flat_map (λ item. codes " " ++ g.T.Put.text item) l.items
