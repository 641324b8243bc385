use Rattle.std.proofs.Common.{◌≡◌, ◌+◌, List, [], true, ap, length, map, sym, take, ◌∙◌, arith, inl, inr}
use Rattle.std.specs.Prelude.{◌==◌}
use Rattle.std.proofs.lemmas.Bool.Decides.{eqb_tells}
use Rattle.std.proofs.lemmas.List.{append-nil, nil_from_length, take-map}
use Rattle.wasmparser_types.specs.declared.val_type.ValType.{ValType}
use Rattle.wasmparser_bodies.specs.StackViews.{operand}
use Rattle.wasmparser_bodies.proofs.TailLaws.{written_all}
use Rattle.wasmparser_bodies.proofs.tails.replace_tail.Goals as goal

none : (types : List ValType) → true ≡ (length types == 0) → types ≡ []
none types e = elim (eqb_tells (length types) 0) [
  | inl (t, zero) ↦ nil_from_length types zero
  | inr (t, some) ↦ let f = e ∙ t in absurd cc
]

pub returns-then-is_empty-clause-ok : goal.returns-then-is_empty-clause-ok
returns-then-is_empty-clause-ok c =
    rw (none c.args.types.now c.if-is_empty.ensures)
    (ap (map operand) c.truncate.ensures.items ∙ sym (take-map operand c.args.at c.args.operands.now.items) ∙ sym (append-nil (take c.args.at (map operand c.args.operands.now.items))))

pub returns-clause-ok : goal.returns-clause-ok
returns-clause-ok c =
    let sized = c.resize.new.self in
    let len : length sized.items ≡ c.args.at + length c.args.types.now = omega (arith, c.in_ok-resize.ensures.len, sized.ok.0) in
    written_all c.write_types.new.operands.items sized.items c.args.operands.now.items c.args.at c.args.types.now _ c.write_types.ensures c.in_ok-resize.ensures.items len c.requires
