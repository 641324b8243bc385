use Rattle.std.proofs.Common.{◌∙◌, ap, arith, false, map, sym, true}
use Rattle.std.proofs.lemmas.List.{append-nil}
use Rattle.std.specs.Global.{Global}
use Rattle.std.specs.declared.vec.Vec.{Vec}
use Rattle.wasm_smith_shapes.specs.Imports.{import_entry}
use Rattle.wasm_smith_shapes.specs.declared.imports.ImportEntry.{ImportEntry}
use Rattle.wasm_smith_types.specs.Copies.{shifted_index}
use Rattle.wasm_smith_externs.proofs.ShapeImportLaws.{entries_begin, last_entry, next_entry}
use Rattle.wasm_smith_externs.proofs.shape_imports.write_entries.Goals as goal
use Rattle.wasm_smith_externs.proofs.shape_imports.write_entries.Goals.{then-takes+in_ok-push_written, else-takes}

pub loop-entry-init : goal.loop-entry-init
loop-entry-init c = rw c.new-imports.ensures.items (record {
  written = entries_begin c.args.drawn c.args.compact (shifted_index c.args.shift.start c.args.shift.by) (map import_entry c.args.entries.now) c.args.unstructured.now;
  taken = omega arith;
})

pub loop-entry-preserved : goal.loop-entry-preserved
loop-entry-preserved c =
    let f = shifted_index c.args.shift.start c.args.shift.by in
    let before = c.loop-entry.invariant in
    elim c.if-takes.branch [
      | then-takes+in_ok-push_written w ↦ record {
        written = next_entry import_entry c.args.drawn c.args.compact f c.args.entries.now c.loop-entry.entry-index c.entry-item.result (map import_entry c.loop-entry.imports.items)
            (map import_entry c.if-takes.imports.items) _ c.loop-entry.unstructured c.takes.new.unstructured true c.loop-entry-test.true c.entry-item.is w.if-takes.ensures.exact (ap (λ (v : Vec ImportEntry Global). map import_entry v.items) w.imports-is ∙ w.in_ok-push_written.ensures) before.written;
        taken = omega arith;
      }
      | else-takes w ↦ record {
        written = next_entry import_entry c.args.drawn c.args.compact f c.args.entries.now c.loop-entry.entry-index c.entry-item.result (map import_entry c.loop-entry.imports.items)
            (map import_entry c.if-takes.imports.items) _ c.loop-entry.unstructured c.takes.new.unstructured false c.loop-entry-test.true c.entry-item.is w.if-takes.ensures.exact (ap (λ (v : Vec ImportEntry Global). map import_entry v.items) w.imports-is ∙ sym (append-nil (map import_entry c.loop-entry.imports.items))) before.written;
        taken = omega arith;
      }
    ]

pub returns-clause-imports : goal.returns-clause-imports
returns-clause-imports c =
    last_entry import_entry c.args.drawn c.args.compact (shifted_index c.args.shift.start c.args.shift.by) c.args.entries.now c.loop-entry.entry-index (map import_entry c.loop-entry.imports.items) _
    c.loop-entry.unstructured c.loop-entry-test.false c.loop-entry.invariant.written
