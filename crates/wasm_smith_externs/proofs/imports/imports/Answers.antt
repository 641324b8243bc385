use Rattle.std.proofs.Common.{◌≡◌, ◌<◌, [], map, ap, sym, ◌∙◌, inl, inr, refl, subst, arith}
use Rattle.std.specs.Option.{option_to_list}
use Rattle.wasm_smith_config.specs.declared.config.Config.{Config}
use Rattle.wasm_smith_shapes.specs.Imports.{import_entry}
use Rattle.std.specs.List.{AllByRecursion}
use Rattle.wasm_smith_externs.specs.Added.{AreAdded, AreMadeSoFar, IsImporterFor}
use Rattle.wasm_smith_externs.specs.Imports.{IsMadeEntry}
use Rattle.wasm_smith_externs.specs.Named.{all_named}
use Rattle.wasm_smith_externs.proofs.AddedLaws.{types_kept}
use Rattle.wasm_smith_externs.proofs.ImportLaws.{begins, ends, imports_grown, lacking, more_made, none_made}
use Rattle.wasm_smith_externs.proofs.imports.imports.Goals as goal

pub grow-init : goal.grow-init
grow-init c =
    let none : map import_entry c.new-entries.result.items ≡ [] = rw c.new-entries.ensures.items refl in
    record {
      importer = subst (λ ts. IsImporterFor ts c.in_ok-importer.importer) c.types.ensures c.in_ok-importer.ensures.importer;
      config = c.in_ok-importer.ensures.config;
      bounds = c.in_ok-importer.ensures.bounds;
      made = subst (AreMadeSoFar c.args.config.now c.args.bounds c.args.duplicates c.args.spaces.now c.args.spaces.now c.new-progress.result) (sym none)
          (none_made c.args.config.now c.args.bounds c.args.duplicates c.args.spaces.now c.new-progress.result c.new-progress.ensures.count c.new-progress.ensures.left c.new-progress.ensures.size_left c.new-progress.ensures.duplicates);
      taken = omega arith;
      begun = inl (none, refl, refl, c.new-progress.ensures.count, c.new-progress.ensures.left);
    }

pub grow-preserved : goal.grow-preserved
grow-preserved c =
    let config = c.args.config.now in
    let same = c.grow.invariant.config in
    let bounds = c.args.bounds in
    let within = c.grow.invariant.bounds in
    let old = c.grow.spaces in
    let new = c.entry.new.spaces in
    let entries = map import_entry c.grow.entries.items in
    let added = subst (λ (it : Config). AreAdded it bounds old new c.grow.progress c.entry.new.progress (all_named (map import_entry (option_to_list c.in_ok-next.next)))) same (rw within at c.in_ok-next.ensures.added) in
    let made = subst (λ (it : Config). AllByRecursion (IsMadeEntry it) (map import_entry (option_to_list c.in_ok-next.next))) same c.in_ok-next.ensures.made in
    let types : new.types ≡ old.types = types_kept config bounds old new c.grow.progress c.entry.new.progress _ added in
    record {
      importer = subst (λ ts. IsImporterFor ts c.in_ok-importer.importer) (sym types) c.grow.invariant.importer;
      config = same;
      bounds = within;
      made = more_made import_entry config bounds c.args.duplicates c.args.spaces.now old new c.grow.progress c.entry.new.progress c.grow.entries.items (option_to_list c.in_ok-next.next) c.push_some.new.list.items
          c.in_ok-push_some.ensures c.grow.invariant.made added made;
      taken = omega arith;
      begun = inr (begins config bounds c.args.spaces.now old c.args.unstructured.now c.grow.unstructured c.has_another.new.unstructured c.grow.progress entries c.grow.invariant.begun
          (λ count left. rw (same, within, c.grow-test.true) at (c.has_another.ensures.first count (left ∙ sym (ap (λ (it : Config). it.max_imports) same)))));
    }

pub returns-clause-grown : goal.returns-clause-grown
returns-clause-grown c =
    let config = c.args.config.now in
    let same = c.grow.invariant.config in
    let bounds = c.args.bounds in
    let within = c.grow.invariant.bounds in
    imports_grown config bounds c.args.duplicates c.args.spaces.now c.grow.spaces c.args.unstructured.now c.has_another.new.unstructured c.grow.progress (map import_entry c.grow.entries.items) c.grow.invariant.made (let stop = c.if-count-config.false in let count = c.count.ensures in omega (arith, stop, count))
    (ends config bounds c.args.spaces.now c.grow.spaces c.args.unstructured.now c.grow.unstructured c.has_another.new.unstructured c.grow.progress (map import_entry c.grow.entries.items) c.grow.invariant.begun
    (λ count left. rw (same, within, c.grow-test.false) at (c.has_another.ensures.first count (left ∙ sym (ap (λ (it : Config). it.max_imports) same)))))

pub returns-then-count-config-clause-refused : goal.returns-then-count-config-clause-refused
returns-then-count-config-clause-refused c =
    let config = c.args.config.now in
    let same = c.grow.invariant.config in
    let bounds = c.args.bounds in
    let within = c.grow.invariant.bounds in
    let owed : c.grow.progress.count < config.min_imports = let less = c.if-count-config.true in let count = c.count.ensures in omega (arith, less, count) in
    inr (
      refl,
      lacking config bounds c.args.duplicates c.args.spaces.now c.grow.spaces c.grow.progress (map import_entry c.grow.entries.items) c.requires.ordered c.grow.invariant.made owed
          (rw (same, within) at (c.has_another.ensures.ended c.grow-test.false (rw same owed))),
    )
