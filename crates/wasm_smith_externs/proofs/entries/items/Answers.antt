use Rattle.std.proofs.Common.{◌≡◌, sym, subst, arith}
use Rattle.std.specs.Option.{option_to_list}
use Rattle.wasm_smith_shapes.specs.Imports.{import_item}
use Rattle.wasm_smith_externs.specs.Added.{IsImporterFor}
use Rattle.wasm_smith_externs.specs.Named.{named_item}
use Rattle.wasm_smith_externs.proofs.AddedLaws.{more_mapped, types_kept}
use Rattle.wasm_smith_externs.proofs.entries.items.Goals as goal

pub items-preserved : goal.items-preserved
items-preserved c =
    let config = c.args.importer.now.config.now in
    let old = c.items.spaces in
    let new = c.item-in-items.new.spaces in
    let types : new.types ≡ old.types = types_kept config c.args.importer.now.bounds old new c.items.progress c.item-in-items.new.progress _ c.in_ok-next.ensures.added in
    record {
      importer = subst (λ ts. IsImporterFor ts c.args.importer.now) (sym types) c.items.invariant.importer;
      added = more_mapped (named_item c.args.origin.now) import_item config c.args.importer.now.bounds c.args.spaces.now old new c.args.progress.now c.items.progress c.item-in-items.new.progress
          c.items.items.items (option_to_list c.in_ok-next.next) c.push_some-in-items.new.list.items c.in_ok-push_some-2.ensures c.items.invariant.added c.in_ok-next.ensures.added;
      taken = omega arith;
      fewer = let before = c.items.invariant.fewer in let fewer = c.in_ok-next.ensures.fewer in omega (arith, before, fewer);
    }
