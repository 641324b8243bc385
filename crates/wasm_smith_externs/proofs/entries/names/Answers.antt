use Rattle.std.proofs.Common.{◌≡◌, string_bytes, sym, subst, arith}
use Rattle.std.specs.Option.{option_to_list}
use Rattle.wasm_encoder_sections.specs.CoreItems.{entity_type}
use Rattle.wasm_smith_externs.specs.Added.{IsImporterFor}
use Rattle.wasm_smith_externs.specs.Candidates.{IsOfferedImport}
use Rattle.wasm_smith_externs.specs.Named.{named}
use Rattle.wasm_smith_externs.proofs.AddedLaws.{more_mapped, types_kept}
use Rattle.wasm_smith_externs.proofs.entries.names.Goals as goal

pub names-preserved : goal.names-preserved
names-preserved c =
    let config = c.args.importer.now.config.now in
    let type = entity_type c.args.ty.now in
    let old = c.names.spaces in
    let new = c.import_of_type-in-names.new.spaces in
    let types : new.types ≡ old.types = types_kept config c.args.importer.now.bounds old new c.names.progress c.import_of_type-in-names.new.progress _ c.in_ok-next.ensures.added in
    record {
      importer = subst (λ ts. IsImporterFor ts c.args.importer.now) (sym types) c.names.invariant.importer;
      offered = subst (λ ts. IsOfferedImport config ts type) (sym types) c.names.invariant.offered;
      added = more_mapped (named c.args.origin.now type) string_bytes config c.args.importer.now.bounds c.args.spaces.now old new c.args.progress.now c.names.progress c.import_of_type-in-names.new.progress
          c.names.names.items (option_to_list c.in_ok-next.next) c.push_some-in-names.new.list.items c.in_ok-push_some-2.ensures c.names.invariant.added c.in_ok-next.ensures.added;
      taken = omega arith;
      fewer = let before = c.names.invariant.fewer in let fewer = c.in_ok-next.ensures.fewer in omega (arith, before, fewer);
    }
