use Rattle.std.proofs.Common.{rules, ◌≡◌, ◌<◌, ◌≤◌, ◌∙◌, Some, ap, length, refl, slice_get, slice_index_or, subst, sym}
use Rattle.wasmparser_readers.specs.Exports.{external_kind}
use Rattle.wasmparser_names.proofs.KeptExports.{listed_there, named_there, none_there}
use Rattle.wasmparser_names.specs.KeptExports.{IsNamed, listed, name_in, start_at}
use Rattle.wasmparser_names.proofs.export_names.ExportNames.get.Goals as goal

pub returns-in_err-export : goal.returns-in_err-export
returns-in_err-export c =
    let it = c.self.inside in
    let past : length it.exports.items ≤ c.args.place = search rules in
    rw (c.from_residual.ensures, ← c.self.view_is) (none_there it.names.items 0 it.exports.items c.args.place past)

pub name_at-requires : goal.name_at-requires
name_at-requires c =
    let it = c.self.inside in
    let export = c.in_ok-export.export.now in
    let few : c.args.place < length it.exports.items = search rules in
    let is : export ≡ slice_index_or it.exports.items c.args.place export = c.in_ok-export.ensures.lookup.1 ∙ ap (λ l. slice_index_or l c.args.place export) c.deref.ensures.value in
    rw (c.deref-2.ensures.value, c.start_of.ensures, c.deref-3.ensures.value)
    (subst (IsNamed it.names.items (start_at 0 it.exports.items c.args.place)) (sym is) (named_there it.names.items 0 it.exports.items c.args.place export few c.self.invariant.0))

pub returns : goal.returns
returns c =
    let it = c.self.inside in
    let export = c.in_ok-export.export.now in
    let few : c.args.place < length it.exports.items = search rules in
    let is : export ≡ slice_index_or it.exports.items c.args.place export = c.in_ok-export.ensures.lookup.1 ∙ ap (λ l. slice_index_or l c.args.place export) c.deref.ensures.value in
    let there : slice_get (listed it.names.items 0 it.exports.items) c.args.place ≡ Some (record { name = name_in it.names.items (start_at 0 it.exports.items c.args.place) export; kind = external_kind export.kind; index = export.index }) =
    subst (λ e. slice_get (listed it.names.items 0 it.exports.items) c.args.place ≡ Some (record { name = name_in it.names.items (start_at 0 it.exports.items c.args.place) e; kind = external_kind e.kind; index = e.index })) (sym is)
    (listed_there it.names.items 0 it.exports.items c.args.place export few)
    in
    rw (← c.self.view_is, there, c.name_at.ensures, c.deref-2.ensures.value, c.start_of.ensures, c.deref-3.ensures.value) refl
