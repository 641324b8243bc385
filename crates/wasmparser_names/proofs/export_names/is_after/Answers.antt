use Rattle.std.proofs.Common.{◌≡◌, ◌<◌, ◌-◌, ◌∙◌, ℕ, true, Some, ap, arith, length, slice_get, slice_index_or, sym}
use Rattle.std.specs.Cmp.Lexicographic.{slice_cmp}
use Rattle.std.specs.Ordering.{is_lt, nat_cmp}
use Rattle.wasm_spec.specs.Syntax as spec
use Rattle.wasmparser_readers.specs.Exports.{external_kind}
use Rattle.wasmparser_readers.specs.declared.export.ExternalKind.TheVariants.{Func}
use Rattle.wasmparser_names.proofs.KeptExports.{after_all, listed_len, listed_there, named_there}
use Rattle.wasmparser_names.specs.KeptExports.{listed, name_in, start_at}
use Rattle.wasmparser_names.specs.declared.export_names.KeptExport.{KeptExport}
use Rattle.wasmparser_names.proofs.export_names.is_after.Goals as goal

abbrev none : KeptExport
none = record { end = 0; kind = Func; index = 0 }

pub name_at-requires : goal.name_at-requires
name_at-requires c =
    let few : c.in-Some.last < length c.args.exports.now = omega (arith, c.in-Some.ensures.0, c.in-Some.ensures.1) in
    rw c.start_of.ensures (named_there c.args.names.now 0 c.args.exports.now c.in-Some.last none few c.requires.named)

pub returns : goal.returns
returns c lower =
    let names = c.args.names.now in
    let exports = c.args.exports.now in
    let few : c.in-Some.last < length exports = omega (arith, c.in-Some.ensures.0, c.in-Some.ensures.1) in
    let place : c.in-Some.last ≡ length (listed names 0 exports) - 1 = c.in-Some.ensures.1 ∙ ap (λ (n : ℕ). n - 1) (sym (listed_len names 0 exports)) in
    let e = slice_index_or exports c.in-Some.last none in
    let last : spec.Export = record { name = name_in names (start_at 0 exports c.in-Some.last) e; kind = external_kind e.kind; index = e.index } in
    let there : slice_get (listed names 0 exports) (length (listed names 0 exports) - 1) ≡ Some last = ap (slice_get (listed names 0 exports)) (sym place) ∙ listed_there names 0 exports c.in-Some.last none few in
    let below : is_lt (slice_cmp nat_cmp last.name c.args.name.now) ≡ true =
    ap (λ name. is_lt (slice_cmp nat_cmp name c.args.name.now)) (sym (c.name_at.ensures ∙ ap (λ (n : ℕ). name_in names n e) c.start_of.ensures)) ∙ sym c.lt.ensures ∙ lower
    in
    after_all last c.args.name.now (listed names 0 exports) (c.requires.ordered last there) below
