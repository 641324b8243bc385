use Rattle.std.proofs.Common.{◌≡◌, ◌∙◌, length, map, not, true, false, Some, is_some, ap, subst, sym, arith}
use Rattle.std.proofs.lemmas.List.{length-map}
use Rattle.wasm_core_types.specs.SubTypes.{sub_type}
use Rattle.wasm_smith_module.proofs.GivenImports.{given_imports}
use Rattle.wasm_smith_module.proofs.GoodLaws.{byte_limits, imports_fine}
use Rattle.wasm_smith_module.proofs.OwnLaws.{few_shape_types, few_types_given}
use Rattle.wasm_smith_module.proofs.ShapeTypes.{stands_alone}
use Rattle.wasm_smith_module.specs.Asked.{IsGoodFor, imports_start}
use Rattle.wasm_smith_shapes.specs.Imports.{import_entry}
use Rattle.wasm_smith_shapes.specs.Shapes.{shape_types}
use Rattle.wasm_smith_shapes.specs.declared.shape.ShapeUse.TheVariants.{Module, Imports, Exports}
use Rattle.wasm_smith_types.specs.Given.{import_shape, or_else, type_count}
use Rattle.wasm_smith_module.proofs.imports.draw_imports.Goals as goal

pub types_in-requires : goal.types_in-requires
types_in-requires c =
    let good = subst (IsGoodFor c.args.config.now Module) c.in-Some.is c.requires.shapes.module_shape in
    record { few = rw c.deref.ensures.value (rw (sym c.shape.view_is) at (few_shape_types c.args.config.now Module c.in-Some.shape good)) }

pub returns-in-Some-clause-made : goal.returns-in-Some-clause-made
returns-in-Some-clause-made c =
    let config = c.args.config.now in
    let good = subst (IsGoodFor config Module) c.in-Some.is c.requires.shapes.module_shape in
    let asked : import_shape config ≡ Some c.in-Some.shape = ap (λ m. or_else m config.available_imports) c.in-Some.is in
    let alone = stands_alone config c.in-Some.shape c.requires.good c.in-Some.is in
    let none : type_count config.exports ≡ 0 = ap type_count alone.1 in
    let n : c.types_in.result ≡ length (shape_types c.in-Some.shape) = rw (sym c.shape.view_is) (rw c.deref.ensures.value at c.types_in.ensures) in
    let given : type_count (import_shape config) ≡ length (shape_types c.in-Some.shape) = ap type_count asked in
    let at : c.saturating_sub-by.result ≡ imports_start config (length c.args.spaces.now.types) =
    let by = c.saturating_sub-by.ensures in omega (arith, by, length-map c.types.result.now sub_type, ap length c.types.ensures, c.requires.few, n, given, none) in
    given_imports config c.args.duplicates c.args.spaces.now c.shape_imports.new.spaces c.args.unstructured.now c.shape_imports.new.unstructured (map import_entry c.in_ok-entries.entries.items) c.in-Some.shape Module false c.saturating_sub-by.result
    c.requires.good c.requires.types c.requires.few c.requires.start asked (sym (ap (λ m. not (is_some m)) c.in-Some.is)) good at
    (rw (sym c.shape.view_is) (rw c.deref-in-Some.ensures.value at c.in_ok-entries.ensures.imports)) c.in_ok-entries.ensures.spaces

pub types_in-requires-in-Some-available_imports : goal.types_in-requires-in-Some-available_imports
types_in-requires-in-Some-available_imports c =
    let good = subst (IsGoodFor c.args.config.now Imports) c.in-Some-available_imports.is c.requires.shapes.available_imports in
    record { few = rw c.deref-in-Some-available_imports.ensures.value (rw (sym c.shape-in-Some-available_imports.view_is) at (few_shape_types c.args.config.now Imports c.in-Some-available_imports.shape good)) }

pub type_count-requires : goal.type_count-requires
type_count-requires c = record { few = few_types_given c.args.config.now Exports c.args.config.now.exports c.requires.shapes.exports }

pub overflow_add-behind : goal.overflow_add-behind
overflow_add-behind c =
    let config = c.args.config.now in
    let good = subst (IsGoodFor config Imports) c.in-Some-available_imports.is c.requires.shapes.available_imports in
    let few = few_shape_types config Imports c.in-Some-available_imports.shape good in
    let others = few_types_given config Exports config.exports c.requires.shapes.exports in
    let n : c.types_in-in-Some-available_imports.result ≡ length (shape_types c.in-Some-available_imports.shape) =
    rw (sym c.shape-in-Some-available_imports.view_is) (rw c.deref-in-Some-available_imports.ensures.value at c.types_in-in-Some-available_imports.ensures) in
    let m = c.type_count.ensures in
    omega (arith, few, others, n, m)

pub returns-in-Some-available_imports-clause-made : goal.returns-in-Some-available_imports-clause-made
returns-in-Some-available_imports-clause-made c =
    let config = c.args.config.now in
    let shape = c.in-Some-available_imports.shape in
    let good = subst (IsGoodFor config Imports) c.in-Some-available_imports.is c.requires.shapes.available_imports in
    let asked : import_shape config ≡ Some shape = ap (λ m. or_else m config.available_imports) c.in_default.is ∙ c.in-Some-available_imports.is in
    let n : c.types_in-in-Some-available_imports.result ≡ length (shape_types shape) =
    rw (sym c.shape-in-Some-available_imports.view_is) (rw c.deref-in-Some-available_imports.ensures.value at c.types_in-in-Some-available_imports.ensures) in
    let given : type_count (import_shape config) ≡ length (shape_types shape) = ap type_count asked in
    let at : c.saturating_sub-by-in-Some-available_imports.result ≡ imports_start config (length c.args.spaces.now.types) =
    let by = c.saturating_sub-by-in-Some-available_imports.ensures in let m = c.type_count.ensures in omega (arith, by, length-map c.types.result.now sub_type, ap length c.types.ensures, c.requires.few, n, m, given) in
    given_imports config c.args.duplicates c.args.spaces.now c.shape_imports-in-Some-available_imports.new.spaces c.args.unstructured.now c.shape_imports-in-Some-available_imports.new.unstructured
    (map import_entry c.in_ok-entries-2.entries.items) shape Imports true c.saturating_sub-by-in-Some-available_imports.result
    c.requires.good c.requires.types c.requires.few c.requires.start asked (sym (ap (λ m. not (is_some m)) c.in_default.is)) good at
    (rw (sym c.shape-in-Some-available_imports.view_is) (rw c.deref-in-Some-available_imports-2.ensures.value at c.in_ok-entries-2.ensures.imports)) c.in_ok-entries-2.ensures.spaces

pub imports-requires-clause-ordered : goal.imports-requires-clause-ordered
imports-requires-clause-ordered c = imports_fine c.args.config.now c.requires.good

pub imports-requires-clause-limits : goal.imports-requires-clause-limits
imports-requires-clause-limits c = byte_limits c.args.config.now c.requires.good
