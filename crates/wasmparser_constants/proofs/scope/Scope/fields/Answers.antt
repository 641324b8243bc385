use Rattle.std.proofs.Common.{List, Some, map, ap, ◌∙◌}
use Rattle.wasmparser_constants.proofs.Meanings.{field_ids, fields_are}
use Rattle.wasmparser_constants.specs.Scopes.{context, known}
use Rattle.wasmparser_module_types.specs.ModuleTypes.{IsIdOf}
use Rattle.wasmparser_types.specs.SubTypes.{sub_type}
use Rattle.wasmparser_types.specs.ValTypes.{field_type}
use Rattle.wasmparser_types.specs.declared.val_type.FieldType.{FieldType}
use Rattle.wasmparser_constants.proofs.scope.Scope.fields.Goals as goal

pub returns-clause-same : goal.returns-clause-same
returns-clause-same c =
    fields_are (known c.args.self.now) (context c.args.self.now) c.args.index c.in_ok-id.id (sub_type c.sub_type.result.now) c.deref.result.now
    c.in_ok-id.ensures.named c.sub_type.ensures.unrolled
    (ap (λ (fs : List FieldType). Some (map field_type fs)) c.deref.ensures.value ∙ c.in_ok-ty.ensures)

pub returns-clause-ids : goal.returns-clause-ids
returns-clause-ids c =
    field_ids (known c.args.self.now) (IsIdOf (known c.args.self.now).interned) (sub_type c.sub_type.result.now) c.deref.result.now
    (ap (λ (fs : List FieldType). Some (map field_type fs)) c.deref.ensures.value ∙ c.in_ok-ty.ensures) c.sub_type.ensures.ids
