use Rattle.std.proofs.Common.{inl, inr, sym, ◌∙◌}
use Rattle.wasmparser_readers.proofs.ModuleLaws.{val_large, val_read, val_unread}
use Rattle.wasmparser_types.specs.ValTypes.{val_type}
use Rattle.wasmparser_bodies.proofs.read_locals.read_local_type.Goals as goal

pub returns-in_default : goal.returns-in_default
returns-in_default c = inl (val_unread _ c.in_default.ensures.0)

pub returns-then-not-val_is_of_module : goal.returns-then-not-val_is_of_module
returns-then-not-val_is_of_module c =
    inr (val_large _ (val_type c.in-Ok.ty) _ c.in-Ok.ensures.0 (λ h. let t = sym c.if-not-val_is_of_module.true ∙ c.val_is_of_module.ensures.1 h in absurd cc))

pub returns : goal.returns
returns c =
    let of = c.val_is_of_module.ensures.0 c.if-not-val_is_of_module.false in
    (val_read _ (val_type c.in-Ok.ty) _ c.in-Ok.ensures.0 of, of, c.in-Ok.ensures.1)
