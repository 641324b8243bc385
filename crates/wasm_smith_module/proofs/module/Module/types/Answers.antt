use Rattle.std.proofs.Common.{sym, ap, ◌∙◌}
use Rattle.wasm_smith_types.specs.Making.{made}
use Rattle.wasm_smith_validity.specs.ValidGroups.{types_of}
use Rattle.wasm_smith_types.proofs.GroupedLaws.{types_of_grouped}
use Rattle.wasm_smith_module.specs.ModuleValue.{ModuleValue}
use Rattle.wasm_smith_module.proofs.module.Module.types.Goals as goal

pub returns : goal.returns
returns c =
    let types = c.self.inside.types in
    c.types.ensures ∙ sym (types_of_grouped types.sizes.items (made types) c.self.invariant)
    ∙ ap (λ (m : ModuleValue). types_of m.made.groups) c.self.view_is
