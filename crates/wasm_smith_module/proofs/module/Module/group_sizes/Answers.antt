use Rattle.std.proofs.Common.{length, map, sym, ap, ◌∙◌}
use Rattle.wasm_spec.specs.Syntax.{members}
use Rattle.wasm_smith_types.specs.Making.{made}
use Rattle.wasm_smith_module.specs.ModuleValue.{ModuleValue}
use Rattle.wasm_smith_sections.proofs.TypeGroups.{sizes_are}
use Rattle.wasm_smith_module.proofs.module.Module.group_sizes.Goals as goal

pub returns : goal.returns
returns c =
    let types = c.self.inside.types in
    c.sizes.ensures ∙ sym (sizes_are types.sizes.items (made types) c.self.invariant)
    ∙ ap (λ (m : ModuleValue). map (λ group. length (members group)) m.made.groups) c.self.view_is
