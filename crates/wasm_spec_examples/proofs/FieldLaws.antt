-- Any internal reference and a reference to any structure, as values and as fields.
use Rattle.std.proofs.Common.{refl}
use Rattle.wasm_spec.specs.Matching.{FieldMatches}
use Rattle.wasm_spec.specs.Subtyping.{SubTypes, ValBelow}
use Rattle.wasm_spec.specs.Types.{Abstract, Any, Struct}
use Rattle.wasm_spec.proofs.Closures.{sound, complete}
use Rattle.wasm_spec_examples.specs.TypeExamples.{any, any_structure, const_field, var_field}

module _ {R : Type 0} (sub_at : SubTypes R) where
  pub narrower : ValBelow sub_at any_structure any
  narrower = record { null = λ e. refl; heap = sound sub_at (Abstract Struct) (Abstract Any) refl }

  pub no_wider : ValBelow sub_at any any_structure → ⊥
  no_wider h = let e = complete sub_at {a = Abstract Any} {b = Abstract Struct} h.heap in absurd cc

  pub const_narrowed : FieldMatches sub_at (const_field any_structure) (const_field any)
  const_narrowed = record { same = refl; below = narrower; back = λ e. absurd cc }

  pub const_widened : FieldMatches sub_at (const_field any) (const_field any_structure) → ⊥
  const_widened m = no_wider m.below

  pub var_narrowed : FieldMatches sub_at (var_field any_structure) (var_field any) → ⊥
  var_narrowed m = no_wider (m.back refl)

  pub var_widened : FieldMatches sub_at (var_field any) (var_field any_structure) → ⊥
  var_widened m = no_wider m.below
