-- The effects of single operators.
use Rattle.std.proofs.Common.{◌≡◌, ℕ, refl, sym, ap, Option, Some, None, replicate}
use Rattle.std.specs.Option.{option_and_then, option_map}
use Rattle.std.proofs.lemmas.Option.{none-some}
use Rattle.wasm_bodies.specs.BodyContext.{ModuleItems, unpacked}
use Rattle.wasm_bodies.specs.Signatures.{makes}
use Rattle.wasm_spec.specs.Types.{FieldType, ValType}
use Rattle.wasm_bodies.specs.Operands.{State}
use Rattle.wasmparser_bodies.specs.StackChanges.{lowered}

pub whole_list : {R : Type 0} (s : State R) → lowered 0 s ≡ s
whole_list s = refl

pub ruleset selects = (whole_list)

pub ruleset replaces = (whole_list)

some_is : {X : Type 0} (a b : X) → Some a ≡ Some b → a ≡ b
some_is a b e = cc

-- an array of so many elements
pub fixed_is : {R : Type 0} (items : ModuleItems R) (type count : ℕ) (t : ValType R) (element : Option (FieldType R)) → Some t ≡ option_map unpacked element
    → option_and_then (λ field. makes items type (replicate count (unpacked field))) element ≡ makes items type (replicate count t)
fixed_is items type count t None e = absurd (none-some _ (sym e))
fixed_is items type count t (Some field) e = ap (λ u. makes items type (replicate count u)) (sym (some_is _ _ e))
