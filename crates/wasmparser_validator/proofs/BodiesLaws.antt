-- The bodies of a module one after the other, as a loop validates them.
use Rattle.std.proofs.Common.{◌≡◌, ℕ, ◌<◌, ◌+◌, List, get_or, length, refl, subst, arith, inl, inr}
use Rattle.std.specs.Prelude.{Result}
use Rattle.std.proofs.lemmas.Bool.{cases_lt}
use Rattle.std.proofs.lemmas.Option.{slice_get_read}
use Rattle.wasm_bodies.specs.BodyContext.{ModuleItems}
use Rattle.wasm_core_read.specs.Input.{Input}
use Rattle.wasm_spec.specs.Features.{Features}
use Rattle.wasm_validity.specs.Context.{Context}
use Rattle.wasmparser_error.specs.declared.error.Error.{Error}
use Rattle.wasmparser_types.specs.Index.{Index}
use Rattle.wasmparser_validator.specs.Bodies.{ValidatedAt, ValidatesOwn}

-- the body that stands at a place is validated as the function there
pub validated_at : (features : Features) (items : ModuleItems Index) (cx : Context) (bodies : List Input) (answer : Result (Unit {0}) Error) (place : ℕ) (body : Input) → place < length bodies
    → body ≡ get_or bodies place body → ValidatesOwn features items cx place body answer → ValidatedAt features items cx bodies answer place
validated_at features items cx bodies answer place body lt is own = record { body = body; has = slice_get_read bodies (length bodies) place body refl lt is; own = own }

-- one place more
pub one_more : (P : ℕ → Type 0) (i : ℕ) → ((place : ℕ) → place < i → P place) → P i → (place : ℕ) → place < i + 1 → P place
one_more P i before here place lt = elim (cases_lt place i) [
  | inl below ↦ before place below
  | inr above ↦ let same : i ≡ place = omega (arith, lt, above) in subst P same here
]
