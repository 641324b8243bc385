-- Judging exports.
use Rattle.std.specs.Prelude.{◌≡◌, ◌≤◌, ℕ, Bool, true}
use Rattle.wasm_spec.specs.Limits.{TypeSize, most}
use Rattle.wasmparser_error.specs.declared.error.Error.{Error}
use Rattle.wasmparser_error.specs.declared.error.ErrorKind.{ErrorKind}
use Rattle.wasmparser_error.specs.declared.error.ErrorKind.TheVariants as kinds

-- The size of a type, or where it passes the limit on sizes some number that does.
pub record CountsAs (size : ℕ) (counted : ℕ) : Type 0 where
  pub exact : counted ≤ most TypeSize → counted ≡ size
  pub large : size ≤ most TypeSize → counted ≤ most TypeSize

-- what a refusal of a name names, of which it is known whether some export has it
abbrev pub NamesName : ℕ → Bool → ErrorKind → ℕ → Type 0
NamesName place has kinds.Invalid offset = (has ≡ true) × (offset ≡ place)
NamesName place has kinds.Memory offset = offset ≡ 0
NamesName place has _ offset = ⊥

abbrev pub IsNameRefusal : ℕ → Bool → Error → Type 0
IsNameRefusal place has e = NamesName place has e.kind e.offset
