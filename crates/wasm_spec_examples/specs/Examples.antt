-- Values that worked examples share.
use Rattle.std.specs.Prelude.{◌≡◌, ℕ, Bool, true, false, List, [], None}
use Rattle.std.specs.List.{list_all}
use Rattle.wasm_spec.specs.Features.{Flag, Features, has}
use Rattle.wasm_spec.specs.Types.{CompositeType, FuncComposite, SubType, Limits}

-- the type of functions without parameters and results
abbrev pub no_values : CompositeType ℕ
no_values = FuncComposite (record { params = []; results = [] })

-- a final type without supertypes
abbrev pub final_type : CompositeType ℕ → SubType ℕ
final_type composite = record { is_final = true; supertypes = []; composite_type = composite }

-- limits of a minimum alone
abbrev pub at_least : ℕ → Limits
at_least n = record { minimum = n; maximum = None; shared = false; is_64 = false; page_size_log2 = None }

-- something is allowed exactly where these flags are all on
abbrev pub AsksFor : List Flag → (Features → Bool) → Type 0
AsksFor flags is_allowed = (features : Features) → is_allowed features ≡ list_all (has features) flags
