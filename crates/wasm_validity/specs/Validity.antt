-- Of which modules all is fine but for what their bodies say, and what bytes decide at their front. Core Specification 3.0, Validation, "Modules".
use Rattle.std.specs.Prelude.{ℕ, List}
use Rattle.wasm_spec.specs.Features.{Features, CompactImports, has}
use Rattle.wasm_spec.specs.Limits.{Limit}
use Rattle.wasm_spec.specs.Syntax.{Section}
use Rattle.wasm_validity.specs.Context.{Context, after_all, at_first}
use Rattle.wasm_validity.specs.Entries.{Entry, entries_of}
use Rattle.wasm_validity.specs.Fronts.{BeginsWith}
use Rattle.wasm_validity.specs.Rules.{KeepRules, KeepLimits, PassLimit}

-- ---- entries

-- the entries of a module keep all rules but those on bodies, and pass no limit
pub record AreFine (features : Features) (entries : List Entry) : Type 0 where
  pub rules : KeepRules features at_first entries
  pub limits : KeepLimits at_first entries

-- what is known after all sections of a module
abbrev pub context_of : List Section → Context
context_of sections = after_all at_first (entries_of sections)

-- ---- causes

-- what the bytes say at their front, as far as some point, breaks a rule, whatever follows
pub record BeginsInvalid (features : Features) (bytes : List ℕ) : Type 0 where
  pub entries : List Entry
  pub begins : BeginsWith (has features CompactImports) bytes entries
  pub breaks : ¬ (KeepRules features at_first entries)

-- what the bytes say at their front, as far as some point, passes a limit, whatever follows
pub record BeginsPast (features : Features) (limit : Limit) (bytes : List ℕ) : Type 0 where
  pub entries : List Entry
  pub begins : BeginsWith (has features CompactImports) bytes entries
  pub passes : PassLimit limit at_first entries
