-- Which types operators may want of their operands in a module, by two tests.
use Rattle.std.specs.Prelude.{ℕ, Bool, ◌&&◌}
use Rattle.wasm_bodies_laws.specs.References.{is_wanted_under}
use Rattle.wasm_spec.specs.Features.{Features}
use Rattle.wasm_spec.specs.Types.{ValType}
use Rattle.wasm_validity_laws.specs.Written.{is_named}

-- both tests let it through
abbrev pub is_both : {R : Type 0} → (ValType R → Bool) → (ValType R → Bool) → ValType R → Bool
is_both p q type = p type && q type

-- its reference is one of so many indexes, and the features let it be wanted
abbrev pub is_named_under : ℕ → Features → ValType ℕ → Bool
is_named_under n features type = is_both (is_named n) (is_wanted_under features) type
