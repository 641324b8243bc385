use Rattle.std.proofs.Common.{◌≡◌, None, map, subst, sym}
use Rattle.std.specs.Map.{lookup}
use Rattle.std.specs.Prelude.{nat_eq}
use Rattle.std.specs.String.{string_bytes}
use Rattle.wasmparser_names.proofs.ModuleNames.{none_hashed}
use Rattle.wasmparser_names.proofs.module_names.number_of.Goals as goal

pub returns-in_err-number-clause-none : goal.returns-in_err-number-clause-none
returns-in_err-number-clause-none c none =
    none_hashed c.args.hasher.now c.args.numbers.now.entries c.args.name.now (map string_bytes c.args.names.now) c.requires
    (subst (λ hash. lookup (nat_eq hash) c.args.numbers.now.entries ≡ None) c.hash_of.ensures (sym c.in_err-number.ensures.value))
