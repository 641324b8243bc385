-- The types that a session holds between modules.
use Rattle.std.specs.Prelude.{ℕ, Bool, List, refl}
use Rattle.std.specs.Coded.{Coded, code_by, coded×, coded_ℕ, coded_bool, coded_list}
use Rattle.wasm_spec.specs.Features.{Features}
use Rattle.wasm_spec.specs.Trees.{DefType}
use Rattle.wasmparser_module_types.specs.TreeCodes.{def_type_code}

-- held: the types that its validator's list holds, by id
pub record History : Type 0 where
  pub features : Features
  pub id : ℕ
  pub has_failed : Bool
  pub held : List DefType

abbrev pub history_code : Coded History
history_code =
    code_by (ℕ × (ℕ × (Bool × List DefType))) (coded× coded_ℕ (coded× coded_ℕ (coded× coded_bool (coded_list def_type_code))))
    (λ h. (h.features, (h.id, (h.has_failed, h.held)))) (λ p. record { features = p.0; id = p.1.0; has_failed = p.1.1.0; held = p.1.1.1 }) (λ _. refl)
