use Rattle.wasm_encoder_custom.proofs.producers.ProducersField.value.Statement.{statement}
use Rattle.wasm_encoder_custom.proofs.producers.ProducersField.value.Code as code
use Rattle.wasm_encoder_custom.proofs.producers.ProducersField.push.Met.{met}
use Rattle.wasm_encoder_custom.specs.contracts.producers.ProducersField.{the_row as R}
use Rattle.wasm_core_write.proofs.ChainArguments.{by_str, first, second, same_full}
use Rattle.wasm_core_write.proofs.ChainsOfTwo.{chains}

pub value_spec : {M : Type 1} → statement M
value_spec 𝓤 𝓛 𝓜 𝓡 w = chains 𝓤 𝓛 𝓜 𝓡 2 R (by_str first) (by_str second) _ _ _ _ _ (λ κs a α δ new p. p) (λ κs a α δ s u. same_full s u)
    (code.unfolded 𝓤 𝓛.H 𝓜 𝓡 w) (met 𝓤 𝓛 𝓜 𝓡 (code.calls-wasm_encoder_custom::producers::ProducersField::push 𝓡.env w))
