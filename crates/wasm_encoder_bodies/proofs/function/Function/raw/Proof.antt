use Rattle.wasm_encoder_bodies.proofs.function.Function.raw.Statement.{statement}
use Rattle.wasm_encoder_bodies.proofs.function.Function.raw.Code as code
use Rattle.wasm_encoder_bodies.proofs.function.Function.push_raw.Met.{met}
use Rattle.wasm_encoder_bodies.specs.contracts.function.Function.{the_row as R}
use denote.Builtin.{u8}
use Rattle.wasm_core_write.proofs.ChainArguments.{by_slice, first, same_reason}
use Rattle.wasm_core_write.proofs.ChainsOfOne.{chains}

pub raw_spec : {M : Type 1} → statement M
raw_spec 𝓤 𝓛 𝓜 𝓡 w = chains 𝓤 𝓛 𝓜 𝓡 1 R (by_slice first u8) _ _ _ _ _ (λ κs a α δ new p. p) (λ κs a α δ s u. same_reason _ s u)
    (code.unfolded 𝓤 𝓛.H 𝓜 𝓡 w) (met 𝓤 𝓛 𝓜 𝓡 (code.calls-wasm_encoder_bodies::function::Function::push_raw 𝓡.env w))
