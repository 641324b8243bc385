use Rattle.wasm_encoder_bodies.proofs.function.Function.instruction.Statement.{statement}
use Rattle.wasm_encoder_bodies.proofs.function.Function.instruction.Code as code
use Rattle.wasm_encoder_bodies.proofs.function.Function.push.Met.{met}
use Rattle.wasm_encoder_bodies.specs.contracts.function.Function.{the_row as R}
use Rattle.wasm_encoder_instructions.specs.contracts.instruction.Instruction.{the_row as Instruction}
use Rattle.std.proofs.Common.{refl}
use Rattle.wasm_core_write.proofs.ChainArguments.{by_lent_ref, lent_outlives, first, second, same_full}
use Rattle.wasm_core_write.proofs.ChainsOfOne.{chains_within}

pub instruction_spec : {M : Type 1} → statement M
instruction_spec 𝓤 𝓛 𝓜 𝓡 w = chains_within 𝓤 𝓛 𝓜 𝓡 2 lent_outlives (λ κs α t. t) R (by_lent_ref first second Instruction (λ κs. refl)) _ _ _ _ _
    (λ κs a α δ new p. p) (λ κs a α δ s u. same_full s u)
    (code.unfolded 𝓤 𝓛.H 𝓜 𝓡 w) (met 𝓤 𝓛 𝓜 𝓡 (code.calls-wasm_encoder_bodies::function::Function::push 𝓡.env w))
