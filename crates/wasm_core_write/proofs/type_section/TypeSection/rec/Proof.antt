use Rattle.wasm_core_write.proofs.type_section.TypeSection.rec.Statement.{statement}
use Rattle.wasm_core_write.proofs.type_section.TypeSection.rec.Code as code
use Rattle.wasm_core_write.proofs.type_section.TypeSection.push_rec.Met.{met}
use Rattle.wasm_core_write.specs.contracts.type_section.TypeSection.{the_row as R}
use Rattle.std.proofs.alloc.Global.TheLaws as heap_laws
use Rattle.std.specs.contracts.impls.GlobalAllocator.TheImpl.{ghosts}
use Rattle.std.proofs.vec.Vec.TheLaws as vec_laws
use Rattle.wasm_core_types.proofs.types.SubType.TheLaws as item_laws
use Rattle.wasm_core_write.proofs.ChainArguments.{by_value, same_full}
use Rattle.wasm_core_write.proofs.ChainsOfOneMoved.{chains}

pub rec_spec : {M : Type 1} → statement M
rec_spec 𝓤 𝓛 𝓜 𝓡 w = chains 𝓤 𝓛 𝓜 𝓡 0 R (by_value (vec_laws.the_row_laws _ _ ghosts item_laws.the_row_laws heap_laws.the_row_laws) (λ x w. tt)) _ _ _ _ _
    (λ κs a α δ new p. p) (λ κs a α δ s u. same_full s u)
    (code.unfolded 𝓤 𝓛.H 𝓜 𝓡 w) (met 𝓤 𝓛 𝓜 𝓡 (code.calls-wasm_core_write::type_section::TypeSection::push_rec 𝓡.env w))
