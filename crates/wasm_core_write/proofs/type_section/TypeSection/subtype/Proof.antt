use Rattle.wasm_core_write.proofs.type_section.TypeSection.subtype.Statement.{statement}
use Rattle.wasm_core_write.proofs.type_section.TypeSection.subtype.Code as code
use Rattle.wasm_core_write.proofs.type_section.TypeSection.push_subtype.Met.{met}
use Rattle.wasm_core_write.specs.contracts.type_section.TypeSection.{the_row as R}
use Rattle.wasm_core_types.proofs.types.SubType.TheLaws.{the_row_laws as laws}
use Rattle.wasm_core_types.specs.contracts.types.SubType.{the_row as X}
use Rattle.wasm_core_types.specs.declared.types.CompositeType.TheVariants as composite
use lib.Dec.{T}
use denote.Exit.{yes, Last, left}
use denote.Param.Mute.{blank}
use Rattle.wasm_core_write.proofs.ChainArguments.{IsSilent, by_value, same_full}
use Rattle.wasm_core_write.proofs.ChainsOfOneMoved.{chains}

silent_of : (x : X.Denot) (c : composite.the_data) (w : Last (X.exit yes) (record x { composite_type = c })) → T (blank (left (X.exit yes) (record x { composite_type = c }) w))
silent_of x (composite.Func t) w = tt
silent_of x (composite.Array t) w = tt
silent_of x (composite.Struct t) w = tt
silent_of x (composite.Cont t) w = tt

silent : IsSilent X
silent x = silent_of x x.composite_type

pub subtype_spec : {M : Type 1} → statement M
subtype_spec 𝓤 𝓛 𝓜 𝓡 w = chains 𝓤 𝓛 𝓜 𝓡 0 R (by_value laws silent) _ _ _ _ _ (λ κs a α δ new p. p) (λ κs a α δ s u. same_full s u)
    (code.unfolded 𝓤 𝓛.H 𝓜 𝓡 w) (met 𝓤 𝓛 𝓜 𝓡 (code.calls-wasm_core_write::type_section::TypeSection::push_subtype 𝓡.env w))
