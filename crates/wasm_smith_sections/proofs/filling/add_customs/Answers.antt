use Rattle.wasm_smith_sections.proofs.filling.add_customs.Goals as goal
