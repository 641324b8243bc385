use Rattle.wasm_smith_definitions.proofs.globals.global_of.Goals as goal

pub returns-clause-allowed : goal.returns-clause-allowed
returns-clause-allowed c = λ features f. record { type = c.requires.written features f; initialiser = c.in_ok-init.ensures.gives features f }
