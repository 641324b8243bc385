use Rattle.std.proofs.Common.{◌≡◌, [], inl, inr, refl}
use Rattle.wasm_validity.specs.Context.{named_at_element}
use Rattle.wasmparser_entries.specs.Entries.{element_mode}
use Rattle.wasmparser_module_state.proofs.DeclaredLaws.{none_named}
use Rattle.wasmparser_module_state.specs.State.{context}
use Rattle.wasmparser_module_state.proofs.module_state.ModuleState.add_element_kind.Goals as goal

pub returns-in-Passive-clause-declared : goal.returns-in-Passive-clause-declared
returns-in-Passive-clause-declared c = none_named (context c.args.self.now) (named_at_element (element_mode c.args.kind.now)) c.check_bulk_memory.result unnamed
  where
    unnamed : named_at_element (element_mode c.args.kind.now) ≡ []
    unnamed = elim c.in-Passive.is [ inl passive ↦ rw passive refl | inr declared ↦ rw declared refl ]
