use Rattle.std.proofs.Common.{◌≡◌, ◌≤◌, true, false, length}
use Rattle.wasm_spec.specs.Limits.{Types, most}
use Rattle.wasmparser_module_state.proofs.EntryLaws.{StandsEntered}
use Rattle.wasmparser_module_state.specs.History.{grows, held}
use Rattle.wasmparser_module_state.specs.State.{context, features_of}
use Rattle.wasmparser_module_state.proofs.entry.add_entries.Given as goal

abbrev pub invariant-items : goal.invariant-items
invariant-items g l =
    StandsEntered (features_of l.fn.state) g.T.Entry.entry_at (context l.fn.state) (held l.fn.state) l.fn.section.left (context l.state) (held l.state) l.items
    × (length (context l.state).types ≤ most Types) × (features_of l.state ≡ features_of l.fn.state) × (grows l.state ≡ true) × (g.T.Entry.adds_types ≡ false → l.state.types ≡ l.fn.state.types)
