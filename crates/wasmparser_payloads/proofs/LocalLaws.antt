-- Passing over the locals of a body.
use Rattle.std.proofs.Common.{◌≡◌, ℕ, List, Option, Some, None, Result, Ok, Err, refl, sym, ap, ◌∙◌}
use Rattle.wasm_bodies.specs.Bodies.{Run, IsRun}
use Rattle.wasm_core_read.specs.Laws.{Begins, IsRead, IsRefused, ReadsExactly}
use Rattle.wasm_core_read.specs.Reading.{◌>>=◌, unsigned_at, pair_at}
use Rattle.wasm_core_read.specs.TypeReading.{list_at, val_type_at}
use Rattle.wasm_core_read.proofs.Forms.{reads_unsigned, some_is}
use Rattle.wasm_core_read.proofs.ListForms.{reads_list}
use Rattle.wasm_core_read.proofs.TypeForms.{reads_val_type}
use Rattle.wasm_core_read.proofs.WayForms.{reads_pair, reads_seen}
use Rattle.wasm_core_read.specs.Input.{Input}
use Rattle.wasm_spec.specs.Bytes.{AreBytes, IsU32, IsPair, IsList}
use Rattle.wasm_spec.specs.TypeGrammar.{IsValType}
use Rattle.wasm_spec.specs.TypeReferences.{val_map}
use Rattle.wasm_spec.specs.Types.{ValType}
use Rattle.wasmparser_error.specs.declared.error.Error.{Error}
use Rattle.wasmparser_operators.specs.OperatorAnswers.{OperatorsLeft}
use Rattle.wasmparser_readers.specs.PackedReading.{packed_index, packed_val_at}
use Rattle.wasmparser_readers.specs.Passing.{rest_of}
use Rattle.wasmparser_readers.proofs.ModuleLaws.{val_unread}
use Rattle.wasmparser_readers.proofs.PackedLaws.{val_is}
use Rattle.wasmparser_types.specs.Index.{Index}
use Rattle.wasmparser_payloads.specs.Locals.{run_at, ReadsPastLocals, IsPastLocals}

-- ---- one run

pub no_count : (bytes : List ℕ) → unsigned_at 32 bytes ≡ None → run_at bytes ≡ None
unfolding run_at
no_count bytes e = rw e refl

pub no_type : (bytes : List ℕ) (count : ℕ) (mid : List ℕ) → unsigned_at 32 bytes ≡ Some (count, mid) → packed_val_at mid ≡ None → run_at bytes ≡ None
unfolding run_at
no_type bytes count mid e f = let none = val_unread mid f in rw (e, none) refl

abbrev packed : ValType ℕ × List ℕ → Option (ValType Index × List ℕ)
packed read = Some (val_map packed_index read.0, read.1)

-- a value type leaves what it leaves where its index is packed
type_passed : (bytes : List ℕ) (type : ValType Index) (rest : List ℕ) → packed_val_at bytes ≡ Some (type, rest) → (read : ValType ℕ) × (val_type_at bytes ≡ Some (read, rest))
type_passed bytes type rest e = by_read (val_type_at bytes) refl (sym (val_is bytes) ∙ e)
  where
    by_read : (read : Option (ValType ℕ × List ℕ)) → val_type_at bytes ≡ read → read >>= packed ≡ Some (type, rest) → (read : ValType ℕ) × (val_type_at bytes ≡ Some (read, rest))
    by_read None f g = absurd cc
    by_read (Some read) f g = (read.0, f ∙ ap (λ (l : List ℕ). Some (read.0, l)) (ap (λ x. x.1) (some_is (val_map packed_index read.0, read.1) (type, rest) g)))

pub run_passed : (bytes : List ℕ) (count : ℕ) (mid : List ℕ) (type : ValType Index) (rest : List ℕ) → unsigned_at 32 bytes ≡ Some (count, mid) → packed_val_at mid ≡ Some (type, rest) → rest_of (run_at bytes) ≡ Some rest
unfolding run_at
run_passed bytes count mid type rest e f = let t = type_passed mid type rest f in let g = t.1 in rw (e, g) refl

pub ruleset run_steps = (no_count, no_type, run_passed)

-- ---- by the grammar

reads_run : ReadsExactly IsRun run_at
unfolding run_at
reads_run =
    reads_seen (IsPair IsU32 IsValType) (pair_at (unsigned_at 32) val_type_at) (λ x. record { count = x.0; type = x.1 }) (λ run. (run.count, run.type)) (λ x. refl) (λ run. refl)
    (reads_pair IsU32 (unsigned_at 32) IsValType val_type_at (reads_unsigned 32) reads_val_type)

reads_runs : ReadsExactly (IsList IsRun) (list_at run_at)
reads_runs = reads_list IsRun run_at reads_run

-- what is read is all that the bytes begin with
only : (bytes : List ℕ) (runs : List Run) (rest : List ℕ) → list_at run_at bytes ≡ Some (runs, rest) → (others : List Run) (after : List ℕ) → Begins (IsList IsRun) bytes others after → (others ≡ runs) × (after ≡ rest)
only bytes runs rest e others after b =
    let both = some_is (others, after) (runs, rest) (sym (reads_runs.again b.encoding others after b.encodes) ∙ ap (list_at run_at) (sym b.parts) ∙ e) in
    (ap (λ x. x.0) both, ap (λ x. x.1) both)

none : (bytes : List ℕ) → list_at run_at bytes ≡ None → (others : List Run) (after : List ℕ) → ¬ (Begins (IsList IsRun) bytes others after)
none bytes e others after b = let some = sym (reads_runs.again b.encoding others after b.encodes) ∙ ap (list_at run_at) (sym b.parts) ∙ e in absurd cc

runs_left : (bytes rest : List ℕ) → rest_of (list_at run_at bytes) ≡ Some rest → (runs : List Run) × (list_at run_at bytes ≡ Some (runs, rest))
runs_left bytes rest e = by_read (list_at run_at bytes) refl e
  where
    by_read : (read : Option (List Run × List ℕ)) → list_at run_at bytes ≡ read → rest_of read ≡ Some rest → (runs : List Run) × (list_at run_at bytes ≡ Some (runs, rest))
    by_read None f g = absurd cc
    by_read (Some read) f g = (read.0, f ∙ ap (λ (l : List ℕ). Some (read.0, l)) (some_is read.1 rest g))

pub past_by_grammar : (body : Input) (answer : Result OperatorsLeft Error) → AreBytes body.rest → ReadsPastLocals body answer → IsPastLocals body answer
past_by_grammar body (Ok operators) are h =
    let read = runs_left body.rest operators.input.rest h.0 in
    let found = reads_runs.found body.rest read.0 operators.input.rest are read.1 in (
      read.0,
      record {
        found = record { encoding = found.0; parts = found.1; encodes = found.2 };
        only = only body.rest read.0 operators.input.rest read.1;
        goes_on = h.1;
      },
    )
past_by_grammar body (Err e) are h = record { none = none body.rest h.0; within = h.2 }

pub ruleset by_grammar = (past_by_grammar)
