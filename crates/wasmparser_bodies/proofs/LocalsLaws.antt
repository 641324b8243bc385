-- Validating the locals of a body run by run, as a loop does.
use Rattle.std.proofs.Common.{◌≡◌, ◌≤◌, ◌<◌, ◌+◌, ℕ, true, false, leb, List, ◌++◌, length, replicate, Some, None, refl}
use Rattle.std.proofs.lemmas.Bool.{le-leb, lt-leb}
use Rattle.wasm_bodies.specs.Bodies.{Run, declared_local}
use Rattle.wasm_bodies.specs.BodyContext.{ModuleItems, Local, written}
use Rattle.wasm_core_read.specs.Reading.{unsigned_at}
use Rattle.wasm_spec.specs.Features.{Features}
use Rattle.wasm_spec.specs.Types.{ValType}
use Rattle.wasmparser_bodies.specs.LocalsReading.{LocalsOutcome, TooMany, NoLocals, run_at, with_run, runs_outcome, locals_outcome}

module _ {R : Type 0} (features : Features) (items : ModuleItems R) where
  abbrev Others : Type 0
  Others = List (Local R) → List ℕ → LocalsOutcome R

  -- ---- one run

  pub run_unread : (locals : List (Local R)) (bytes : List ℕ) (others : Others) → run_at bytes ≡ None → with_run features items locals (run_at bytes) others ≡ NoLocals
  run_unread locals bytes others e = rw e refl

  pub run_unwritten : (locals : List (Local R)) (bytes : List ℕ) (run : Run) (rest : List ℕ) (others : Others) → run_at bytes ≡ Some (run, rest) → written features items run.type ≡ None
      → with_run features items locals (run_at bytes) others ≡ NoLocals
  run_unwritten locals bytes run rest others e w = rw (e, w) refl

  pub run_past : (locals : List (Local R)) (bytes : List ℕ) (run : Run) (rest : List ℕ) (type : ValType R) (others : Others) → run_at bytes ≡ Some (run, rest) → written features items run.type ≡ Some type
      → 50000 < length locals + run.count → with_run features items locals (run_at bytes) others ≡ TooMany
  run_past locals bytes run rest type others e w past = let t : leb (length locals + run.count) 50000 ≡ false = lt-leb _ _ past in rw (e, w, t) refl

  pub run_fits : (locals : List (Local R)) (bytes : List ℕ) (run : Run) (rest : List ℕ) (type : ValType R) (others : Others) → run_at bytes ≡ Some (run, rest) → written features items run.type ≡ Some type
      → length locals + run.count ≤ 50000 → with_run features items locals (run_at bytes) others ≡ others (locals ++ replicate run.count (declared_local type)) rest
  run_fits locals bytes run rest type others e w fits = let t : leb (length locals + run.count) 50000 ≡ true = le-leb _ _ fits in rw (e, w, t) refl

  -- ---- how many runs there are

  pub count_unread : (params : List (Local R)) (bytes : List ℕ) → unsigned_at 32 bytes ≡ None → locals_outcome features items params bytes ≡ NoLocals
  unfolding locals_outcome
  count_unread params bytes e = rw e refl

  pub params_past : (params : List (Local R)) (bytes : List ℕ) (n : ℕ) (rest : List ℕ) → unsigned_at 32 bytes ≡ Some (n, rest) → 50000 < length params → locals_outcome features items params bytes ≡ TooMany
  unfolding locals_outcome
  params_past params bytes n rest e past = let t : leb (length params) 50000 ≡ false = lt-leb _ _ past in rw (e, t) refl

  pub params_fit : (params : List (Local R)) (bytes : List ℕ) (n : ℕ) (rest : List ℕ) → unsigned_at 32 bytes ≡ Some (n, rest) → length params ≤ 50000
      → locals_outcome features items params bytes ≡ runs_outcome features items n params rest
  unfolding locals_outcome
  params_fit params bytes n rest e fits = let t : leb (length params) 50000 ≡ true = le-leb _ _ fits in rw (e, t) refl
