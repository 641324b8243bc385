-- The meaning of an outcome of locals: which runs read, and what they declare.
use Rattle.std.proofs.Common.{◌≡◌, ◌≢◌, ◌⊎◌, inl, inr, ℕ, zero, suc, ◌+◌, ◌<◌, ◌≤◌, true, List, [], ◌∷◌, ◌++◌, length, map, replicate, Option, Some, None, is_some, refl, sym, ap, subst, ◌∙◌, append_assoc, arith}
use Rattle.std.specs.List.{AllByRecursion}
use Rattle.std.specs.Prelude.{sum_by}
use Rattle.std.proofs.lemmas.Bool.Decides.{leb_tells}
use Rattle.std.proofs.lemmas.List.{append-nil, length-append, length-map, length-replicate}
use Rattle.std.proofs.lemmas.List.Sums.{sum_by-cons}
use Rattle.wasm_bodies.specs.Bodies.{Run, IsRun, local_count, IsWritten, parameter, declared_local, locals_of_run, locals_of_runs, AreLocals, HasManyLocals}
use Rattle.wasm_bodies.specs.BodyContext.{ModuleItems, Local, written}
use Rattle.wasm_core_read.specs.Laws.{ReadsExactly}
use Rattle.wasm_core_read.specs.Reading.{unsigned_at, pair_at}
use Rattle.wasm_core_read.specs.TypeReading.{val_type_at}
use Rattle.wasm_core_read.proofs.Forms.{joined, rest_bytes, reads_unsigned, unsigned_found, unsigned_again}
use Rattle.wasm_core_read.proofs.TypeForms.{reads_val_type}
use Rattle.wasm_core_read.proofs.WayForms.{reads_pair, reads_seen}
use Rattle.wasm_spec.specs.Bytes.{AreBytes, IsU32, IsPair, IsItems}
use Rattle.wasm_spec.specs.Features.{Features}
use Rattle.wasm_spec.specs.Limits as limits
use Rattle.wasm_spec.specs.TypeGrammar.{IsValType}
use Rattle.wasm_spec.specs.Types.{ValType, FuncType}
use Rattle.wasmparser_bodies.specs.LocalsReading.{LocalsOutcome, Locals, TooMany, NoLocals, run_at, with_locals, with_run, runs_outcome, with_count, locals_outcome, Declares}
use Rattle.wasmparser_bodies.proofs.LocalsLaws.{run_past, run_fits, params_past, params_fit}

pub reads_run : ReadsExactly IsRun run_at
unfolding run_at
reads_run =
    reads_seen (IsPair IsU32 IsValType) (pair_at (unsigned_at 32) val_type_at) (λ x. record { count = x.0; type = x.1 }) (λ run. (run.count, run.type)) (λ x. refl) (λ run. refl)
    (reads_pair IsU32 (unsigned_at 32) IsValType val_type_at (reads_unsigned 32) reads_val_type)

total : List Run → ℕ
total runs = sum_by (λ run. run.count) runs

total_cons : (run : Run) (runs : List Run) → total (run ∷ runs) ≡ run.count + total runs
unfolding total
total_cons run runs = sum_by-cons (λ (r : Run). r.count) run runs

pub some_of : {A : Type 0} (o : Option A) → is_some o ≡ true → (a : A) × (o ≡ Some a)
some_of None e = absurd cc
some_of (Some a) e = (a, refl)

module _ {R : Type 0} (features : Features) (items : ModuleItems R) where
  abbrev Others : Type 0
  Others = List (Local R) → List ℕ → LocalsOutcome R

  abbrev Written : List Run → Type 0
  Written runs = AllByRecursion (IsWritten features items) runs

  -- ---- how many locals runs declare

  run_length : (count : ℕ) (o : Option (ValType R)) → is_some o ≡ true → length (locals_of_run count o) ≡ count
  run_length count None e = absurd cc
  run_length count (Some type) e = length-replicate count (declared_local type)

  runs_length : (runs : List Run) → Written runs → length (locals_of_runs features items runs) ≡ total runs
  unfolding total
  runs_length [] w = refl
  runs_length (run ∷ runs) w =
      let more : sum_by (λ (r : Run). r.count) (run ∷ runs) ≡ run.count + sum_by (λ (r : Run). r.count) runs = sum_by-cons (λ (r : Run). r.count) run runs in
      omega (
        arith,
        more,
        length-append (locals_of_run run.count (written features items run.type)) (locals_of_runs features items runs),
        run_length run.count (written features items run.type) w.0,
        runs_length runs w.1,
      )

  more_length : (locals : List (Local R)) (count : ℕ) (type : ValType R) → length (locals ++ replicate count (declared_local type)) ≡ length locals + count
  more_length locals count type = omega (arith, length-append locals (replicate count (declared_local type)), length-replicate count (declared_local type))

  -- locals, those of a run, and those of other runs
  run_more : (locals : List (Local R)) (run : Run) (runs : List Run) (type : ValType R) → written features items run.type ≡ Some type
      → (locals ++ replicate run.count (declared_local type)) ++ locals_of_runs features items runs ≡ locals ++ locals_of_runs features items (run ∷ runs)
  run_more locals run runs type w =
      append_assoc locals (replicate run.count (declared_local type)) (locals_of_runs features items runs)
      ∙ ap (λ o. locals ++ (locals_of_run run.count o ++ locals_of_runs features items runs)) (sym w)

  -- ---- from runs to the outcome

  first_again : (h : List ℕ) (run : Run) (rest : List ℕ) → IsRun h run → run_at (h ++ rest) ≡ Some (run, rest)
  first_again h run rest is = reads_run.again h run rest is

  runs_again : (runs : List Run) (locals : List (Local R)) (entries rest : List ℕ) → IsItems IsRun entries runs → Written runs → length locals + total runs ≤ 50000
      → runs_outcome features items (length runs) locals (entries ++ rest) ≡ Locals (locals ++ locals_of_runs features items runs) rest
  unfolding runs_outcome
  runs_again [] locals entries rest h w le = rw h (ap (λ l. Locals l rest) (sym (append-nil locals)))
  runs_again (run ∷ runs) locals entries rest h w le =
      let type = some_of (written features items run.type) w.0 in
      let apart : entries ++ rest ≡ h.0 ++ (h.1 ++ rest) = rw h.2 (append_assoc h.0 h.1 rest) in
      let more = locals ++ replicate run.count (declared_local type.0) in
      ap (runs_outcome features items (suc (length runs)) locals) apart
      ∙ run_fits features items locals (h.0 ++ (h.1 ++ rest)) run (h.1 ++ rest) type.0 (λ l r. runs_outcome features items (length runs) l r) (first_again h.0 run (h.1 ++ rest) h.3) type.1
      (omega (arith, le, total_cons run runs))
      ∙ runs_again runs more h.1 rest h.4 w.1 (omega (arith, le, total_cons run runs, more_length locals run.count type.0))
      ∙ ap (λ l. Locals l rest) (run_more locals run runs type.0 type.1)

  many_again : (n : ℕ) (runs : List Run) (locals : List (Local R)) (entries rest : List ℕ) → IsItems IsRun entries runs → Written runs → length runs ≤ n → length locals ≤ 50000 → 50000 < length locals + total runs
      → runs_outcome features items n locals (entries ++ rest) ≡ TooMany
  unfolding runs_outcome total
  many_again n [] locals entries rest h w among le past = absurd (omega (arith, le, past))
  many_again zero (run ∷ runs) locals entries rest h w among le past = absurd (omega (arith, among))
  many_again (suc n) (run ∷ runs) locals entries rest h w among le past =
      let type = some_of (written features items run.type) w.0 in
      let apart : entries ++ rest ≡ h.0 ++ (h.1 ++ rest) = rw h.2 (append_assoc h.0 h.1 rest) in
      let first = first_again h.0 run (h.1 ++ rest) h.3 in
      let more = locals ++ replicate run.count (declared_local type.0) in
      ap (runs_outcome features items (suc n) locals) apart ∙ (elim (leb_tells (length locals + run.count) 50000) [
        | inl (t, fits) ↦
            run_fits features items locals (h.0 ++ (h.1 ++ rest)) run (h.1 ++ rest) type.0 (λ l r. runs_outcome features items n l r) first type.1 fits
            ∙ many_again n runs more h.1 rest h.4 w.1 (omega (arith, among)) (omega (arith, fits, more_length locals run.count type.0))
            (omega (arith, past, total_cons run runs, more_length locals run.count type.0))
        | inr (t, over) ↦ run_past features items locals (h.0 ++ (h.1 ++ rest)) run (h.1 ++ rest) type.0 (λ l r. runs_outcome features items n l r) first type.1 over
      ])

  -- ---- from the outcome to runs

  -- the first run, where the outcome isn't that there are no locals
  record First (locals : List (Local R)) (read : Option (Run × List ℕ)) (others : Others) (outcome : LocalsOutcome R) : Type 0 where
    run : Run
    rest : List ℕ
    type : ValType R
    is_read : read ≡ Some (run, rest)
    is_written : written features items run.type ≡ Some type
    goes_on : ((length locals + run.count ≤ 50000) × (others (locals ++ replicate run.count (declared_local type)) rest ≡ outcome)) ⊎ ((50000 < length locals + run.count) × (outcome ≡ TooMany))

  first_of : (locals : List (Local R)) (read : Option (Run × List ℕ)) (others : Others) (outcome : LocalsOutcome R) → outcome ≢ NoLocals → with_run features items locals read others ≡ outcome
      → First locals read others outcome
  first_of locals None others outcome ne e = absurd (ne (sym e))
  first_of locals (Some (run, rest)) others outcome ne e = by_type (written features items run.type) refl e
    where
      by_type : (o : Option (ValType R)) → written features items run.type ≡ o → with_locals locals run.count o (λ more. others more rest) ≡ outcome → First locals (Some (run, rest)) others outcome
      by_type None w f = absurd (ne (sym f))
      by_type (Some type) w f = record {
        run = run;
        rest = rest;
        type = type;
        is_read = refl;
        is_written = w;
        goes_on = elim (leb_tells (length locals + run.count) 50000) [
          | inl (t, fits) ↦ inl (fits, rw t at f)
          | inr (t, past) ↦ inr (past, sym (rw t at f))
        ];
      }

  -- some runs at the front, and what stands after them
  record Front (n : ℕ) (bytes : List ℕ) : Type 0 where
    runs : List Run
    entries : List ℕ
    rest : List ℕ
    begins : bytes ≡ entries ++ rest
    declared : IsItems IsRun entries runs
    are_written : Written runs
    among : length runs ≤ n

  front_more : (n : ℕ) (bytes : List ℕ) (run : Run) (type : ValType R) (after : List ℕ) → AreBytes bytes → run_at bytes ≡ Some (run, after) → written features items run.type ≡ Some type → Front n after → Front (suc n) bytes
  front_more n bytes run type after are e w f =
      let t = reads_run.found bytes run after are e in
      record {
        runs = run ∷ f.runs;
        entries = t.0 ++ f.entries;
        rest = f.rest;
        begins = joined bytes t.0 after f.entries f.rest t.1 f.begins;
        declared = (t.0, f.entries, refl, t.2, f.declared);
        are_written = (ap is_some w, f.are_written);
        among = omega (arith, f.among);
      }

  -- all runs are there
  record Whole (n : ℕ) (locals : List (Local R)) (bytes : List ℕ) (last : List (Local R)) (after : List ℕ) : Type 0 where
    front : Front n bytes
    all : length front.runs ≡ n
    left : front.rest ≡ after
    declares : last ≡ locals ++ locals_of_runs features items front.runs
    within : length last ≤ 50000

  parts : (a b : List (Local R)) (x y : List ℕ) → Locals a x ≡ Locals b y → (a ≡ b) × (x ≡ y)
  parts a b x y e = (cc, cc)

  whole_more : (n : ℕ) (locals : List (Local R)) (bytes : List ℕ) (run : Run) (type : ValType R) (rest : List ℕ) (last : List (Local R)) (after : List ℕ) → AreBytes bytes → run_at bytes ≡ Some (run, rest)
      → written features items run.type ≡ Some type → Whole n (locals ++ replicate run.count (declared_local type)) rest last after → Whole (suc n) locals bytes last after
  unfolding front_more
  whole_more n locals bytes run type rest last after are e w o = record {
    front = front_more n bytes run type rest are e w o.front;
    all = ap suc o.all;
    left = o.left;
    declares = o.declares ∙ run_more locals run o.front.runs type w;
    within = o.within;
  }

  runs_found : (n : ℕ) (locals : List (Local R)) (bytes : List ℕ) (last : List (Local R)) (after : List ℕ) → AreBytes bytes → length locals ≤ 50000
      → runs_outcome features items n locals bytes ≡ Locals last after → Whole n locals bytes last after
  unfolding runs_outcome
  runs_found zero locals bytes last after are le e =
      let p = parts locals last bytes after e in
      record {
        front = record { runs = []; entries = []; rest = bytes; begins = refl; declared = refl; are_written = tt; among = omega arith };
        all = refl;
        left = p.1;
        declares = sym p.0 ∙ sym (append-nil locals);
        within = omega (arith, le, ap length p.0);
      }
  runs_found (suc n) locals bytes last after are le e =
      let r = first_of locals (run_at bytes) (λ more rest. runs_outcome features items n more rest) (Locals last after) (λ x. absurd cc) e in
      let t = reads_run.found bytes r.run r.rest are r.is_read in
      elim r.goes_on [
        | inr past ↦ let f = past.1 in absurd cc
        | inl fits ↦
            whole_more n locals bytes r.run r.type r.rest last after are r.is_read r.is_written
            (runs_found n (locals ++ replicate r.run.count (declared_local r.type)) r.rest last after (rest_bytes bytes t.0 r.rest are t.1)
            (omega (arith, fits.0, more_length locals r.run.count r.type)) fits.1)
      ]

  -- the first runs are too many
  record Past (n : ℕ) (locals : List (Local R)) (bytes : List ℕ) : Type 0 where
    front : Front n bytes
    passes : 50000 < length locals + total front.runs

  past_first : (n : ℕ) (locals : List (Local R)) (bytes : List ℕ) (run : Run) (type : ValType R) (rest : List ℕ) → AreBytes bytes → run_at bytes ≡ Some (run, rest) → written features items run.type ≡ Some type
      → 50000 < length locals + run.count → Past (suc n) locals bytes
  unfolding front_more total
  past_first n locals bytes run type rest are e w past = record {
    front = front_more n bytes run type rest are e w (record { runs = []; entries = []; rest = rest; begins = refl; declared = refl; are_written = tt; among = omega arith });
    passes = omega (arith, past, sum_by-cons (λ (r : Run). r.count) run []);
  }

  past_more : (n : ℕ) (locals : List (Local R)) (bytes : List ℕ) (run : Run) (type : ValType R) (rest : List ℕ) → AreBytes bytes → run_at bytes ≡ Some (run, rest) → written features items run.type ≡ Some type
      → Past n (locals ++ replicate run.count (declared_local type)) rest → Past (suc n) locals bytes
  unfolding front_more
  past_more n locals bytes run type rest are e w o = record {
    front = front_more n bytes run type rest are e w o.front;
    passes = omega (arith, o.passes, more_length locals run.count type, total_cons run o.front.runs);
  }

  many_found : (n : ℕ) (locals : List (Local R)) (bytes : List ℕ) → AreBytes bytes → runs_outcome features items n locals bytes ≡ TooMany → Past n locals bytes
  unfolding runs_outcome
  many_found zero locals bytes are e = absurd cc
  many_found (suc n) locals bytes are e =
      let r = first_of locals (run_at bytes) (λ more rest. runs_outcome features items n more rest) TooMany (λ x. absurd cc) e in
      let t = reads_run.found bytes r.run r.rest are r.is_read in
      elim r.goes_on [
        | inr past ↦ past_first n locals bytes r.run r.type r.rest are r.is_read r.is_written past.0
        | inl fits ↦
            past_more n locals bytes r.run r.type r.rest are r.is_read r.is_written
            (many_found n (locals ++ replicate r.run.count (declared_local r.type)) r.rest (rest_bytes bytes t.0 r.rest are t.1) fits.1)
      ]

  -- ---- locals of a function

  module _ (type : FuncType R) where
    abbrev params : List (Local R)
    params = map parameter type.params

    params_length : length params ≡ length type.params
    params_length = length-map type.params parameter

    pub locals_found : (bytes : List ℕ) (locals : List (Local R)) (rest : List ℕ) → AreBytes bytes → locals_outcome features items params bytes ≡ Locals locals rest → Declares features items type bytes locals rest
    unfolding locals_outcome total
    locals_found bytes locals rest are e = by_read (unsigned_at 32 bytes) refl e
      where
        by_read : (read : Option (ℕ × List ℕ)) → unsigned_at 32 bytes ≡ read → with_count features items params read ≡ Locals locals rest → Declares features items type bytes locals rest
        by_read None f g = absurd cc
        by_read (Some x) f g = elim (leb_tells (length params) 50000) [
          | inl (t, fits) ↦
              let count = unsigned_found 32 bytes x.0 x.1 are f in
              let r = runs_found x.0 params x.1 locals rest (rest_bytes bytes count.0 x.1 are count.1) fits (rw t at g) in
              record {
                runs = r.front.runs;
                encoding = count.0 ++ r.front.entries;
                begins = joined bytes count.0 x.1 r.front.entries rest count.1 (r.front.begins ∙ ap (λ (l : List ℕ). r.front.entries ++ l) r.left);
                are = record {
                  declared = (count.0, r.front.entries, refl, subst (IsU32 count.0) (sym r.all) count.2, r.front.declared);
                  written = r.front.are_written;
                  within = λ past. absurd (omega (
                    arith,
                    past,
                    r.within,
                    ap length r.declares,
                    length-append params (locals_of_runs features items r.front.runs),
                    params_length,
                    runs_length r.front.runs r.front.are_written,
                  ));
                };
                declares = r.declares;
              }
          | inr (t, past) ↦ let h = rw t at g in absurd cc
        ]

    within_limit : (runs : List Run) → ¬ (limits.IsPassedBy limits.Locals (local_count type runs)) → local_count type runs ≤ 50000
    within_limit runs not = elim (leb_tells (local_count type runs) 50000) [ inl (t, fits) ↦ fits | inr (t, past) ↦ absurd (not past) ]

    pub locals_again : (encoding rest : List ℕ) (runs : List Run) → AreLocals features items type encoding runs
        → locals_outcome features items params (encoding ++ rest) ≡ Locals (params ++ locals_of_runs features items runs) rest
    unfolding total
    locals_again encoding rest runs a =
        let h = a.declared in
        let fits = within_limit runs a.within in
        let apart : encoding ++ rest ≡ h.0 ++ (h.1 ++ rest) = rw h.2 (append_assoc h.0 h.1 rest) in
        ap (locals_outcome features items params) apart
        ∙ params_fit features items params (h.0 ++ (h.1 ++ rest)) (length runs) (h.1 ++ rest) (unsigned_again 32 h.0 (length runs) (h.1 ++ rest) h.3) (omega (arith, fits, params_length))
        ∙ runs_again runs params h.1 rest h.4 a.written (omega (arith, fits, params_length))

    pub past_found : (bytes : List ℕ) → AreBytes bytes → locals_outcome features items params bytes ≡ TooMany → HasManyLocals features items type bytes
    unfolding locals_outcome total
    past_found bytes are e = by_read (unsigned_at 32 bytes) refl e
      where
        by_read : (read : Option (ℕ × List ℕ)) → unsigned_at 32 bytes ≡ read → with_count features items params read ≡ TooMany → HasManyLocals features items type bytes
        by_read None f g = absurd cc
        by_read (Some x) f g =
            let count = unsigned_found 32 bytes x.0 x.1 are f in
            elim (leb_tells (length params) 50000) [
              | inl (t, fits) ↦
                  let p = many_found x.0 params x.1 (rest_bytes bytes count.0 x.1 are count.1) (rw t at g) in
                  record {
                    stated = x.0;
                    runs = p.front.runs;
                    count_encoding = count.0;
                    runs_encoding = p.front.entries;
                    rest = p.front.rest;
                    begins = count.1 ∙ ap (λ (l : List ℕ). count.0 ++ l) p.front.begins;
                    counted = count.2;
                    among = p.front.among;
                    declared = p.front.declared;
                    written = p.front.are_written;
                    passes = omega (arith, p.passes, params_length);
                  }
              | inr (t, past) ↦ record {
                stated = x.0;
                runs = [];
                count_encoding = count.0;
                runs_encoding = [];
                rest = x.1;
                begins = count.1;
                counted = count.2;
                among = omega arith;
                declared = refl;
                written = tt;
                passes = omega (arith, past, params_length);
              }
            ]

    pub past_again : (bytes : List ℕ) → HasManyLocals features items type bytes → locals_outcome features items params bytes ≡ TooMany
    unfolding total
    past_again bytes m =
        let count = unsigned_again 32 m.count_encoding m.stated (m.runs_encoding ++ m.rest) m.counted in
        ap (locals_outcome features items params) m.begins ∙ (elim (leb_tells (length params) 50000) [
          | inl (t, fits) ↦
              params_fit features items params (m.count_encoding ++ (m.runs_encoding ++ m.rest)) m.stated (m.runs_encoding ++ m.rest) count fits
              ∙ many_again m.stated m.runs params m.runs_encoding m.rest m.declared m.written m.among fits (omega (arith, m.passes, params_length))
          | inr (t, past) ↦ params_past features items params (m.count_encoding ++ (m.runs_encoding ++ m.rest)) m.stated (m.runs_encoding ++ m.rest) count past
        ])
