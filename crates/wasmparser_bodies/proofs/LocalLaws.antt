-- Locals that are added, and that are found by halves.
use Rattle.std.proofs.Common.{◌≡◌, ℕ, zero, suc, ◌+◌, ◌-◌, ◌<◌, ◌≤◌, leb, ltb, true, false, List, [], ◌∷◌, ◌++◌, length, drop, get_or, take, Some, None, refl, sym, ap, ◌∙◌, subst, arith, map, replicate, inl, inr}
use Rattle.std.specs.Prelude.{slice_get}
use Rattle.std.specs.Option.{option_map}
use Rattle.std.proofs.lemmas.Bool.{cases_lt, le-leb, le-ltb, lt-leb, lt-ltb}
use Rattle.std.proofs.lemmas.Grind.{flat_map-append}
use Rattle.std.proofs.lemmas.List.{append-nil, append_assoc, get_or-replicate, get_or_append_left, get_or-map, length-append, length-drop, length-map, length-replicate, map-append, take-append-drop, take_all, take_more}
use Rattle.std.proofs.lemmas.Option.{slice_get-get_or, slice_get-map, slice_get_past}
use Rattle.wasm_bodies.specs.BodyContext as bodies
use Rattle.wasm_bodies.specs.Bodies.{parameter}
use Rattle.wasm_spec.specs.Types as types
use Rattle.wasmparser_types.specs.Index.{Index}
use Rattle.wasmparser_types.specs.ValTypes.{val_type}
use Rattle.wasmparser_types.specs.declared.val_type.ValType.{ValType}
use Rattle.wasmparser_bodies.specs.KeptLocals.{KeptLocals, later_at, locals_with, no_locals, type_or_i32, types_at_front}
use Rattle.wasmparser_bodies.specs.LocalRuns.{AreJoined, AreLaidOut, kept_of, local_seen, locals_in}
use Rattle.wasmparser_bodies.specs.declared.locals.Local.{Local}
use Rattle.wasmparser_bodies.specs.declared.locals.Run.{Run}

abbrev Params : Type 0
Params = List (types.ValType Index)

-- ---- types of parameters

front_length : (n : ℕ) (params : Params) → length (types_at_front n params) ≡ n
front_length zero params = refl
front_length (suc n) [] = ap suc (front_length n [])
front_length (suc n) (type ∷ params) = ap suc (front_length n params)

front_whole : (n : ℕ) (params : Params) → n ≡ length params → types_at_front n params ≡ params
front_whole zero [] e = refl
front_whole zero (type ∷ params) e = absurd (omega (arith, e))
front_whole (suc n) [] e = absurd (omega (arith, e))
front_whole (suc n) (type ∷ params) e = ap (λ l. type ∷ l) (front_whole n params (omega (arith, e)))

front_at : (n i : ℕ) (params : Params) → i < n → slice_get (types_at_front n params) i ≡ Some (type_or_i32 (slice_get params i))
front_at zero i params lt = absurd (omega (arith, lt))
front_at (suc n) zero [] lt = refl
front_at (suc n) zero (type ∷ params) lt = refl
front_at (suc n) (suc i) [] lt = front_at n i [] (omega (arith, lt))
front_at (suc n) (suc i) (type ∷ params) lt = front_at n i params (omega (arith, lt))

get_after : {A : Type 0} (n i j : ℕ) (xs : List A) → j ≡ n + i → slice_get (drop n xs) i ≡ slice_get xs j
get_after zero i j xs e = let same : i ≡ j = omega (arith, e) in ap (slice_get xs) same
get_after (suc n) i j [] e = refl
get_after (suc n) i zero (x ∷ xs) e = absurd (omega (arith, e))
get_after (suc n) i (suc j) (x ∷ xs) e = get_after n i j xs (omega (arith, e))

-- the parameters that aren't kept, so many
abbrev later_locals : ℕ → Params → List (bodies.Local Index)
later_locals later params = map parameter (types_at_front later (drop 64 params))

later_length : (later : ℕ) (params : Params) → length (later_locals later params) ≡ later
later_length later params = length-map (types_at_front later (drop 64 params)) parameter ∙ front_length later (drop 64 params)

-- ---- how many

abbrev run_locals : Run → List (bodies.Local Index)
run_locals run = replicate run.count (local_seen run.local)

pub joined_length : (runs : List Run) (start end : ℕ) → AreJoined start runs end → start + length (locals_in runs) ≡ end
joined_length [] start end h = omega (arith, h)
joined_length (run ∷ runs) start end h =
    omega (arith, h.0, joined_length runs run.end end h.1, length-append (run_locals run) (locals_in runs), length-replicate run.count (local_seen run.local))

pub counted : (params : Params) (first : List Local) (later : ℕ) (runs : List Run) (count : ℕ) → AreLaidOut first later runs count → count ≡ length (locals_with params (kept_of first later runs))
unfolding locals_with
counted params first later runs count h =
    omega (
      arith,
      joined_length runs (length first + later) count h.joined,
      length-append (map local_seen first) (later_locals later params ++ locals_in runs),
      length-append (later_locals later params) (locals_in runs),
      length-map first local_seen,
      later_length later params,
    )

-- ---- more of them

map-replicate : {A B : Type 0} (f : A → B) (n : ℕ) (x : A) → map f (replicate n x) ≡ replicate n (f x)
map-replicate f zero x = refl
map-replicate f (suc n) x = ap (λ l. f x ∷ l) (map-replicate f n x)

replicate-add : {A : Type 0} (m n : ℕ) (x : A) → replicate m x ++ replicate n x ≡ replicate (m + n) x
replicate-add zero n x = let e : n ≡ zero + n = omega arith in ap (λ k. replicate k x) e
replicate-add (suc m) n x = let e : suc (m + n) ≡ suc m + n = omega arith in ap (λ l. x ∷ l) (replicate-add m n x) ∙ ap (λ k. replicate k x) e

-- the first ones, and more after them
filled : (first new : List Local) (n : ℕ) (x : Local) → new ≡ take (length first + n) first ++ replicate (length first + n - length first) x → map local_seen new ≡ map local_seen first ++ replicate n (local_seen x)
filled first new n x e =
    let m : length first + n - length first ≡ n = omega arith in
    ap (map local_seen) (e ∙ ap (λ l. l ++ replicate (length first + n - length first) x) (take_all (length first + n) first (omega arith)) ∙ ap (λ k. first ++ replicate k x) m)
    ∙ map-append local_seen first (replicate n x) ∙ ap (λ l. map local_seen first ++ l) (map-replicate local_seen n x)

-- none, where the first ones are as many as there may be
filled_none : (first new : List Local) (n : ℕ) (x : Local) → n ≡ 0 → new ≡ take (length first + n) first ++ replicate (length first + n - length first) x → map local_seen new ≡ map local_seen first
filled_none first new n x none e = filled first new n x e ∙ ap (λ k. map local_seen first ++ replicate k (local_seen x)) none ∙ append-nil (map local_seen first)

added_none : (all new : List (bodies.Local Index)) (n : ℕ) (x : bodies.Local Index) → n ≡ 0 → new ≡ all → new ≡ all ++ replicate n x
added_none all new n x none same = same ∙ sym (append-nil all) ∙ ap (λ k. all ++ replicate k x) (sym none)

pub added_first : (params : Params) (first new : List Local) (later : ℕ) (runs : List Run) (start n : ℕ) (x : Local) → AreLaidOut first later runs start → n ≤ 64 - length first
    → new ≡ take (length first + n) first ++ replicate (length first + n - length first) x → locals_with params (kept_of new later runs) ≡ locals_with params (kept_of first later runs) ++ replicate n (local_seen x)
unfolding locals_with
added_first params first new zero [] start n x h few e =
    append-nil (map local_seen new) ∙ filled first new n x e ∙ ap (λ l. l ++ replicate n (local_seen x)) (sym (append-nil (map local_seen first)))
added_first params first new zero (run ∷ runs) start n x h few e =
    let none : n ≡ 0 = omega (arith, h.full (omega arith)) in
    added_none (map local_seen first ++ locals_in (run ∷ runs)) (map local_seen new ++ locals_in (run ∷ runs)) n (local_seen x) none (ap (λ l. l ++ locals_in (run ∷ runs)) (filled_none first new n x none e))
added_first params first new (suc later) runs start n x h few e =
    let none : n ≡ 0 = omega (arith, h.full (omega arith)) in
    let others = later_locals (suc later) params ++ locals_in runs in
    added_none (map local_seen first ++ others) (map local_seen new ++ others) n (local_seen x) none (ap (λ l. l ++ others) (filled_none first new n x none e))

laid_out_full : (first new : List Local) (later : ℕ) (runs : List Run) (start n : ℕ) → AreLaidOut first later runs start → length first ≡ 64 → n ≤ 64 - length first → length new ≡ length first + n → AreLaidOut new later runs (start + n)
laid_out_full first new later runs start n h full few len =
    let same : length first + later ≡ length new + later = omega arith in
    let end : start ≡ start + n = omega arith in
    record {
      few = omega arith;
      full = λ some. omega arith;
      joined = subst (λ k. AreJoined k runs (start + n)) same (subst (AreJoined (length first + later) runs) end h.joined);
    }

pub laid_out_first : (first new : List Local) (later : ℕ) (runs : List Run) (start n : ℕ) → AreLaidOut first later runs start → n ≤ 64 - length first → length new ≡ length first + n → AreLaidOut new later runs (start + n)
laid_out_first first new zero [] start n h few len = record { few = omega (arith, h.few); full = λ some. absurd (omega (arith, some)); joined = omega (arith, h.joined) }
laid_out_first first new zero (run ∷ runs) start n h few len = laid_out_full first new zero (run ∷ runs) start n h (h.full (omega arith)) few len
laid_out_first first new (suc later) runs start n h few len = laid_out_full first new (suc later) runs start n h (h.full (omega arith)) few len

-- a run after others, or after parameters that aren't kept
run_after : (params : Params) (first new : List Local) (later : ℕ) (runs : List Run) (run : Run) (n : ℕ) → length first ≡ 64 → run.count ≡ n - (64 - length first)
    → new ≡ take 64 first ++ replicate (64 - length first) run.local
    → map local_seen new ++ (later_locals later params ++ locals_in (runs ++ run ∷ [])) ≡ (map local_seen first ++ (later_locals later params ++ locals_in runs)) ++ replicate n (local_seen run.local)
run_after params first new later runs run n full c e =
    let s = local_seen run.local in
    let none : 64 - length first ≡ 0 = omega arith in
    let all : run.count ≡ n = omega arith in
    let same : new ≡ first = e ∙ ap (λ k. take 64 first ++ replicate k run.local) none ∙ append-nil (take 64 first) ∙ take_all 64 first (omega arith) in
    let more : locals_in (runs ++ run ∷ []) ≡ locals_in runs ++ replicate n (local_seen run.local) =
    flat_map-append run_locals runs (run ∷ []) ∙ ap (λ l. locals_in runs ++ l) (append-nil (replicate run.count s) ∙ ap (λ k. replicate k s) all) in
    ap (λ l. map local_seen l ++ (later_locals later params ++ locals_in (runs ++ run ∷ []))) same
    ∙ ap (λ l. map local_seen first ++ (later_locals later params ++ l)) more
    ∙ ap (λ l. map local_seen first ++ l) (sym (append_assoc (later_locals later params) (locals_in runs) (replicate n s)))
    ∙ sym (append_assoc (map local_seen first) (later_locals later params ++ locals_in runs) (replicate n s))

pub added_run : (params : Params) (first new : List Local) (later : ℕ) (runs : List Run) (run : Run) (start n : ℕ) → AreLaidOut first later runs start → 64 - length first ≤ n → run.count ≡ n - (64 - length first)
    → new ≡ take 64 first ++ replicate (64 - length first) run.local → locals_with params (kept_of new later (runs ++ run ∷ [])) ≡ locals_with params (kept_of first later runs) ++ replicate n (local_seen run.local)
unfolding locals_with
added_run params first new zero [] run start n h enough c e =
    let s = local_seen run.local in
    let room : length first + (64 - length first) ≡ 64 = omega (arith, h.few) in
    let sum : 64 - length first + run.count ≡ n = omega arith in
    let front : map local_seen new ≡ map local_seen first ++ replicate (64 - length first) (local_seen run.local) = filled first new (64 - length first) run.local (e ∙ ap (λ k. take k first ++ replicate (k - length first) run.local) (sym room)) in
    ap (λ l. l ++ (replicate run.count (local_seen run.local) ++ [])) front
    ∙ ap (λ l. (map local_seen first ++ replicate (64 - length first) s) ++ l) (append-nil (replicate run.count s))
    ∙ append_assoc (map local_seen first) (replicate (64 - length first) s) (replicate run.count s)
    ∙ ap (λ l. map local_seen first ++ l) (replicate-add (64 - length first) run.count s ∙ ap (λ k. replicate k s) sum)
    ∙ ap (λ l. l ++ replicate n s) (sym (append-nil (map local_seen first)))
added_run params first new zero (r ∷ runs) run start n h enough c e = run_after params first new zero (r ∷ runs) run n (h.full (omega arith)) c e
added_run params first new (suc later) runs run start n h enough c e = run_after params first new (suc later) runs run n (h.full (omega arith)) c e

joined_more : (runs : List Run) (run : Run) (start end : ℕ) → AreJoined start runs end → run.end ≡ end + run.count → AreJoined start (runs ++ run ∷ []) run.end
joined_more [] run start end h e = (rw h e, refl)
joined_more (r ∷ runs) run start end h e = (h.0, joined_more runs run r.end end h.1 e)

joined_full : (first new : List Local) (later : ℕ) (runs : List Run) (run : Run) (start : ℕ) → AreLaidOut first later runs start → length first ≡ 64 → length new ≡ 64 → run.end ≡ start + run.count → AreJoined (length new + later) (runs ++ run ∷ []) run.end
joined_full first new later runs run start h full len e =
    let same : length first + later ≡ length new + later = omega arith in
    subst (λ k. AreJoined k (runs ++ run ∷ []) run.end) same (joined_more runs run (length first + later) start h.joined e)

laid_out_by : (first new : List Local) (later : ℕ) (runs : List Run) (run : Run) (start n : ℕ) → AreLaidOut first later runs start → 64 - length first ≤ n → run.count ≡ n - (64 - length first) → run.end ≡ start + n → length new ≡ 64
    → AreJoined (length new + later) (runs ++ run ∷ []) run.end
laid_out_by first new zero [] run start n h enough c e len = (omega (arith, h.joined, h.few), refl)
laid_out_by first new zero (r ∷ runs) run start n h enough c e len =
    let full : length first ≡ 64 = h.full (omega arith) in
    joined_full first new zero (r ∷ runs) run start h full len (omega arith)
laid_out_by first new (suc later) runs run start n h enough c e len =
    let full : length first ≡ 64 = h.full (omega arith) in
    joined_full first new (suc later) runs run start h full len (omega arith)

pub laid_out_more : (first new : List Local) (later : ℕ) (runs : List Run) (run : Run) (start n : ℕ) → AreLaidOut first later runs start → 64 - length first ≤ n → run.count ≡ n - (64 - length first) → run.end ≡ start + n → length new ≡ 64
    → AreLaidOut new later (runs ++ run ∷ []) (start + n)
laid_out_more first new later runs run start n h enough c e len = record {
  few = omega arith;
  full = λ some. len;
  joined = subst (AreJoined (length new + later) (runs ++ run ∷ [])) e (laid_out_by first new later runs run start n h enough c e len);
}

-- ---- the run of an index

abbrev pub end_of : List Run → ℕ → ℕ
end_of runs j = get_or (map (λ run. run.end) runs) j 0

start_below : (runs : List Run) (start end j : ℕ) → AreJoined start runs end → j < length runs → start ≤ end_of runs j
start_below [] start end j h lt = absurd (omega (arith, lt))
start_below (run ∷ runs) start end zero h lt = omega (arith, h.0)
start_below (run ∷ runs) start end (suc j) h lt = omega (arith, h.0, start_below runs run.end end j h.1 (omega (arith, lt)))

ends_rise : (runs : List Run) (start end i j : ℕ) → AreJoined start runs end → i ≤ j → j < length runs → end_of runs i ≤ end_of runs j
ends_rise [] start end i j h le lt = absurd (omega (arith, lt))
ends_rise (run ∷ runs) start end zero zero h le lt = omega arith
ends_rise (run ∷ runs) start end zero (suc j) h le lt = start_below runs run.end end j h.1 (omega (arith, lt))
ends_rise (run ∷ runs) start end (suc i) zero h le lt = absurd (omega (arith, le))
ends_rise (run ∷ runs) start end (suc i) (suc j) h le lt = ends_rise runs run.end end i j h.1 (omega (arith, le)) (omega (arith, lt))

-- runs that end before an index are below low, and those that end after it from high on
pub record Narrowed (runs : List Run) (index low high : ℕ) : Type 0 where
  pub ordered : low ≤ high
  pub inside : high ≤ length runs
  pub before : (start end : ℕ) → AreJoined start runs end → (j : ℕ) → j < low → end_of runs j ≤ index
  pub after : (start end : ℕ) → AreJoined start runs end → (j : ℕ) → high ≤ j → j < length runs → index < end_of runs j

pub narrowed_up : (runs : List Run) (index low high middle : ℕ) (run : Run) → Narrowed runs index low high → middle < high → low ≤ middle → run ≡ get_or runs middle run → run.end ≤ index → Narrowed runs index (middle + 1) high
narrowed_up runs index low high middle run h lt le is e =
    let here : end_of runs middle ≡ run.end = get_or-map (λ (r : Run). r.end) runs middle run 0 (omega (arith, h.inside)) ∙ sym (ap (λ (r : Run). r.end) is) in
    record {
      ordered = omega arith;
      inside = h.inside;
      before = λ start end joined j below. omega (arith, here, ends_rise runs start end j middle joined (omega arith) (omega (arith, h.inside)));
      after = h.after;
    }

pub narrowed_down : (runs : List Run) (index low high middle : ℕ) (run : Run) → Narrowed runs index low high → middle < high → low ≤ middle → run ≡ get_or runs middle run → index < run.end → Narrowed runs index low middle
narrowed_down runs index low high middle run h lt le is e =
    let here : end_of runs middle ≡ run.end = get_or-map (λ (r : Run). r.end) runs middle run 0 (omega (arith, h.inside)) ∙ sym (ap (λ (r : Run). r.end) is) in
    record {
      ordered = le;
      inside = omega (arith, h.inside);
      before = h.before;
      after = λ start end joined j from within. omega (arith, here, ends_rise runs start end middle j joined from within);
    }

get_or-past : {A : Type 0} (xs ys : List A) (i : ℕ) → length xs ≤ i → slice_get (xs ++ ys) i ≡ slice_get ys (i - length xs)
get_or-past [] ys i le = let e : i ≡ i - 0 = omega arith in ap (slice_get ys) e
get_or-past (x ∷ xs) ys zero le = absurd (omega (arith, le))
get_or-past (x ∷ xs) ys (suc i) le = let e : suc i - length (x ∷ xs) ≡ i - length xs = omega arith in get_or-past xs ys i (omega (arith, le)) ∙ ap (slice_get ys) (sym e)

get_within : {A : Type 0} (xs ys : List A) (i : ℕ) (x : A) → i < length xs → get_or xs i x ≡ x → slice_get (xs ++ ys) i ≡ Some x
get_within xs ys i x lt is = slice_get-get_or (xs ++ ys) i x (omega (arith, length-append xs ys)) ∙ ap Some (get_or_append_left xs ys x i lt ∙ is)

-- the first run that ends after an index has it
pub located : (runs : List Run) (start end index k : ℕ) → AreJoined start runs end → start ≤ index → ((j : ℕ) → j < k → end_of runs j ≤ index) → (k < length runs → index < end_of runs k)
    → option_map (λ (run : Run). local_seen run.local) (slice_get runs k) ≡ slice_get (locals_in runs) (index - start)
located [] start end index k h le before after = refl
located (run ∷ runs) start end index zero h le before after =
    let s = local_seen run.local in
    let n : length (replicate run.count (local_seen run.local)) ≡ run.count = length-replicate run.count (local_seen run.local) in
    let below : index - start < run.count = omega (arith, h.0, after (omega arith)) in
    sym (get_within (replicate run.count s) (locals_in runs) (index - start) s (omega arith) (get_or-replicate run.count (index - start) s s below))
located (run ∷ runs) start end index (suc k) h le before after =
    let n : length (replicate run.count (local_seen run.local)) ≡ run.count = length-replicate run.count (local_seen run.local) in
    let past : run.end ≤ index = before 0 (omega arith) in
    let rest : index - start - length (replicate run.count (local_seen run.local)) ≡ index - run.end = omega (arith, h.0) in
    located runs run.end end index k h.1 past (λ j lt. before (suc j) (omega (arith, lt))) (λ lt. after (omega (arith, lt)))
    ∙ ap (slice_get (locals_in runs)) (sym rest) ∙ sym (get_or-past (run_locals run) (locals_in runs) (index - start) (omega (arith, h.0)))

-- ---- the local of an index

get_before : {A : Type 0} (xs ys : List A) (i : ℕ) → i < length xs → slice_get (xs ++ ys) i ≡ slice_get xs i
get_before [] ys i lt = absurd (omega (arith, lt))
get_before (x ∷ xs) ys zero lt = refl
get_before (x ∷ xs) ys (suc i) lt = get_before xs ys i (omega (arith, lt))

-- where fewer than 64 are kept, they are all
none_between : (params : Params) (first : List Local) (later : ℕ) (runs : List Run) (count index : ℕ) → AreLaidOut first later runs count → length first ≤ index → index < 64 → slice_get (locals_with params (kept_of first later runs)) index ≡ None
unfolding locals_with
none_between params first zero [] count index h from to =
    slice_get_past (map local_seen first ++ []) index (omega (arith, from, length-append (map local_seen first) [], length-map first local_seen))
none_between params first zero (run ∷ runs) count index h from to = absurd (omega (arith, from, to, h.full (omega arith)))
none_between params first (suc later) runs count index h from to = absurd (omega (arith, from, to, h.full (omega arith)))

module _ (params : Params) (first : List Local) (later : ℕ) (runs : List Run) where
  pub found_first : (index : ℕ) (x : Local) → index < length first → x ≡ get_or first index x → slice_get (locals_with params (kept_of first later runs)) index ≡ Some (local_seen x)
  unfolding locals_with
  found_first index x lt is =
      get_within (map local_seen first) (later_locals later params ++ locals_in runs) index (local_seen x) (omega (arith, length-map first local_seen)) (get_or-map local_seen first index x (local_seen x) lt ∙ ap local_seen (sym is))

  after_first : (index i : ℕ) → length first ≤ index → i ≡ index - length first → slice_get (locals_with params (kept_of first later runs)) index ≡ slice_get (later_locals later params ++ locals_in runs) i
  unfolding locals_with
  after_first index i le e =
      let n : index - length (map local_seen first) ≡ i = omega (arith, e, length-map first local_seen) in
      get_or-past (map local_seen first) (later_locals later params ++ locals_in runs) index (omega (arith, le, length-map first local_seen)) ∙ ap (slice_get (later_locals later params ++ locals_in runs)) n

  -- a parameter that isn't kept
  later_found : (index i : ℕ) → length first ≡ 64 → index ≡ 64 + i → i < later → slice_get (locals_with params (kept_of first later runs)) index ≡ Some (parameter (type_or_i32 (slice_get params index)))
  later_found index i full e lt =
      let type : slice_get (types_at_front later (drop 64 params)) i ≡ Some (type_or_i32 (slice_get params index)) = front_at later i (drop 64 params) lt ∙ ap (λ o. Some (type_or_i32 o)) (get_after 64 i index params e) in
      after_first index i (omega (arith, full, e)) (omega (arith, full, e))
      ∙ get_before (later_locals later params) (locals_in runs) i (omega (arith, lt, later_length later params))
      ∙ slice_get-map parameter (types_at_front later (drop 64 params)) i
      ∙ ap (option_map parameter) type

  -- what stands at an index that is neither one of the first ones nor in a run
  pub found_between : (count index : ℕ) → AreLaidOut first later runs count → length first ≤ index → index < 64 + later → slice_get (locals_with params (kept_of first later runs)) index ≡ later_at params (kept_of first later runs) index
  found_between count index h from to = elim (cases_lt index 64) [ inl below ↦ few below | inr past ↦ many past ]
    where
      few : index < 64 → slice_get (locals_with params (kept_of first later runs)) index ≡ later_at params (kept_of first later runs) index
      few below =
          let t : leb 64 index ≡ false = lt-leb 64 index below in
          let none : later_at params (kept_of first later runs) index ≡ None = rw t refl in
          none_between params first later runs count index h from below ∙ sym none

      many : 64 ≤ index → slice_get (locals_with params (kept_of first later runs)) index ≡ later_at params (kept_of first later runs) index
      many past =
          let t : leb 64 index ≡ true = le-leb 64 index past in
          let u : ltb index (64 + later) ≡ true = lt-ltb index (64 + later) to in
          let some : later_at params (kept_of first later runs) index ≡ Some (parameter (type_or_i32 (slice_get params index))) = rw (t, u) refl in
          later_found index (index - 64) (h.full (omega (arith, past, to))) (omega (arith, past)) (omega (arith, past, to)) ∙ sym some

  pub found_after : (count index : ℕ) → AreLaidOut first later runs count → 64 + later ≤ index → slice_get (locals_with params (kept_of first later runs)) index ≡ slice_get (locals_in runs) (index - (length first + later))
  found_after count index h past =
      let n : index - length first - length (later_locals later params) ≡ index - (length first + later) = omega (arith, later_length later params) in
      after_first index (index - length first) (omega (arith, past, h.few)) refl
      ∙ get_or-past (later_locals later params) (locals_in runs) (index - length first) (omega (arith, past, h.few, later_length later params))
      ∙ ap (slice_get (locals_in runs)) n

  pub not_later : (index : ℕ) → 64 + later ≤ index → later_at params (kept_of first later runs) index ≡ None
  not_later index past =
      let t : leb 64 index ≡ true = le-leb 64 index (omega (arith, past)) in
      let u : ltb index (64 + later) ≡ false = le-ltb index (64 + later) past in
      rw (t, u) refl

-- ---- parameters

abbrev pub parameters : List ValType → List (bodies.Local Index)
parameters types = map parameter (map val_type types)

parameters_append : (xs ys : List ValType) → parameters (xs ++ ys) ≡ parameters xs ++ parameters ys
parameters_append xs ys = ap (map parameter) (map-append val_type xs ys) ∙ map-append parameter (map val_type xs) (map val_type ys)

-- the first ones are kept
abbrev pub AreKept : List Local → List ValType → ℕ → Type 0
AreKept first types i = map local_seen first ≡ parameters (take i types)

pub kept_more : (first new : List Local) (types : List ValType) (i : ℕ) (type : ValType) (local : Local) → AreKept first types i → i < length types → type ≡ get_or types i type → local_seen local ≡ parameter (val_type type) → new ≡ first ++ local ∷ []
    → AreKept new types (i + 1)
kept_more first new types i type local h lt is seen e =
    let more : parameters (take (i + 1) types) ≡ parameters (take i types) ++ parameter (val_type (get_or types i type)) ∷ [] =
    ap parameters (take_more types i type lt) ∙ parameters_append (take i types) (get_or types i type ∷ []) in
    ap (map local_seen) e ∙ map-append local_seen first (local ∷ []) ∙ ap (λ l. l ++ local_seen local ∷ []) h ∙ ap (λ l. parameters (take i types) ++ l ∷ []) seen
    ∙ ap (λ t. parameters (take i types) ++ parameter (val_type t) ∷ []) is ∙ sym more

drop_map : {A B : Type 0} (f : A → B) (n : ℕ) (xs : List A) → drop n (map f xs) ≡ map f (drop n xs)
drop_map f zero xs = refl
drop_map f (suc n) [] = refl
drop_map f (suc n) (x ∷ xs) = drop_map f n xs

-- the first parameters, at most 64, and the number of the others
pub all_parameters : (types : List ValType) (first : List Local) (later k : ℕ) → AreKept first types k → later ≡ length types - k → k ≤ 64 → (k < 64 → later ≡ 0) → locals_with (map val_type types) (kept_of first later []) ≡ parameters types
unfolding locals_with
all_parameters types first zero k h e few some = append-nil (map local_seen first) ∙ h ∙ ap parameters (take_all k types (omega (arith, e)))
all_parameters types first (suc later) k h e few some =
    let full : k ≡ 64 = elim (cases_lt k 64) [ inl lt ↦ absurd (omega (arith, some lt)) | inr le ↦ omega (arith, few, le) ] in
    let rest : types_at_front (suc later) (drop 64 (map val_type types)) ≡ map val_type (drop 64 types) =
    front_whole (suc later) (drop 64 (map val_type types)) (omega (arith, e, full, length-drop 64 (map val_type types), length-map types val_type)) ∙ drop_map val_type 64 types in
    ap (λ l. l ++ (later_locals (suc later) (map val_type types) ++ [])) (h ∙ ap (λ n. parameters (take n types)) full)
    ∙ ap (λ l. parameters (take 64 types) ++ l) (append-nil (later_locals (suc later) (map val_type types)) ∙ ap (map parameter) rest)
    ∙ sym (parameters_append (take 64 types) (drop 64 types))
    ∙ ap parameters (take-append-drop 64 types)

-- ---- where nothing is kept

pub emptied : (first : List Local) (later : ℕ) (runs : List Run) (count : ℕ) → AreLaidOut first later runs count → kept_of first later runs ≡ no_locals → AreLaidOut [] later runs count
emptied [] later runs count h e = h
emptied (x ∷ first) later runs count h e = let f = ap (λ (k : KeptLocals). k.first) e in absurd cc

pub emptied_is : (first : List Local) (later : ℕ) (runs : List Run) → kept_of first later runs ≡ no_locals → kept_of [] later runs ≡ no_locals
emptied_is [] later runs e = e
emptied_is (x ∷ first) later runs e = let f = ap (λ (k : KeptLocals). k.first) e in absurd cc
