-- Drawn configurations keep their minimums and maximums.
use Rattle.std.proofs.Common.{◌≡◌, ℕ, ◌^◌, ◌≤◌, Bool, true, false, List, [], ◌∷◌, ◌++◌, Option, None, is_some, ◌&&◌, ◌||◌, IsFalse, get_or, min, replicate, if◌then◌else◌, nat_lt, refl, sym, ap, ◌∙◌, arith}
use Rattle.std.specs.List.{AllByRecursion}
use Rattle.std.proofs.lemmas.Bool.{le-ltb}
use Rattle.std.proofs.lemmas.List.Elements.{All-append, All-from_recursion}
use Rattle.wasm_smith_config.specs.Arbitrary.{IsArbitrary, on_at, off_at, maximums_at, maximums_of, arbitrary_at}
use Rattle.wasm_smith_config.specs.Config.{AreGood, IsGood, minimums, maximums, sanitized, shapes}
use Rattle.wasm_smith_config.specs.Defaults.{IsDefault, least_counts}
use Rattle.wasm_smith_config.specs.declared.config.Config.{Config}
use Rattle.wasm_smith_shapes.specs.Shapes.{ShapeValue}

-- what isn't drawn
abbrev pub kept_of : Config → List ℕ × List (Option ShapeValue)
kept_of c =
    (c.max_instructions ∷ c.max_type_size ∷ c.max_memory32_bytes ∷ c.max_memory64_bytes ∷ least_counts c, c.module_shape ∷ c.available_imports ∷ c.exports ∷ [])

on_keeps : (c : Config) (s : List ℕ) → kept_of (on_at c s).0 ≡ kept_of c
unfolding on_at
on_keeps c s = refl

off_keeps : (c : Config) (s : List ℕ) → kept_of (off_at c s).0 ≡ kept_of c
unfolding off_at
off_keeps c s = refl

maximums_keep : (c : Config) (s : List ℕ) → kept_of (maximums_at c s).0 ≡ kept_of c
unfolding maximums_at
maximums_keep c s = refl

-- what isn't drawn by default
abbrev pub IsKept : Config → Type 0
IsKept c = kept_of c ≡ (100 ∷ 1000 ∷ 2 ^ 32 ∷ 2 ^ 64 ∷ replicate 11 0, None ∷ None ∷ None ∷ [])

default_kept : (c : Config) → IsDefault c → IsKept c
default_kept c is = rw (is.least, is.type_size, is.memory32_bytes, is.memory64_bytes, is.no_module_shape, is.no_available_imports, is.no_exports)
    (ap (λ n. (n ∷ 1000 ∷ 2 ^ 32 ∷ 2 ^ 64 ∷ replicate 11 0, None ∷ None ∷ None ∷ [])) (ap (λ counts. get_or counts 9 0) is.largest))

pub all_kept : (default on off drawn : Config) (s after_on after_off left : List ℕ) → IsDefault default → on_at default s ≡ (on, after_on) → off_at on after_on ≡ (off, after_off) → maximums_at off after_off ≡ (drawn, left) → IsKept drawn
all_kept default on off drawn s after_on after_off left is first second third =
    sym (ap (λ step. kept_of step.0) third) ∙ maximums_keep off after_off
    ∙ (sym (ap (λ step. kept_of step.0) second) ∙ off_keeps on after_on)
    ∙ (sym (ap (λ step. kept_of step.0) first) ∙ on_keeps default s)
    ∙ default_kept default is

-- the draws one after the other
pub all_drawn : (default on off drawn : Config) (s after_on after_off left : List ℕ) → on_at default s ≡ (on, after_on) → off_at on after_on ≡ (off, after_off) → maximums_at off after_off ≡ (drawn, left) → arbitrary_at default s ≡ (sanitized drawn, left)
unfolding arbitrary_at
all_drawn default on off drawn s after_on after_off left first second third = rw (first, second, third) refl

arbitrary_keeps : (c : Config) (s : List ℕ) → kept_of (arbitrary_at c s).0 ≡ kept_of c
unfolding arbitrary_at
arbitrary_keeps c s =
    let on = on_at c s in
    let off = off_at on.0 on.1 in
    maximums_keep off.0 off.1 ∙ off_keeps on.0 on.1 ∙ on_keeps c s

pub drawn_kept : (s left : List ℕ) (c : Config) → IsArbitrary s c left → IsKept c
drawn_kept s left c is = sym (ap (λ (step : Config × List ℕ). kept_of step.0) is.drawn) ∙ arbitrary_keeps is.default s ∙ default_kept is.default is.is_default

-- a minimum of nothing is good, and so is a maximum that is small
none_least : (minimum maximum : ℕ) → minimum ≡ 0 → nat_lt maximum minimum ≡ false
none_least minimum maximum none = le-ltb maximum minimum (omega arith)

few : (n : ℕ) → n ≤ 100 → nat_lt (2 ^ 31) n ≡ false
few n small = le-ltb (2 ^ 31) n (omega arith)

none_more : (most n : ℕ) → n ≡ most → nat_lt most n ≡ false
none_more most n same = le-ltb most n (omega arith)

fewer : (all : Bool) (n : ℕ) → n ≤ 100 → (if all then n else min n 1) ≤ 100
fewer true n small = small
fewer false n small = omega arith

good_minimums : (c : Config) → IsKept c → AreGood (minimums (sanitized c))
good_minimums c kept =
    let none : (i : ℕ) → get_or (kept_of c).0 i 0 ≡ get_or (100 ∷ 1000 ∷ 2 ^ 32 ∷ 2 ^ 64 ∷ replicate 11 0) i 0 = λ i. ap (λ (rest : List ℕ × List (Option ShapeValue)). get_or rest.0 i 0) kept in
    All-from_recursion (λ field. IsFalse field.is_bad) (minimums (sanitized c)) (
      none_least c.min_types _ (none 4),
      (
        none_least c.min_imports _ (none 5),
        (
          none_least c.min_tags _ (none 6),
          (
            none_least c.min_funcs _ (none 7),
            (
              none_least c.min_globals _ (none 8),
              (
                none_least c.min_exports _ (none 9),
                (
                  none_least c.min_element_segments _ (none 10),
                  (
                    none_least c.min_elements _ (none 11),
                    (
                      none_least c.min_data_segments _ (none 12),
                      (
                        none_least c.min_tables _ (none 13),
                        (none_least c.min_memories _ (none 14), tt),
                      ),
                    ),
                  ),
                ),
              ),
            ),
          ),
        ),
      ),
    )

good_maximums : (c : Config) → IsKept c → AllByRecursion (λ most. most ≤ 100) (maximums_of c) → AreGood (maximums (sanitized c))
good_maximums c kept (types, (imports, (tags, (funcs, (globals, (exports, (segments, (elements, (data_segments, (tables, (memories, _))))))))))) =
    let same : (i : ℕ) → get_or (kept_of c).0 i 0 ≡ get_or (100 ∷ 1000 ∷ 2 ^ 32 ∷ 2 ^ 64 ∷ replicate 11 0) i 0 = λ i. ap (λ (rest : List ℕ × List (Option ShapeValue)). get_or rest.0 i 0) kept in
    let instructions : c.max_instructions ≡ 100 = same 0 in
    let type_size : c.max_type_size ≡ 1000 = same 1 in
    All-from_recursion (λ field. IsFalse field.is_bad) (maximums (sanitized c)) (
      few c.max_types types,
      (
        few c.max_imports imports,
        (
          few c.max_tags tags,
          (
            few c.max_funcs funcs,
            (
              few c.max_globals globals,
              (
                few c.max_exports exports,
                (
                  few c.max_element_segments segments,
                  (
                    few c.max_elements elements,
                    (
                      few c.max_data_segments data_segments,
                      (
                        few _ (fewer c.reference_types_enabled c.max_tables tables),
                        (
                          few c.max_memories memories,
                          (
                            few c.max_instructions (omega (arith, instructions)),
                            (
                              le-ltb (2 ^ 31) c.max_type_size (omega (arith, type_size)),
                              (
                                none_more (2 ^ 32) c.max_memory32_bytes (same 2),
                                (none_more (2 ^ 64) c.max_memory64_bytes (same 3), tt),
                              ),
                            ),
                          ),
                        ),
                      ),
                    ),
                  ),
                ),
              ),
            ),
          ),
        ),
      ),
    )

good_shapes : (c : Config) → IsKept c → AreGood (shapes (sanitized c))
good_shapes c kept =
    let none : (i : ℕ) → get_or (kept_of c).1 i None ≡ get_or (None ∷ None ∷ None ∷ []) i None = λ i. ap (λ (rest : List ℕ × List (Option ShapeValue)). get_or rest.1 i None) kept in
    let alone : (is_some c.module_shape && (is_some c.available_imports || is_some c.exports)) ≡ false = ap (λ asked. is_some asked && (is_some c.available_imports || is_some c.exports)) (none 0) in
    All-from_recursion (λ field. IsFalse field.is_bad) (shapes (sanitized c)) (alone, tt)

pub good_fields : (c : Config) → IsKept c → AllByRecursion (λ most. most ≤ 100) (maximums_of c) → IsGood (sanitized c)
good_fields c kept small =
    All-append (λ field. IsFalse field.is_bad) (minimums (sanitized c)) (maximums (sanitized c) ++ shapes (sanitized c)) (good_minimums c kept)
    (All-append (λ field. IsFalse field.is_bad) (maximums (sanitized c)) (shapes (sanitized c)) (good_maximums c kept small) (good_shapes c kept))
