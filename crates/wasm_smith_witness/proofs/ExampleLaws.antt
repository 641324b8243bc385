-- Spellings of worked examples.
use Rattle.std.proofs.Common.{◌≡◌, ℕ, zero, suc, ◌+◌, ◌-◌, ◌<◌, ◌≤◌, ◌%◌, Bool, true, false, cond, List, [], ◌∷◌, refl, sym, ap, arith}
use Rattle.std.specs.Prelude.{◌&&◌, ◌||◌, nat_lt}
use Rattle.std.proofs.Math.Nat.{mod-eq_of_lt}
use Rattle.std.proofs.lemmas.Bool.{and_from, lt-ltb}
use Rattle.wasm_spec.specs.Types.{SubType, Ref, Concrete, FuncKind, TableKind, MemoryKind, GlobalKind, TagKind}
use Rattle.wasm_smith_unstructured.specs.Draws.{width, least_from, big_number}
use Rattle.wasm_smith_config.specs.declared.config.Config.{Config}
use Rattle.wasm_smith_types.specs.Drawing.{Offers, Reference, no_groups}
use Rattle.wasm_smith_types.specs.Offering.{offers}
use Rattle.wasm_smith_types.specs.Spelling.{SpellsNo, SpellsEnd, SpellsInt, SpellsChoice, SpellsList, SpellsValue, SpellsType, SpellsMembers, SpellsGroups}
use Rattle.wasm_smith_externs.specs.Candidates.{can_import, can_import_some}
use Rattle.wasm_smith_validity.specs.Spaces.{spaces_of_types}
use Rattle.wasm_smith_witness.specs.Asking.{asks_for_import, asks_for_tag, full_bounds}
use Rattle.wasm_smith_witness.specs.Family.{types_of}
use Rattle.wasm_smith_witness.specs.Examples.{no_values, one_function, two_functions, pointer, two_structures}
use Rattle.wasm_smith_witness.specs.Spelling.{SpellsLoneFunction, SpellsTypes, Spells}
use Rattle.wasm_smith_witness.proofs.SpellLaws.{width_one, kind_spells, form_spells}

end_spelled : (room byte : ℕ) → 0 < room → byte % 2 ≡ 0 → SpellsEnd room (byte ∷ [])
end_spelled zero byte some even = absurd (omega (arith, some))
end_spelled (suc room) byte some even = (byte, refl, even)

-- ---- imports and tags

byte_spelled : (asked : Bool) (byte : ℕ) → asked ≡ true → byte % 2 ≡ 0 → SpellsNo asked (byte ∷ [])
byte_spelled true byte on even = (byte, refl, even)
byte_spelled false byte on even = absurd cc

none_spelled : (asked : Bool) → asked ≡ false → SpellsNo asked []
none_spelled true off = absurd cc
none_spelled false off = refl

and_none : (b : Bool) → (b && false) ≡ false
and_none true = refl
and_none false = refl

-- an import is asked for where a memory can be imported
last_of_five : (a b d e last : Bool) → last ≡ true → (a || (b || (d || (e || last)))) ≡ true
last_of_five true b d e last on = refl
last_of_five false true d e last on = refl
last_of_five false false true e last on = refl
last_of_five false false false true last on = refl
last_of_five false false false false last on = on

memory_asks : (c : Config) (types : List (SubType ℕ)) → 0 < c.max_imports → 0 < c.max_memories → asks_for_import c types ≡ true
memory_asks c types imports memories =
    let k = spaces_of_types types in
    let b = full_bounds c in
    let can : can_import_some c b k ≡ true = last_of_five (can_import c b k FuncKind) (can_import c b k TagKind) (can_import c b k GlobalKind) (can_import c b k TableKind) (can_import c b k MemoryKind) (lt-ltb 0 c.max_memories memories) in
    and_from (can_import_some c b k) (nat_lt 0 c.max_imports) can (lt-ltb 0 c.max_imports imports)

-- ---- without garbage collection

lone_types : (gc : Bool) (o : Offers) (max : ℕ) (groups : List (List (SubType ℕ))) (s : List ℕ) → gc ≡ false → SpellsList (SpellsLoneFunction o) max groups s → SpellsTypes gc o max groups s
lone_types true o max groups s off h = absurd cc
lone_types false o max groups s off h = h

some_of : (c : Config) → 0 < (offers c).most_results - 0
unfolding offers
some_of c = by_multi c.multi_value_enabled
  where
    by_multi : (multi : Bool) → 0 < cond multi 20 1 - 0
    by_multi true = omega arith
    by_multi false = omega arith

-- a type without parameters and results
type_spelled : (c : Config) (b d : ℕ) → b % 2 ≡ 0 → d % 2 ≡ 0 → SpellsLoneFunction (offers c) no_values (b ∷ d ∷ [])
type_spelled c b d pb pd =
    let params : SpellsList (SpellsValue (offers c) 0) 20 [] (b ∷ []) = ([], b ∷ [], refl, refl, (b, refl, pb), omega arith) in
    let results : SpellsList (SpellsValue (offers c) 0) (offers c).most_results [] (d ∷ []) = ([], d ∷ [], refl, refl, end_spelled ((offers c).most_results - 0) d (some_of c) pd, omega arith) in
    (refl, refl, (b ∷ [], d ∷ [], refl, params, results))

first_of_one : SpellsChoice {A = ℕ} (0 ∷ []) 0 []
unfolding width least_from
first_of_one = (0, refl, (refl, refl))

pub small_spelled : (c : Config) (a b d e i f : ℕ) → c.gc_enabled ≡ false → c.exceptions_enabled ≡ false → 0 < c.max_imports → 1 < c.max_types → 0 < c.max_funcs → a % 2 ≡ 1 → b % 2 ≡ 0 → d % 2 ≡ 0 → e % 2 ≡ 0 → i % 2 ≡ 0 → f % 2 ≡ 1
    → Spells c one_function (0 ∷ []) (a ∷ b ∷ d ∷ e ∷ i ∷ f ∷ [])
small_spelled c a b d e i f off no_exceptions imports types funcs pa pb pd pe pi pf = record {
  front = a ∷ b ∷ d ∷ e ∷ [];
  imports = i ∷ [];
  tags = [];
  back = f ∷ [];
  parts = refl;
  spells_imports = byte_spelled (asks_for_import c (types_of one_function)) i (rw (lt-ltb 0 c.max_funcs funcs, lt-ltb 0 c.max_imports imports) refl) pi;
  spells_tags = none_spelled (asks_for_tag c (types_of one_function)) (rw no_exceptions refl);
  spells_groups = lone_types c.gc_enabled (offers c) c.max_types one_function (a ∷ b ∷ d ∷ e ∷ []) off (
    a ∷ b ∷ d ∷ [],
    e ∷ [],
    refl,
    (a ∷ [], b ∷ d ∷ [], [], refl, (a, refl, pa), type_spelled c b d pb pd, refl),
    end_spelled (c.max_types - 1) e (omega (arith, types)) pe,
    omega (arith, types),
  );
  spells_funcs = ((f ∷ [], [], [], refl, (f, refl, pf), first_of_one, refl), omega (arith, funcs));
}

second_of_two : (byte : ℕ) → byte < 256 → byte % 2 ≡ 1 → SpellsInt 0 1 1 (byte ∷ [])
unfolding width least_from
second_of_two byte small odd = (refl, omega (arith, odd))

pub second_spelled : (c : Config) (byte : ℕ) → c.gc_enabled ≡ false → c.exceptions_enabled ≡ true → 0 < c.max_tags → c.max_imports ≡ 0 → 2 < c.max_types → 0 < c.max_funcs → byte < 256 → byte % 2 ≡ 1
    → Spells c two_functions (1 ∷ []) (1 ∷ 0 ∷ 0 ∷ 1 ∷ 0 ∷ 0 ∷ 0 ∷ 0 ∷ 1 ∷ byte ∷ [])
second_spelled c byte off exceptions tags no_imports types funcs small odd =
    let one = type_spelled c 0 0 refl refl in
    record {
      front = 1 ∷ 0 ∷ 0 ∷ 1 ∷ 0 ∷ 0 ∷ 0 ∷ [];
      imports = [];
      tags = 0 ∷ [];
      back = 1 ∷ byte ∷ [];
      parts = refl;
      spells_imports = none_spelled (asks_for_import c (types_of two_functions)) (rw no_imports (and_none (can_import_some c (full_bounds c) (spaces_of_types (types_of two_functions)))));
      spells_tags = byte_spelled (asks_for_tag c (types_of two_functions)) 0 (rw (exceptions, lt-ltb 0 c.max_tags tags) refl) refl;
      spells_groups = lone_types c.gc_enabled (offers c) c.max_types two_functions (1 ∷ 0 ∷ 0 ∷ 1 ∷ 0 ∷ 0 ∷ 0 ∷ []) off (
        1 ∷ 0 ∷ 0 ∷ 1 ∷ 0 ∷ 0 ∷ [],
        0 ∷ [],
        refl,
        (1 ∷ [], 0 ∷ 0 ∷ [], 1 ∷ 0 ∷ 0 ∷ [], refl, (1, refl, refl), one, (1 ∷ [], 0 ∷ 0 ∷ [], [], refl, (1, refl, refl), one, refl)),
        end_spelled (c.max_types - 2) 0 (omega (arith, types)) refl,
        omega (arith, types),
      );
      spells_funcs = ((1 ∷ [], byte ∷ [], [], refl, (1, refl, refl), (1, refl, second_of_two byte small odd), refl), omega (arith, funcs));
    }

-- ---- with garbage collection

grouped_types : (gc : Bool) (o : Offers) (max : ℕ) (groups : List (List (SubType ℕ))) (s : List ℕ) → gc ≡ true → SpellsGroups o max no_groups groups s → SpellsTypes gc o max groups s
grouped_types true o max groups s on h = h
grouped_types false o max groups s on h = absurd cc

-- false where it is asked
asked_spelled : (asked : Bool) → asked ≡ true → SpellsNo asked (0 ∷ [])
asked_spelled asked on = byte_spelled asked 0 on refl

-- a number up to 1
bit_spelled : (n : ℕ) → n < 2 → SpellsInt 0 1 n (n ∷ [])
unfolding width least_from
bit_spelled n lt = (refl, omega (arith, lt))

-- a group of two types, of up to 256
pair_spelled : (max : ℕ) → 2 < max → max ≤ 256 → SpellsInt 1 (max - 0) 2 (1 ∷ [])
pair_spelled max some few =
    let k : max - 0 - 1 + 1 ≡ max = omega (arith, some) in
    let one : big_number (1 ∷ []) ≡ 1 = omega arith in
    let lt : 1 < max = omega (arith, some) in
    (sym (width_one (max - 0 - 1) (omega (arith, some)) (omega (arith, some, few))), rw (k, one) (ap (λ n. 1 + n) (mod-eq_of_lt lt)))

-- what is on for it
record AreOn (c : Config) : Type 0 where
  gc : c.gc_enabled ≡ true
  references : c.reference_types_enabled ≡ true
  floats : c.allow_floats ≡ true
  vectors : c.simd_enabled ≡ true

reference_spelled : (c : Config) (index : ℕ) → AreOn c → index < 2 → SpellsValue (offers c) 2 (Ref true (Concrete index)) (5 ∷ 0 ∷ 1 ∷ index ∷ [])
unfolding offers
reference_spelled c index on lt = (
  5 ∷ [],
  0 ∷ [],
  1 ∷ index ∷ [],
  refl,
  refl,
  kind_spells c Reference 5 (rw (on.floats, on.vectors, on.references) refl),
  asked_spelled c.gc_enabled on.gc,
  (1 ∷ [], index ∷ [], refl, on.gc, lt, (1, refl, refl), bit_spelled index lt),
)

pointer_spelled : (c : Config) (index : ℕ) → AreOn c → index < 2 → SpellsType (offers c) 2 false (pointer index) (0 ∷ 1 ∷ 1 ∷ 0 ∷ 5 ∷ 0 ∷ 1 ∷ index ∷ 0 ∷ 0 ∷ [])
pointer_spelled c index on lt = (
  [],
  0 ∷ [],
  1 ∷ 1 ∷ 0 ∷ 5 ∷ 0 ∷ 1 ∷ index ∷ 0 ∷ 0 ∷ [],
  refl,
  refl,
  refl,
  (0, refl, refl),
  (
    1 ∷ [],
    1 ∷ 0 ∷ 5 ∷ 0 ∷ 1 ∷ index ∷ 0 ∷ 0 ∷ [],
    refl,
    form_spells 1 (omega arith),
    (
      1 ∷ 0 ∷ 5 ∷ 0 ∷ 1 ∷ index ∷ 0 ∷ [],
      0 ∷ [],
      refl,
      (
        1 ∷ [],
        0 ∷ 5 ∷ 0 ∷ 1 ∷ index ∷ 0 ∷ [],
        [],
        refl,
        (1, refl, refl),
        (
          0 ∷ 5 ∷ 0 ∷ 1 ∷ index ∷ [],
          0 ∷ [],
          refl,
          (0 ∷ [], 5 ∷ 0 ∷ 1 ∷ index ∷ [], refl, form_spells 0 (omega arith), reference_spelled c index on lt),
          (0, refl, refl),
        ),
        refl,
      ),
      end_spelled 19 0 (omega arith) refl,
      omega arith,
    ),
  ),
)

pointers_spelled : (c : Config) → AreOn c → SpellsMembers (offers c) 2 false (pointer 1 ∷ pointer 0 ∷ []) (0 ∷ 1 ∷ 1 ∷ 0 ∷ 5 ∷ 0 ∷ 1 ∷ 1 ∷ 0 ∷ 0 ∷ 0 ∷ 1 ∷ 1 ∷ 0 ∷ 5 ∷ 0 ∷ 1 ∷ 0 ∷ 0 ∷ 0 ∷ [])
pointers_spelled c on = (
  0 ∷ 1 ∷ 1 ∷ 0 ∷ 5 ∷ 0 ∷ 1 ∷ 1 ∷ 0 ∷ 0 ∷ [],
  0 ∷ 1 ∷ 1 ∷ 0 ∷ 5 ∷ 0 ∷ 1 ∷ 0 ∷ 0 ∷ 0 ∷ [],
  refl,
  pointer_spelled c 1 on (omega arith),
  (0 ∷ 1 ∷ 1 ∷ 0 ∷ 5 ∷ 0 ∷ 1 ∷ 0 ∷ 0 ∷ 0 ∷ [], [], refl, pointer_spelled c 0 on (omega arith), refl),
)

groups_spelled : (c : Config) → AreOn c → 2 < c.max_types → c.max_types ≤ 256
    → SpellsGroups (offers c) c.max_types no_groups two_structures (1 ∷ 1 ∷ 0 ∷ 1 ∷ 1 ∷ 0 ∷ 5 ∷ 0 ∷ 1 ∷ 1 ∷ 0 ∷ 0 ∷ 0 ∷ 1 ∷ 1 ∷ 0 ∷ 5 ∷ 0 ∷ 1 ∷ 0 ∷ 0 ∷ 0 ∷ 0 ∷ [])
groups_spelled c on some few = (
  1 ∷ [],
  1 ∷ 0 ∷ 1 ∷ 1 ∷ 0 ∷ 5 ∷ 0 ∷ 1 ∷ 1 ∷ 0 ∷ 0 ∷ 0 ∷ 1 ∷ 1 ∷ 0 ∷ 5 ∷ 0 ∷ 1 ∷ 0 ∷ 0 ∷ 0 ∷ [],
  0 ∷ [],
  refl,
  omega (arith, some),
  (1, refl, refl),
  (
    [],
    1 ∷ [],
    0 ∷ 1 ∷ 1 ∷ 0 ∷ 5 ∷ 0 ∷ 1 ∷ 1 ∷ 0 ∷ 0 ∷ 0 ∷ 1 ∷ 1 ∷ 0 ∷ 5 ∷ 0 ∷ 1 ∷ 0 ∷ 0 ∷ 0 ∷ [],
    refl,
    refl,
    pair_spelled c.max_types some few,
    pointers_spelled c on,
  ),
  asked_spelled (nat_lt 2 c.max_types) (lt-ltb 2 c.max_types some),
)

pub structures_spelled : (c : Config) → c.gc_enabled ≡ true → c.reference_types_enabled ≡ true → c.allow_floats ≡ true → c.simd_enabled ≡ true
    → 0 < c.max_imports → 0 < c.max_memories → 2 < c.max_types → c.max_types ≤ 256
    → Spells c two_structures [] (1 ∷ 1 ∷ 0 ∷ 1 ∷ 1 ∷ 0 ∷ 5 ∷ 0 ∷ 1 ∷ 1 ∷ 0 ∷ 0 ∷ 0 ∷ 1 ∷ 1 ∷ 0 ∷ 5 ∷ 0 ∷ 1 ∷ 0 ∷ 0 ∷ 0 ∷ 0 ∷ 0 ∷ [])
structures_spelled c gc references floats vectors imports memories some few = record {
  front = 1 ∷ 1 ∷ 0 ∷ 1 ∷ 1 ∷ 0 ∷ 5 ∷ 0 ∷ 1 ∷ 1 ∷ 0 ∷ 0 ∷ 0 ∷ 1 ∷ 1 ∷ 0 ∷ 5 ∷ 0 ∷ 1 ∷ 0 ∷ 0 ∷ 0 ∷ 0 ∷ [];
  imports = 0 ∷ [];
  tags = [];
  back = [];
  parts = refl;
  spells_imports = asked_spelled (asks_for_import c (types_of two_structures)) (memory_asks c (types_of two_structures) imports memories);
  spells_tags = none_spelled (asks_for_tag c (types_of two_structures)) (ap (λ can. can && nat_lt 0 c.max_tags) (and_none c.exceptions_enabled));
  spells_groups = grouped_types c.gc_enabled (offers c) c.max_types two_structures _ gc (groups_spelled c (record { gc = gc; references = references; floats = floats; vectors = vectors }) some few);
  spells_funcs = (refl, refl);
}
