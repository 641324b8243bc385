-- Labels and jumps.
use Rattle.std.proofs.Common.{length, subst, Bool, true, false, ◌&&◌, ◌≡◌, ℕ, zero, suc, Option, Some, None, List, [], ◌∷◌, refl, sym, ap, ◌∙◌}
use Rattle.std.specs.Prelude.{slice_get}
use Rattle.std.specs.Option.{option_and_then, option_map}
use Rattle.std.specs.List.{list_all}
use Rattle.std.proofs.lemmas.Iterator.{YieldsList}
use Rattle.std.proofs.lemmas.Iterator.Consumers.{YieldsList-from_shown}
use Rattle.wasmparser_operators.specs.BorrowedLists.{GivesLabel}
use Rattle.wasm_bodies.specs.BodyContext.{ModuleItems, provided, value_of}
use Rattle.wasm_bodies.specs.Effects.{accepts, leaves_by_table, stays}
use Rattle.wasm_bodies.specs.Operands.{State, taken, all_taken, applied, given, nothing_known}
use Rattle.wasm_bodies.specs.Signatures.{after_one_more, from_to, through_table, table_index, table_item}
use Rattle.wasm_bodies_laws.specs.Machine.{Frame, frame_type, label_types, labels_of}
use Rattle.wasm_spec.specs.Types.{ValType, I32, FuncType, TableType, funcref}
use Rattle.wasmparser_bodies.specs.StackViews.{block_seen}
use Rattle.wasmparser_func_validator.proofs.Taking.{all_taken-more}
use Rattle.wasmparser_types.specs.Index.{Index}

-- what a label takes, by the kind and the type of its block
pub label_at : (items : ModuleItems Index) (frames : List (Frame Index)) (depth : ℕ)
    → slice_get (labels_of items frames) depth ≡ option_map (λ p. label_types p.0 (frame_type items p.1)) (option_map block_seen (slice_get frames depth))
label_at items [] depth = refl
label_at items (f ∷ frames) zero = refl
label_at items (f ∷ frames) (suc depth) = label_at items frames depth

pub ruleset labels = (label_at)

-- a jump on a condition, which is taken first
module _ {R : Type 0} (items : ModuleItems R) where
  abbrev to_label : Option (List (ValType R)) → State R → Option (State R)
  to_label label m = option_and_then (λ types. stays items types m) label

  no_label : (o : Option (State R)) → option_and_then (to_label None) o ≡ None
  no_label None = refl
  no_label (Some m) = refl

  one_label : (types : List (ValType R)) (o : Option (State R)) → option_and_then (to_label (Some types)) o ≡ option_map (given types) (option_and_then (all_taken items types) o)
  one_label types None = refl
  one_label types (Some m) = refl

  pub on_condition : (label : Option (List (ValType R))) (s : State R)
      → option_and_then (λ m. option_and_then (λ types. stays items types m) label) (taken items I32 s) ≡ option_and_then (λ types. applied items (after_one_more I32 (from_to types types)) s) label
  on_condition None s = no_label (taken items I32 s)
  on_condition (Some types) s = one_label types (taken items I32 s) ∙ ap (option_map (given types)) (sym (all_taken-more items types I32 s))

  -- a table of labels, one of which is found
  pub by_table : (labels : List (List (ValType R))) (others : List ℕ) (default : ℕ) (s : State R) (types : List (ValType R)) → slice_get labels default ≡ Some types
      → leaves_by_table items labels others default s
      ≡ provided (accepts items (length types) s (slice_get labels default) && list_all (λ label. accepts items (length types) s (slice_get labels label)) others) (Some (nothing_known s))
  by_table labels others default s types e = ap (option_and_then (λ ts. provided (list_all (λ label. accepts items (length ts) s (slice_get labels label)) (default ∷ others)) (Some (nothing_known s)))) e

  pub no_table : (labels : List (List (ValType R))) (others : List ℕ) (default : ℕ) (s : State R) → slice_get labels default ≡ None → leaves_by_table items labels others default s ≡ None
  no_table labels others default s e = ap (option_and_then (λ ts. provided (list_all (λ label. accepts items (length ts) s (slice_get labels label)) (default ∷ others)) (Some (nothing_known s)))) e

-- a call through a table of functions
calls_by : (items : ModuleItems Index) (signature : FuncType Index) (table : TableType Index) (b : Bool)
    → provided b (Some (after_one_more (table_index table) signature)) ≡ option_map (λ index. after_one_more index signature) (provided b (Some (table_index table)))
calls_by items signature table true = refl
calls_by items signature table false = refl

pub through_is : (items : ModuleItems Index) (signature : FuncType Index) (found : Option (TableType Index))
    → option_and_then (through_table items signature) found ≡ option_map (λ index. after_one_more index signature) (option_and_then (λ t. provided (items.is_below (table_item t) (value_of funcref)) (Some (table_index t))) found)
through_is items signature None = refl
through_is items signature (Some table) = calls_by items signature table (items.is_below (table_item table) (value_of funcref))

pub labels_yield : {s : List ℕ} (xs : List ℕ) → s ≡ xs → YieldsList (λ old next new. GivesLabel old new next) (λ x. x) s xs
labels_yield {s} xs e = subst (YieldsList (λ old next new. GivesLabel old new next) (λ x. x) s) e (YieldsList-from_shown (λ old next new. GivesLabel old new next) (λ x. x) (λ l. l) (λ t u h. ap length h.0) (λ t x u h. h) s)

pub ruleset jumps = (on_condition)

pub ruleset tables = (by_table, no_table)

pub ruleset calls = (through_is)
