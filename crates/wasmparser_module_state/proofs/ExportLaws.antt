-- Exports, and how large their types count.
use Rattle.std.proofs.Common.{inl, inr, ◌≡◌, ◌≤◌, ◌<◌, ◌+◌, ℕ, Bool, true, false, List, [], ◌∷◌, ◌++◌, Option, Some, None, map, option_map, slice_get, refl, sym, ap, ◌∙◌, arith}
use Rattle.std.specs.Prelude.{◌&&◌}
use Rattle.std.specs.Option.{unwrap_or}
use Rattle.wasm_core_read.proofs.Forms.{ltb_tells}
use Rattle.wasm_spec.specs.Features.{Features}
use Rattle.wasm_spec.specs.Syntax.{Export}
use Rattle.wasm_spec.specs.Trees.{DefType}
use Rattle.wasm_spec.specs.Types as spec
use Rattle.wasm_validity.specs.Context.{Context, item_at, size_of, size_of_func, size_of_export}
use Rattle.wasm_validity.specs.Rules.{keeps_export, may_leave}
use Rattle.wasmparser_names.specs.ExportNames.{is_exported}
use Rattle.wasmparser_readers.specs.declared.type_ref.TypeRef.{TypeRef}
use Rattle.wasmparser_module_state.proofs.NamedFunctions.{export_there}
use Rattle.wasmparser_module_state.proofs.SegmentLaws.{mapped_item}
use Rattle.wasmparser_module_state.specs.Exports.{CountsAs}
use Rattle.wasmparser_module_state.specs.Items.{IsTypeSize}
use Rattle.wasmparser_module_state.specs.State.{item}

-- ---- what is exported

pub no_item : {A B : Type 0} (f : A → B) (xs : List A) (i : ℕ) (found : Option A) → found ≡ slice_get xs i → found ≡ None → None ≡ slice_get (map f xs) i
no_item f xs i found is none = ap (option_map f) (sym none ∙ is) ∙ mapped_item f xs i

pub some_item : {A B : Type 0} (f : A → B) (xs : List A) (i : ℕ) (found : Option A) (x : A) → found ≡ slice_get xs i → found ≡ Some x → Some (f x) ≡ slice_get (map f xs) i
some_item f xs i found x is some = ap (option_map f) (sym some ∙ is) ∙ mapped_item f xs i

pub no_kept : {A B C : Type 0} (g : C → A) (f : A → B) (xs : List A) (i : ℕ) (found : Option C) → option_map g found ≡ slice_get xs i → found ≡ None → None ≡ slice_get (map f xs) i
no_kept g f xs i found is none = ap (option_map f) (sym (ap (option_map g) none) ∙ is) ∙ mapped_item f xs i

pub some_kept : {A B C : Type 0} (g : C → A) (f : A → B) (xs : List A) (i : ℕ) (found : Option C) (x : C) → option_map g found ≡ slice_get xs i → found ≡ Some x → Some (f (g x)) ≡ slice_get (map f xs) i
some_kept g f xs i found x is some = ap (option_map f) (sym (ap (option_map g) some) ∙ is) ∙ mapped_item f xs i

pub both_mapped : {A B : Type 0} (f : A → B) (xs ys : List A) (i : ℕ) → option_map f (slice_get (xs ++ ys) i) ≡ slice_get (map f xs ++ map f ys) i
both_mapped f xs ys i = mapped_item f (xs ++ ys) i ∙ ap (λ l. slice_get l i) (together xs)
  where
    together : (l : List _) → map f (l ++ ys) ≡ map f l ++ map f ys
    together [] = refl
    together (x ∷ l) = ap (λ r. f x ∷ r) (together l)

pub ruleset global_steps = (both_mapped)

pub ruleset item_steps = (no_item, some_item, no_kept, some_kept)

-- ---- sizes

pub counts : (type : Option (spec.FuncType DefType)) (found : Option ℕ) → IsTypeSize type found → CountsAs (size_of_func type) (unwrap_or found 0)
counts None None h = record { exact = λ le. refl; large = λ le. omega arith }
counts None (Some size) h = absurd h
counts (Some type) None h = absurd h
counts (Some type) (Some size) h = record { exact = h.exact; large = h.large }

pub counts_one : CountsAs 1 1
counts_one = record { exact = λ le. refl; large = λ le. le }

pub ruleset size_steps = (counts, counts_one)

-- ---- rules

module _ (features : Features) (cx : Context) (export : Export) where
  -- what is exported, by what is found
  pub missing : (found : Option TypeRef) → option_map item found ≡ item_at cx export.kind export.index → found ≡ None → ¬ (keeps_export features cx export ≡ true)
  missing found is none keeps = let k = rw (← is, none) at keeps in absurd cc

  pub stays : (found : Option TypeRef) (type : TypeRef) → option_map item found ≡ item_at cx export.kind export.index → found ≡ Some type → may_leave features (Some (item type)) ≡ false → ¬ (keeps_export features cx export ≡ true)
  stays found type is some may keeps = let k = rw (← is, some, may) at keeps in absurd cc

  pub taken : is_exported export.name cx.exports ≡ true → ¬ (keeps_export features cx export ≡ true)
  taken has keeps = no_both (may_leave features (item_at cx export.kind export.index)) (rw has at keeps)
    where
      no_both : (b : Bool) → (b && false) ≡ true → ⊥
      no_both true e = absurd cc
      no_both false e = absurd cc

  pub keeps : (found : Option TypeRef) (type : TypeRef) → option_map item found ≡ item_at cx export.kind export.index → found ≡ Some type → may_leave features (Some (item type)) ≡ true
      → is_exported export.name cx.exports ≡ false → keeps_export features cx export ≡ true
  keeps found type is some may none = rw (← is, some, may, none) refl

  pub leaves : (found : Option TypeRef) (type : TypeRef) → option_map item found ≡ item_at cx export.kind export.index → found ≡ Some type → may_leave features (Some (item type)) ≡ true
      → may_leave features (item_at cx export.kind export.index) ≡ true
  leaves found type is some may = rw (← is, some, may) refl

  -- a sum within the limit has the exact size
  pub exact_size : (found : Option TypeRef) (type : TypeRef) (size grown : ℕ) → option_map item found ≡ item_at cx export.kind export.index → found ≡ Some type → CountsAs (size_of cx (item type)) size
      → grown ≡ cx.type_size + size → grown ≤ 999999 → grown ≡ cx.type_size + size_of_export cx (item_at cx export.kind export.index)
  exact_size found type size grown is some counted e le =
      e ∙ ap (λ n. cx.type_size + n) (counted.exact (omega (arith, e, le)) ∙ ap (size_of_export cx) (sym (ap (option_map item) some) ∙ is))

  -- so has one past it
  pub large_size : (found : Option TypeRef) (type : TypeRef) (size : ℕ) → option_map item found ≡ item_at cx export.kind export.index → found ≡ Some type → CountsAs (size_of cx (item type)) size
      → 999999 < cx.type_size + size → 999999 < cx.type_size + size_of_export cx (item_at cx export.kind export.index)
  large_size found type size is some counted lt =
      let same : size_of cx (item type) ≡ size_of_export cx (item_at cx export.kind export.index) = ap (size_of_export cx) (sym (ap (option_map item) some) ∙ is) in
      elim (ltb_tells 999999 (size_of cx (item type))) [
        | inl (t, past) ↦ omega (arith, past, same)
        | inr (t, within) ↦ omega (arith, lt, same, counted.exact (counted.large (omega (arith, within))))
      ]

pub ruleset export_steps = (missing, stays, taken, keeps, leaves, exact_size, large_size, export_there)
