-- Segments whose offsets leave room for them lie within their tables and memories.
use Rattle.std.proofs.Common.{◌≡◌, ℕ, ◌-◌, ◌^◌, ◌≤◌, Bool, true, false, List, [], ◌∷◌, length, min, sym, ap, ◌∙◌, subst, inl, inr, ◌⊎◌, arith, Some, slice_get, if◌then◌else◌}
use Rattle.std.specs.List.{AllByRecursion}
use Rattle.wasm_spec.specs.Constants.{ConstantExpression}
use Rattle.wasm_spec.specs.Syntax.{ActiveElement, ElementItems, ElementSegment, ActiveData, DataSegment}
use Rattle.wasm_spec.specs.Types.{MemoryType, TableType}
use Rattle.wasm_validity.specs.Rules.{count_of}
use Rattle.wasm_smith_config.specs.declared.config.Config.{Config}
use Rattle.wasm_smith_definitions.specs.Items.{element_mode, written_memory, written_table}
use Rattle.wasm_smith_definitions.specs.declared.segments.ElementMode.{ElementMode}
use Rattle.wasm_smith_definitions.specs.declared.segments.ElementMode.TheVariants as modes
use Rattle.wasm_smith_module.specs.Elements.{AreBounded, AreEnough, IsDrawnElement, within_table}
use Rattle.wasm_smith_module.specs.Traps.{IsSafeData, IsUpTo, LieWithin, least_bytes}
use Rattle.wasm_smith_module.proofs.DataLaws as data_laws
use Rattle.wasm_smith_module.proofs.ElementLaws as element_laws
use Rattle.wasm_smith_validity.specs.Spaces.{Spaces, functions_of}

-- ---- segments

lie_within : (size count last : ℕ) (offset : ConstantExpression) → count ≤ size → last ≡ size - count → IsUpTo last offset → LieWithin size count offset
lie_within size count last offset few is h =
    let le = h.2 in
    (h.0, h.1, omega (arith, few, is, le))

cut : (on : Bool) (n size : ℕ) → (if on then min n size else n) ≤ n
cut true n size = omega (arith)
cut false n size = omega (arith)

cut_at : (on : Bool) (n size : ℕ) → on ≡ true → (if on then min n size else n) ≤ size
cut_at on n size is = rw is (omega (arith))

-- a segment for a table, whose number of items is between these, and whose offset is up to this
pub active_drawn : (c : Config) (k : Spaces) (index : ℕ) (table : TableType ℕ) (items : ElementItems) (offset : ConstantExpression) (least most last : ℕ) → slice_get k.tables index ≡ Some table
    → least ≡ within_table c c.min_elements (Some table) → most ≡ within_table c c.max_elements (Some table) → AreBounded least most (length (functions_of k)) items
    → last ≡ table.limits.minimum - count_of items → (c.disallow_traps ≡ true → IsUpTo last offset)
    → IsDrawnElement c k (record { mode = ActiveElement (written_table index items) offset; items = items })
active_drawn c k index table items offset least most last at least_is most_is bounded last_is up_to = (
  record {
    enough = rw (element_laws.written_back index items, at) (subst (λ n. AreEnough n (length (functions_of k)) items) least_is bounded.enough);
    few = let few = bounded.few in let less = cut c.disallow_traps c.max_elements table.limits.minimum in omega (arith, few, most_is, less);
  },
  λ on. rw (element_laws.written_back index items, at) (let few = bounded.few in let within = cut_at c.disallow_traps c.max_elements table.limits.minimum on in
      lie_within table.limits.minimum (count_of items) last offset (omega (arith, few, most_is, within)) last_is (up_to on)),
)

-- a segment without a table
pub other_drawn : (c : Config) (k : Spaces) (mode : ElementMode) (items : ElementItems) (least most : ℕ) → (mode ≡ modes.Passive) ⊎ (mode ≡ modes.Declared) → least ≡ c.min_elements → most ≡ c.max_elements
    → AreBounded least most (length (functions_of k)) items → IsDrawnElement c k (record { mode = element_mode mode items; items = items })
other_drawn c k mode items least most (inl is) least_is most_is bounded = rw is (rw (least_is, most_is) at bounded, λ on. tt)
other_drawn c k mode items least most (inr is) least_is most_is bounded = rw is (rw (least_is, most_is) at bounded, λ on. tt)

-- a segment for a memory, with at most so many bytes, whose offset is up to this
pub active_safe : (c : Config) (k : Spaces) (memory : ℕ) (type : MemoryType) (contents : List ℕ) (offset : ConstantExpression) (size most last : ℕ) → slice_get k.memories memory ≡ Some type
    → size ≡ least_bytes type → most ≡ (if c.disallow_traps then min size (2 ^ 64 - 1) else 2 ^ 64 - 1) → length contents ≤ most → last ≡ size - length contents → (c.disallow_traps ≡ true → IsUpTo last offset)
    → IsSafeData c k (record { mode = ActiveData (written_memory memory) offset; contents = contents })
active_safe c k memory type contents offset size most last at size_is most_is few last_is up_to = λ on.
    rw (data_laws.written_back memory, at) (let within = most_is ∙ ap (λ b. if b then min size (2 ^ 64 - 1) else 2 ^ 64 - 1) on in
    subst (λ n. LieWithin n (length contents) offset) size_is (lie_within size (length contents) last offset (omega (arith, few, within)) last_is (up_to on)))

-- ---- spaces with the same items

pub drawn_in : (c : Config) (k new : Spaces) (segment : ElementSegment) → new.tables ≡ k.tables → functions_of new ≡ functions_of k → IsDrawnElement c new segment → IsDrawnElement c k segment
drawn_in c k new segment tables functions h = rw (sym tables, sym functions) h

pub safe_in : (c : Config) (k new : Spaces) (segment : DataSegment) → new.memories ≡ k.memories → IsSafeData c new segment → IsSafeData c k segment
safe_in c k new segment memories h = rw (sym memories) h

-- ---- lists

pub all_then : {A : Type 0} (P Q : A → Type 0) → ((x : A) → P x → Q x) → (xs : List A) → AllByRecursion P xs → AllByRecursion Q xs
all_then P Q f [] h = tt
all_then P Q f (x ∷ xs) h = (f x h.0, all_then P Q f xs h.1)
