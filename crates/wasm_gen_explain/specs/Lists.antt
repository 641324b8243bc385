-- Where in a section a place is that is a list of entries.
use Rattle.std.specs.Prelude.{◌≡◌, ◌≤◌, ◌<◌, ◌⊎◌, ℕ, List, [], length, None, Some}
use Rattle.wasm_core_read.specs.Input.{Input, GoesOn, end}
use Rattle.wasm_core_read.specs.Reading.{ReadingOf, unsigned_at}
use Rattle.wasm_spec.specs.Features.{Features}
use Rattle.wasm_gen_explain.specs.Items.{EndsPast, IsItemAt, PassesItem}
use Rattle.wasm_gen_explain.specs.Passed.{ArePassed}
use Rattle.wasm_gen_explain.specs.declared.lists.Found.{Found}
use Rattle.wasm_gen_explain.specs.declared.lists.Found.TheVariants as founds

-- the number of items, which ends at a place or before it, and what follows it
pub record BeginsList (content : Input) (offset count : ℕ) (items : Input) : Type 0 where
  pub reads : unsigned_at 32 content.rest ≡ Some (count, items.rest)
  pub goes_on : GoesOn content items
  pub begins : items.position ≤ offset

-- the number of items ends past a place, or doesn't read
abbrev pub StopsCount : Input → ℕ → Type 0
StopsCount content offset = (unsigned_at 32 content.rest ≡ None) ⊎ EndsPast (end content) offset (unsigned_at 32 content.rest)

-- as many items as their number says are passed, each by this relation, and this is left
pub record EndsItems (Passes : Input → Input → Type 0) (content : Input) (offset : ℕ) (last : Input) : Type 0 where
  pub count : ℕ
  pub items : Input
  pub begins : BeginsList content offset count items
  pub passed : ArePassed Passes items count last

-- the items are all there is
pub record EndsList (Passes : Input → Input → Type 0) (content : Input) (offset : ℕ) : Type 0 where
  pub last : Input
  pub ends : EndsItems Passes content offset last
  pub ended : last.rest ≡ []

-- bytes follow the items
pub record HasMore (Passes : Input → Input → Type 0) (content : Input) (offset : ℕ) : Type 0 where
  pub last : Input
  pub ends : EndsItems Passes content offset last
  pub more : 0 < length last.rest

-- a place is in the number of items or after them
abbrev pub StopsAround : (Input → Input → Type 0) → Input → ℕ → Type 0
StopsAround Passes content offset = StopsCount content offset ⊎ HasMore Passes content offset

-- a place is in the entry of this number, or that doesn't read
pub record IsEntryAt {A : Type 0} (item_at : Features → ReadingOf A) (indexes : A → List ℕ) (content : Input) (offset number : ℕ) : Type 0 where
  pub count : ℕ
  pub items : Input
  pub begins : BeginsList content offset count items
  pub item : IsItemAt item_at indexes count items offset number

-- where in a list of items a place is, if it is in it
abbrev pub StandsInList : {A : Type 0} → (Features → ReadingOf A) → (A → List ℕ) → Input → ℕ → Found → Type 0
StandsInList item_at indexes content offset founds.Around = StopsAround (PassesItem item_at offset) content offset
StandsInList item_at indexes content offset (founds.Entry number) = IsEntryAt item_at indexes content offset number
StandsInList item_at indexes content offset founds.Past = EndsList (PassesItem item_at offset) content offset
