-- The steps of the generator, each of which makes items of one kind that keep their rules, each in the index spaces before it.
use Rattle.std.specs.Prelude.{◌≡◌, ℕ, ◌≤◌, Bool, true, false, List, [], ◌++◌, map, max, slice_get, Some, if◌then◌else◌}
use Rattle.std.specs.List.{AllByRecursion}
use Rattle.wasm_spec.specs.Features.{Features}
use Rattle.wasm_spec.specs.Types.{TableType}
use Rattle.wasm_validity.specs.Entries.{Entry}
use Rattle.wasm_smith_config.specs.Config.{AreFeaturesOf}
use Rattle.wasm_smith_config.specs.declared.config.Config.{Config}
use Rattle.wasm_smith_types.specs.Growing.{grows_at}
use Rattle.wasm_smith_validity.specs.Rules.{KeepAll, KeepsRule, is_table_type}
use Rattle.wasm_smith_validity.specs.Spaces.{Spaces, spaces_after_all}

-- an item keeps its rule under the features of a configuration
abbrev pub Allows : Config → Spaces → Entry → Type 0
Allows c spaces entry = (features : Features) → AreFeaturesOf c features → KeepsRule features spaces entry

-- The items keep their rules, and the spaces grow by them alone.
pub record IsStep {A : Type 0} (c : Config) (entry : A → Entry) (old new : Spaces) (items : List A) : Type 0 where
  pub keep : (features : Features) → AreFeaturesOf c features → KeepAll features old (map entry items)
  pub known : new ≡ spaces_after_all old (map entry items)

-- How many items of a kind are asked for, how they are counted, and when one can be made.
pub record Wanted : Type 0 where
  pub least : ℕ
  pub most : ℕ
  pub count : Spaces → ℕ
  pub can : Spaces → Bool

-- what the first draw of a step says of a first item: true where one is made
abbrev pub asked : Wanted → Spaces → List ℕ → Bool × List ℕ
asked wanted spaces s = if wanted.can spaces then grows_at wanted.least wanted.most (wanted.count spaces) s else (false, s)

-- Items that grow from some bytes, whatever these are. If no item is asked for, there are none, and no more than the first draw is taken.
pub record IsGrown {A : Type 0} (c : Config) (wanted : Wanted) (entry : A → Entry) (Bound : A → Type 0) (old : Spaces) (s : List ℕ) (new : Spaces) (left : List ℕ) (items : List A) : Type 0 where
  pub step : IsStep c entry old new items
  pub enough : wanted.least ≤ wanted.count new
  -- each item is within the bounds on items of its kind
  pub bounded : AllByRecursion Bound items
  pub few : wanted.count new ≤ max wanted.most (wanted.count old)
  pub nothing : (asked wanted old s).0 ≡ false → (items ≡ []) × (left ≡ (asked wanted old s).1)

-- Items of these types, which are asked for, and then items that are drawn. Nothing is drawn for the first where there are none.
pub record IsFilled {A B : Type 0} (c : Config) (wanted : Wanted) (entry : A → Entry) (Bound : A → Type 0) (type : A → B) (types : List B) (old : Spaces) (s : List ℕ) (new : Spaces) (left : List ℕ) (items : List A) : Type 0 where
  pub own : List A
  pub drawn : List A
  pub parts : items ≡ own ++ drawn
  -- the spaces, and the bytes that are left, after the items that are asked for
  pub between : Spaces
  pub after : List ℕ
  pub are : map type own ≡ types
  pub first : IsStep c entry old between own
  pub grown : IsGrown c wanted entry Bound between after new left drawn
  pub alone : types ≡ [] → after ≡ s

-- the types of all tables may be written
abbrev pub TablesKeep : Config → Spaces → Type 0
TablesKeep c spaces =
    (index : ℕ) (type : TableType ℕ) → slice_get spaces.tables index ≡ Some type → (features : Features) → AreFeaturesOf c features → is_table_type features spaces.types type ≡ true
