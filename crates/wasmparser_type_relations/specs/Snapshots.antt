-- What a list with snapshots holds.
use Rattle.std.specs.Prelude.{◌≡◌, ◌+◌, ◌-◌, ◌<◌, ◌≤◌, ◌^◌, take, ⊤, ℕ, List, [], ◌∷◌, ◌++◌, length}
use Rattle.std.specs.List.{AllByRecursion, flat_map}
use Rattle.wasmparser_type_relations.specs.declared.snapshot_list.Tree.{Tree, Leaf, Pair'}
use Rattle.wasmparser_type_relations.specs.declared.snapshot_list.Snapshot.{Snapshot}

-- the elements of a tree, from left to right
abbrev pub elements : {T : Type 0} → Tree T → List T
elements (Leaf items) = items.items
elements (Pair' left_len p left q right) = elements left ++ elements right

-- each pair knows how many elements stand on its left
abbrev pub KnowsLengths : {T : Type 0} → Tree T → Type 0
KnowsLengths (Leaf items) = ⊤
KnowsLengths (Pair' left_len p left q right) = (left_len ≡ length (elements left)) × KnowsLengths left × KnowsLengths right

-- a snapshot knows how many elements it has
pub record IsCounted {T : Type 0} (snapshot : Snapshot T) : Type 0 where
  pub len : snapshot.len ≡ length (elements snapshot.tree.value)
  pub inside : KnowsLengths snapshot.tree.value

abbrev pub snapshot_elements : {T : Type 0} → List (Snapshot T) → List T
snapshot_elements snapshots = flat_map (λ snapshot. elements snapshot.tree.value) snapshots

-- what is held: trees, which know their lengths, what was pushed since, and how many elements the trees have in all
pub record AreSnapshots {T : Type 0} (snapshots : List (Snapshot T)) (committed pushed : ℕ) : Type 0 where
  pub each : AllByRecursion IsCounted snapshots
  pub counted : committed ≡ length (snapshot_elements snapshots)
  pub room : committed + pushed < 2 ^ 64

-- a snapshot has the elements of the last two of a list
pub record IsLastPair {T : Type 0} (snapshots : List (Snapshot T)) (pair : Snapshot T) : Type 0 where
  pub counted : IsCounted pair
  pub several : 2 ≤ length snapshots
  pub elements_are : snapshot_elements (take (length snapshots - 2) snapshots ++ pair ∷ []) ≡ snapshot_elements snapshots

-- what a list is seen as: its elements, and for how many more it has room
pub record Kept (T : Type 0) : Type 0 where
  pub items : List T
  pub room : ℕ
