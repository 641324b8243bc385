-- Names, each with the first number that is still to be tried at its end: with those before it, from the number of names on, it is a name as well.
use Rattle.std.specs.Prelude.{◌≡◌, ℕ, ◌+◌, Bool, bytes_eq, ◌||◌, List, length, map}
use Rattle.std.specs.BTreeMap.{BTreeMap, get_by_text}
use Rattle.std.specs.List.{list_any}
use Rattle.std.specs.Map.{count_at}
use Rattle.std.specs.String.{string_bytes}
use Rattle.std.specs.declared.string.String.{String}
use Rattle.wasm_smith_unstructured.specs.Texts.{AreTaken, IsNewName}

-- a text is among the names
abbrev pub is_name : List (List ℕ) → List ℕ → Bool
is_name names text = list_any (bytes_eq text) names

-- the keys of a map, in order
abbrev pub names_in : {Y X : Type 0} → BTreeMap (String Y) X → List (List ℕ)
names_in numbers = map (λ entry. string_bytes entry.0) numbers.entries

-- Each number from the count of names on, and below the one that is kept for a text, makes a name of this text.
abbrev pub AreTried : {Y : Type 0} → BTreeMap (String Y) ℕ → Type 0
AreTried numbers = (text : List ℕ) → AreTaken (is_name (names_in numbers)) (length (names_in numbers)) text (count_at (get_by_text numbers) text)

-- A name is drawn for a text: it is new among the names, and is added to them.
pub record IsAdded (old new : List (List ℕ)) (text name : List ℕ) : Type 0 where
  pub named : IsNewName (is_name old) (length old) text name
  pub added : (other : List ℕ) → is_name new other ≡ (bytes_eq name other || is_name old other)
  pub one_more : length new ≡ length old + 1
