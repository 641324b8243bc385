-- Properties of an encoding that is drawn.
use Rattle.std.specs.Prelude.{◌≡◌, ℕ, ◌<◌, ◌≤◌, Bool, true, false, List, ◌++◌, length, take, min}
use Rattle.std.specs.Fmt.{decimal}
use Rattle.std.specs.Str.{IsUtf8}
use Rattle.wasm_smith_unstructured.specs.Draws.{len_at}

-- An encoding is taken from the front of what drawing a length leaves. It is at most that long, and at most max; no longer front within
-- these is an encoding.
pub record IsLongestText (max : ℕ) (old text new : List ℕ) : Type 0 where
  pub parts : text ++ new ≡ (len_at old).1
  pub utf8 : IsUtf8 text
  pub within : length text ≤ min (len_at old).0 max
  pub longest : (k : ℕ) → length text < k → k ≤ min (len_at old).0 max → ¬ (IsUtf8 (take k (len_at old).1))

-- each number from count on and below this one makes a text that is taken
abbrev pub AreTaken : (List ℕ → Bool) → ℕ → List ℕ → ℕ → Type 0
AreTaken taken count text number = (n : ℕ) → count ≤ n → n < number → taken (text ++ decimal n) ≡ true

-- a text with the least number at its end that makes it new, from count on
pub record IsNumbered (taken : List ℕ → Bool) (count : ℕ) (text name : List ℕ) : Type 0 where
  pub number : ℕ
  pub from : count ≤ number
  pub written : name ≡ text ++ decimal number
  pub least : AreTaken taken count text number

-- A name that isn't taken, though count of them are: the text itself, if that isn't taken, and otherwise the text with a number.
pub record IsNewName (taken : List ℕ → Bool) (count : ℕ) (text name : List ℕ) : Type 0 where
  pub new : taken name ≡ false
  pub same : taken text ≡ false → name ≡ text
  pub numbered : taken text ≡ true → IsNumbered taken count text name
