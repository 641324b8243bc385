-- Finds the command that words name.
use Rattle.std.proofs.Common.{◌≡◌, ◌∙◌, List, Option, Some, None, refl, ap, ap₂, option_map}
use Rattle.std.specs.Cmp.Lexicographic.{nat_list_eq_equiv}
use Rattle.std.specs.Prelude.{unwrap_or}
use Rattle.clap.specs.Words.{Row, Text}
use Rattle.wasm_gen_program.specs.Asked.{found_for}

module _ {B : Type 0} (f : B → Text × List Row) where
  -- such a command, by its name and by what was found
  met : (command : Text) (rows : List Row) (it : Option B) → option_map (λ b. (f b).0) it ≡ Some command → option_map (λ p. p.1) (option_map f it) ≡ Some rows
      → option_map f it ≡ Some (command, rows)
  met command rows (Some b) name found = ap₂ (λ n r. Some (n, r)) (ap (λ o. unwrap_or o command) name) (ap (λ o. unwrap_or o rows) found)
  met command rows None name found = absurd cc

module _ {A : Type 0} (find_in : List Row → Option A) (command : Text) where
  found_in : (rows : List Row) → found_for command find_in (Some (command, rows)) ≡ find_in rows
  found_in rows = rw (nat_list_eq_equiv.refl command) refl

  module _ {B : Type 0} (f : B → Text × List Row) where
    pub found_where_met : (rows : List Row) (it : Option B) → option_map (λ b. (f b).0) it ≡ Some command → option_map (λ p. p.1) (option_map f it) ≡ Some rows
        → found_for command find_in (option_map f it) ≡ find_in rows
    found_where_met rows it name found = ap (found_for command find_in) (met f command rows it name found) ∙ found_in rows
