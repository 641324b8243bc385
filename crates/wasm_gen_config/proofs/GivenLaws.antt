-- The value that a table gives a field, once its key was looked up.
use Rattle.std.proofs.Common.{◌≡◌, ℕ, List, Option, Some, None, option_map, unwrap_or, Bor, sym, ap, ◌∙◌}
use Rattle.toml.specs.Data.{Data, Members, get_member}
use Rattle.toml.specs.View.{view}
use Rattle.toml.specs.declared.value.Value.{Value}
use Rattle.wasm_gen_config.specs.Settings.{given}

-- the value at a key that is found
pub at_found : (t : Members) (key : List ℕ) (found : Option (Bor Value)) (value : Bor Value)
    → option_map (λ value. view value.now) found ≡ get_member key t → found ≡ Some value → get_member key t ≡ Some (view value.now)
at_found t key found value seen is = sym seen ∙ ap (option_map (λ value. view value.now)) is

pub at_none : (t : Members) (key : List ℕ) (found : Option (Bor Value))
    → option_map (λ value. view value.now) found ≡ get_member key t → found ≡ None → get_member key t ≡ None
at_none t key found seen is = sym seen ∙ ap (option_map (λ value. view value.now)) is

module _ {V : Type 0} (read : Data → Option V) (t : Members) (key : List ℕ) (default : V) where
  pub given_some : (d : Data) → get_member key t ≡ Some d → given read t key default ≡ unwrap_or (read d) default
  unfolding given
  given_some d is = rw is

  pub given_none : get_member key t ≡ None → given read t key default ≡ default
  unfolding given
  given_none is = rw is
