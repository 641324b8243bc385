-- The text of index spaces.
use Rattle.std.specs.Prelude.{◌≡◌, ℕ, List}
use Rattle.wasm_validity.specs.IndexSpaces.{Spaces}
use Rattle.wasm_gen_view.specs.Text.{view_text}
use Rattle.wasm_gen_view.specs.Views.{IsViewOf}
use Rattle.wasm_gen_view.specs.declared.view.View.{View}

-- it is the text of a view of these index spaces
pub record IsViewText (s : Spaces) (text : List ℕ) : Type 0 where
  pub view : View
  pub is_view : IsViewOf s view
  pub is_text : text ≡ view_text view
