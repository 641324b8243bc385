-- The bytes are those of the view's text.
use Rattle.std.proofs.Common.{rules}
use Rattle.wasm_gen_view.proofs.types_text.text_of_types.Goals as goal

pub returns : goal.returns
returns c = record {
  view = c.in_ok-view.view;
  is_view = search rules;
  is_text = rw c.into_bytes.ensures.value c.in_ok-text.ensures;
}
