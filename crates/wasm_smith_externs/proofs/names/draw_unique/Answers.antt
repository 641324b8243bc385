use Rattle.std.proofs.Common.{◌≡◌, true, bytes_eq, string_bytes, refl, arith}
use Rattle.std.proofs.lemmas.Map.Text.{text_keys}
use Rattle.std.proofs.lemmas.Slice.Eq.{bytes_eq-Decides}
use Rattle.wasm_smith_externs.proofs.names.draw_unique.Goals as goal

pub returns-clause-new : goal.returns-clause-new
returns-clause-new c = grind (arith, text_keys, c.in_ok-name.ensures.named.new)

pub returns-clause-used : goal.returns-clause-used
returns-clause-used c =
    let same : bytes_eq (string_bytes c.in_ok-name.name) (string_bytes c.in_ok-name.name) ≡ true = (bytes_eq-Decides (string_bytes c.in_ok-name.name) (string_bytes c.in_ok-name.name)).1 refl in
    grind (arith, text_keys, same, c.in_ok-name.ensures.added (string_bytes c.in_ok-name.name))

pub returns-clause-kept : goal.returns-clause-kept
returns-clause-kept c = λ o n used. grind (arith, text_keys, c.in_ok-name.ensures.added n)
