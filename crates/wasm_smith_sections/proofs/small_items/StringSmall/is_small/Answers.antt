use Rattle.std.proofs.Common.{rules, string_bytes}
use Rattle.std.proofs.lemmas.Str.{IsUtf8-string_bytes}
use Rattle.wasm_spec.specs.Bytes.{AreBytes}
use Rattle.wasm_smith_sections.proofs.small_items.StringSmall.is_small.Goals as goal

pub returns : goal.returns
returns c =
    let bytes : AreBytes (string_bytes c.args.self.now) = search rules in
    (bytes, IsUtf8-string_bytes c.args.self.now)
