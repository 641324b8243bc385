-- Why no module is made.
use Rattle.std.proofs.Common.{◌≡◌, ℕ, ◌-◌, ◌≤◌, Bool, true, false, not, refl, sym, ap, ◌∙◌, arith, if◌then◌else◌}
use Rattle.std.specs.Prelude.{◌&&◌, ◌||◌, is_some}
use Rattle.wasm_smith_config.specs.declared.config.Config.{Config}
use Rattle.wasm_smith_unstructured.specs.declared.error.Error.{Error}
use Rattle.wasm_smith_unstructured.specs.declared.error.Error.TheVariants.{IncorrectFormat, EmptyChoose, NotEnoughData, BadConfig, BadShape, TypeSize, Memory, TooLong}
use Rattle.wasm_smith_module.proofs.BareLaws.{all_nullable, not_refused}
use Rattle.wasm_smith_module.specs.Promise.{IsReason}
use Rattle.wasm_smith_types.specs.Given.{export_shape, import_shape, type_count}
use Rattle.wasm_smith_witness.specs.Family.{IsAskable}
use Rattle.wasm_smith_witness.proofs.MemberLaws.{not_good, nothing_else, no_min_types, no_min_imports, no_min_tags, no_min_funcs, shapeless}

-- a minimum is asked for in full, or not at all
least_unless : (b : Bool) (minimum : ℕ) → (if b then 0 else minimum) ≤ minimum
least_unless true minimum = omega arith
least_unless false minimum = omega arith

-- what is asked for beyond so many, or not at all
least_beyond : (b : Bool) (minimum given : ℕ) → (if b then minimum - given else 0) ≤ minimum
least_beyond true minimum given = omega arith
least_beyond false minimum given = omega arith

pub only_memory : (c : Config) (e : Error) → IsAskable c → IsReason c e → e ≡ Memory
only_memory c IncorrectFormat asked h =
    let none = (nothing_else c asked).minimums in
    let types = least_beyond (is_some c.module_shape) c.min_types (type_count c.module_shape) in
    let imports = least_unless (is_some (import_shape c)) c.min_imports in
    let exports = least_unless (is_some (export_shape c) || c.export_everything) c.min_exports in
    absurd (omega (arith, h.some, none, types, imports, exports, no_min_types c asked, no_min_imports c asked, no_min_tags c asked, no_min_funcs c asked))
only_memory c EmptyChoose asked h = let both : true ≡ false = sym h.some ∙ all_nullable c (shapeless c asked) in absurd cc
only_memory c NotEnoughData asked h = absurd h
only_memory c (BadConfig field) asked h = absurd (not_good c (BadConfig field) h asked.good)
only_memory c (BadShape part) asked h = absurd (not_refused c (shapeless c asked) part.now h.bad)
only_memory c TypeSize asked h =
    let both : true ≡ false = sym h.all ∙ ap (λ all. all && not (is_some (export_shape c))) asked.no_exports in absurd cc
only_memory c Memory asked h = refl
only_memory c TooLong asked h = absurd h
