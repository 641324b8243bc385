use Rattle.std.proofs.Common.{◌≡◌, ◌∷◌, [], Some, ap, length, map, refl, reverse, sym, take, ◌∙◌}
use Rattle.std.specs.Option.{option_map}
use Rattle.std.proofs.lemmas.List.{length-map}
use Rattle.wasm_bodies.specs.Operands.{Known, given}
use Rattle.wasm_bodies_laws.specs.Machine.{Machine}
use Rattle.wasmparser_bodies.specs.StackChanges.{lowered}
use Rattle.wasmparser_func_validator.specs.Steps.{items_in}
use Rattle.wasmparser_types.specs.Index.{Index}
use Rattle.wasmparser_types.specs.ValTypes.{val_type}
use Rattle.wasmparser_func_validator.proofs.PlainLaws.{all_known}
use Rattle.wasmparser_func_validator.proofs.body.Body.exchange.Goals as goal

pub returns : goal.returns
returns g c =
    let items = items_in g.R.WasmModuleResources.resources c.args.self.now in
    let types = map val_type c.args.takes.now in
    let s = c.args.stacks.now.now in
    let len : length (map val_type c.args.takes.now) ≡ length c.args.takes.now = length-map c.args.takes.now val_type in
    let known : take (length (map val_type c.args.takes.now)) c.args.stacks.now.now.known ≡ reverse (map (λ type. Known type) (map val_type c.args.takes.now)) = rw len (c.if-not-are_known.ensures.exact.0 refl) in (
      ap (option_map (given (val_type c.args.gives ∷ []))) (all_known items types s c.requires.fit known)
          ∙ ap (λ n. Some (given (val_type c.args.gives ∷ []) (lowered n s))) len
          ∙ ap (λ (m : Machine Index). Some m.now) (sym c.exchange.ensures),
      ap (λ (m : Machine Index). m.frames) c.exchange.ensures,
    )
