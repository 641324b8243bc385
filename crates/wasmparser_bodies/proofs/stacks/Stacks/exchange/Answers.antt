use Rattle.std.proofs.Common.{◌≡◌, ◌+◌, ◌-◌, ◌<◌, ◌∷◌, ◌++◌, [], ap, drop, length, map, reverse, take, sym, ◌∙◌, arith}
use Rattle.std.proofs.lemmas.List.{length-drop, length-map, length-reverse, map-append, take-map, take_more_set}
use Rattle.wasm_bodies.specs.Operands.{Known}
use Rattle.wasmparser_types.specs.ValTypes.{val_type}
use Rattle.wasmparser_bodies.specs.StackViews.{base_of, operand}
use Rattle.wasmparser_bodies.specs.declared.operand.Operand.TheVariants as operands
use Rattle.wasmparser_bodies.proofs.Stacked.{base_within, replaced}
use Rattle.wasmparser_bodies.proofs.stacks.Stacks.exchange.Goals as goal

pub returns : goal.returns
returns c =
    let i = c.self.inside in
    let b = base_of (reverse i.frames.items) in
    let x = operands.Known c.args.value_type in
    let n : c.len.result ≡ length i.operands.items = omega (arith, c.len.ensures, i.operands.ok.0) in
    let le = base_within (reverse i.frames.items) (length i.operands.items) (length i.assigned.items) c.self.invariant.heights in
    let known : c.args.self.now.now.known ≡ reverse (drop (base_of (reverse i.frames.items)) (map operand i.operands.items)) = sym (ap (λ m. m.now.known) c.self.view_is) in
    let many : length c.args.self.now.now.known ≡ length i.operands.items - base_of (reverse i.frames.items) =
    omega (arith, ap length known, length-reverse (drop (base_of (reverse i.frames.items)) (map operand i.operands.items)), length-drop (base_of (reverse i.frames.items)) (map operand i.operands.items), length-map i.operands.items operand) in
    let at : c.len.result - c.args.count ≡ base_of (reverse i.frames.items) + (length i.operands.items - base_of (reverse i.frames.items) - c.args.count) = omega (arith, c.requires.known) in
    let lt : c.len.result - c.args.count < length i.operands.items = omega (arith, c.requires.some, c.requires.known) in
    let all : map operand c.truncate.new.self.items ≡ take (c.len.result - c.args.count) (map operand i.operands.items) ++ Known (val_type c.args.value_type) ∷ [] =
    ap (map operand) (c.truncate.ensures.items ∙ take_more_set i.operands.items (c.len.result - c.args.count) x lt)
    ∙ map-append operand (take (c.len.result - c.args.count) i.operands.items) (x ∷ [])
    ∙ ap (λ l. l ++ Known (val_type c.args.value_type) ∷ []) (sym (take-map operand (c.len.result - c.args.count) i.operands.items)) in
    rw (← c.self.view_is) (replaced (reverse i.frames.items) i.operands.items (map operand c.truncate.new.self.items) (Known (val_type c.args.value_type) ∷ []) (c.len.result - c.args.count) c.args.count i.assigned.items c.self.invariant.heights at all)
