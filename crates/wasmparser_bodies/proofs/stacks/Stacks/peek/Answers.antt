use Rattle.std.proofs.Common.{◌≡◌, ◌<◌, ◌-◌, ap, drop, length, map, reverse, sym, arith}
use Rattle.std.proofs.lemmas.List.{length-drop, length-map, length-reverse}
use Rattle.wasmparser_bodies.specs.StackViews.{base_of, operand}
use Rattle.wasmparser_bodies.proofs.Stacked.{peeked}
use Rattle.wasmparser_bodies.proofs.stacks.Stacks.peek.Goals as goal

pub returns-then-depth-known_len : goal.returns-then-depth-known_len
returns-then-depth-known_len c =
    let i = c.self.inside in
    let b = base_of (reverse i.frames.items) in
    let n : c.len.result ≡ length i.operands.items = omega (arith, c.len.ensures, i.operands.ok.0) in
    let known : c.args.self.now.now.known ≡ reverse (drop (base_of (reverse i.frames.items)) (map operand i.operands.items)) = sym (ap (λ m. m.now.known) c.self.view_is) in
    let lt : c.args.depth < length i.operands.items - base_of (reverse i.frames.items) =
    omega (arith, c.known_len.ensures, ap length known, length-reverse (drop (base_of (reverse i.frames.items)) (map operand i.operands.items)), length-drop (base_of (reverse i.frames.items)) (map operand i.operands.items), length-map i.operands.items operand) in
    peeked b i.operands.items c.args.depth c.index.result.now c.args.self.now.now known lt (rw n at c.index.ensures)
