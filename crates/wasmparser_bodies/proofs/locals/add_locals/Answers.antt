use Rattle.std.proofs.Common.{◌≡◌, ◌+◌, ◌-◌, ◌≤◌, ◌++◌, ◌∷◌, [], ap, length, refl, replicate, subst, sym, take, vec_len, ◌∙◌, arith}
use Rattle.wasmparser_bodies.specs.KeptLocals.{locals_with}
use Rattle.wasmparser_bodies.specs.LocalRuns.{AreLaidOut, kept_of}
use Rattle.wasmparser_bodies.specs.declared.locals.Run.{Run}
use Rattle.wasmparser_bodies.proofs.LocalLaws.{added_first, added_run, laid_out_first, laid_out_more}
use Rattle.wasmparser_bodies.proofs.locals.add_locals.Goals as goal

pub returns-then-count-room-clause-ok : goal.returns-then-count-room-clause-ok
returns-then-count-room-clause-ok c = λ later params laid_out.
    let first = c.args.first.now in
    let n : c.len-then-count-room.result ≡ length c.args.first.now.items = omega (arith, c.len-then-count-room.ensures, first.ok.0) in
    let few : c.args.count ≤ 64 - length c.args.first.now.items = omega (arith, c.len.ensures, first.ok.0) in
    let e : c.resize.new.self.items ≡ take (length c.args.first.now.items + c.args.count) c.args.first.now.items ++ replicate (length c.args.first.now.items + c.args.count - length c.args.first.now.items) c.args.local.now = rw (n, first.ok.0) at c.in_ok-resize.ensures.items in
    added_first params first.items c.resize.new.self.items later c.args.runs.now.items c.args.start c.args.count c.args.local.now laid_out few e

pub returns-then-count-room-clause-laid_out : goal.returns-then-count-room-clause-laid_out
returns-then-count-room-clause-laid_out c = λ later laid_out.
    let first = c.args.first.now in
    let few : c.args.count ≤ 64 - length c.args.first.now.items = omega (arith, c.len.ensures, first.ok.0) in
    let len : length c.resize.new.self.items ≡ length c.args.first.now.items + c.args.count = omega (arith, c.in_ok-resize.ensures.len, c.resize.new.self.ok.0, c.len-then-count-room.ensures, first.ok.0) in
    laid_out_first first.items c.resize.new.self.items later c.args.runs.now.items c.args.start c.args.count laid_out few len

pub returns-clause-ok : goal.returns-clause-ok
returns-clause-ok c = λ later params laid_out.
    let first = c.args.first.now in
    let n : c.len.result ≡ length c.args.first.now.items = omega (arith, c.len.ensures, first.ok.0) in
    let m : vec_len c.args.first.now ≡ length c.args.first.now.items = first.ok.0 in
    let run : Run = record { count = c.args.count - (64 - c.len.result); end = c.args.start + c.args.count; local = c.args.local.now } in
    let enough : 64 - length c.args.first.now.items ≤ c.args.count = omega arith in
    let e : c.resize-2.new.self.items ≡ take 64 c.args.first.now.items ++ replicate (64 - length c.args.first.now.items) c.args.local.now = rw m at c.in_ok-resize-2.ensures.items in
    let runs : c.push_reserved.new.self.items ≡ c.args.runs.now.items ++ run ∷ [] = c.push_reserved.ensures.items ∙ ap (λ l. l ++ run ∷ []) c.in_ok-reserve.ensures.items in
    ap (λ l. locals_with params (kept_of c.resize-2.new.self.items later l)) runs
    ∙ added_run params first.items c.resize-2.new.self.items later c.args.runs.now.items run c.args.start c.args.count laid_out enough (ap (λ k. c.args.count - (64 - k)) n) e

pub returns-clause-laid_out : goal.returns-clause-laid_out
returns-clause-laid_out c = λ later laid_out.
    let first = c.args.first.now in
    let n : c.len.result ≡ length c.args.first.now.items = omega (arith, c.len.ensures, first.ok.0) in
    let run : Run = record { count = c.args.count - (64 - c.len.result); end = c.args.start + c.args.count; local = c.args.local.now } in
    let enough : 64 - length c.args.first.now.items ≤ c.args.count = omega arith in
    let runs : c.push_reserved.new.self.items ≡ c.args.runs.now.items ++ run ∷ [] = c.push_reserved.ensures.items ∙ ap (λ l. l ++ run ∷ []) c.in_ok-reserve.ensures.items in
    let len : length c.resize-2.new.self.items ≡ 64 = omega (arith, c.in_ok-resize-2.ensures.len, c.resize-2.new.self.ok.0) in
    subst (λ l. AreLaidOut c.resize-2.new.self.items later l (c.args.start + c.args.count)) (sym runs) (laid_out_more first.items c.resize-2.new.self.items later c.args.runs.now.items run c.args.start c.args.count laid_out enough (ap (λ k. c.args.count - (64 - k)) n) refl len)
