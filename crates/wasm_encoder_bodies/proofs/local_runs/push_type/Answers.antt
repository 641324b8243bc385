use Rattle.std.proofs.Common.{rules, ◌≡◌, ◌+◌, ◌-◌, ◌<◌, ◌≤◌, ◌^◌, length, map, take, ◌++◌, ◌∷◌, [], subst}
use Rattle.wasm_encoder_bodies.specs.CoreLocals.{pair_of}
use Rattle.wasm_encoder_bodies.specs.Locals.{AreRunsOf}
use Rattle.wasm_encoder_bodies.proofs.LastRuns.{longer_last, too_long_last, another_run, too_many, longer_writable, another_writable, has_room}
use Rattle.wasm_encoder_bodies.proofs.local_runs.push_type.Goals as goal

pub returns-in_err-count-clause-too_long : goal.returns-in_err-count-clause-too_long
returns-in_err-count-clause-too_long c is types h =
    let parts : map pair_of c.args.runs.now.items ≡ map pair_of (take (length c.args.runs.now.items - 1) c.args.runs.now.items) ++ (c.in-Some.count, c.args.ty) ∷ [] = search rules in
    let long : 2 ^ 32 ≤ c.in-Some.count + 1 = search rules in
    too_long_last types c.args.runs.now.items c.in-Some.count c.args.ty parts long h

pub returns-in-Some-clause-added : goal.returns-in-Some-clause-added
returns-in-Some-clause-added c types h =
    let parts : map pair_of c.args.runs.now.items ≡ map pair_of (take (length c.args.runs.now.items - 1) c.args.runs.now.items) ++ (c.in-Some.count, c.args.ty) ∷ [] = search rules in
    let count : c.in_ok-count.count ≡ c.in-Some.count + 1 = search rules in
    let len : c.len-last.result ≡ length c.args.runs.now.items = search rules in
    rw (count, len) (longer_last types c.args.runs.now.items c.in-Some.count c.args.ty (search rules) parts h)

pub returns-in-Some-clause-writable : goal.returns-in-Some-clause-writable
returns-in-Some-clause-writable c =
    let parts : map pair_of c.args.runs.now.items ≡ map pair_of (take (length c.args.runs.now.items - 1) c.args.runs.now.items) ++ (c.in-Some.count, c.args.ty) ∷ [] = search rules in
    let count : c.in_ok-count.count ≡ c.in-Some.count + 1 = search rules in
    let len : c.len-last.result ≡ length c.args.runs.now.items = search rules in
    let short : c.in-Some.count + 1 < 2 ^ 32 = search rules in
    rw (count, len) (longer_writable c.args.runs.now.items c.in-Some.count c.args.ty (search rules) parts short c.requires)

pub returns-then-len-ge4294967295-clause-too_long : goal.returns-then-len-ge4294967295-clause-too_long
returns-then-len-ge4294967295-clause-too_long c is types h =
    let seen : c.deref.result.now ≡ c.args.runs.now.items = search rules in
    let more = subst (λ runs. AreRunsOf types (map pair_of runs) → AreRunsOf (types ++ c.args.ty ∷ []) (map pair_of runs ++ (1, c.args.ty) ∷ [])) seen (c.last_count.ensures.other (search rules) types) h in
    too_many types c.args.runs.now.items c.args.ty (search rules) more

pub returns-clause-added : goal.returns-clause-added
returns-clause-added c types h =
    let seen : c.deref.result.now ≡ c.args.runs.now.items = search rules in
    let more = subst (λ runs. AreRunsOf types (map pair_of runs) → AreRunsOf (types ++ c.args.ty ∷ []) (map pair_of runs ++ (1, c.args.ty) ∷ [])) seen (c.last_count.ensures.other (search rules) types) h in
    let items : c.push.new.self.items ≡ c.args.runs.now.items ++ record { count = 1; ty = c.args.ty } ∷ [] = search rules in
    rw items (another_run types c.args.runs.now.items c.args.ty more)

pub returns-clause-writable : goal.returns-clause-writable
returns-clause-writable c =
    let items : c.push.new.self.items ≡ c.args.runs.now.items ++ record { count = 1; ty = c.args.ty } ∷ [] = search rules in
    rw items (another_writable c.args.runs.now.items c.args.ty (search rules) c.requires)

pub returns-in_err-push-clause-memory : goal.returns-in_err-push-clause-memory
returns-in_err-push-clause-memory c is types h =
    let seen : c.deref.result.now ≡ c.args.runs.now.items = search rules in
    let more = subst (λ runs. AreRunsOf types (map pair_of runs) → AreRunsOf (types ++ c.args.ty ∷ []) (map pair_of runs ++ (1, c.args.ty) ∷ [])) seen (c.last_count.ensures.other (search rules) types) h in
    has_room types c.args.runs.now.items c.args.ty (search rules) c.requires more
