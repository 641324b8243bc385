use Rattle.std.proofs.Common.{◌≡◌, ◌+◌, ◌++◌, ◌≤◌, length}
use Rattle.wasmparser_type_list.specs.TypeTables.{group_ids}
use Rattle.wasmparser_rec_groups.proofs.intern.InternRecGroup.add_group_ids.Given as goal

abbrev pub invariant-loop-id : goal.invariant-loop-id
invariant-loop-id g l =
    (g.Self.InternRecGroup.ids l.self ≡ g.Self.InternRecGroup.ids l.initial.self ++ l.yielded) × (g.Self.InternRecGroup.enabled l.self ≡ g.Self.InternRecGroup.enabled l.initial.self)
    × (length (group_ids l.types l.fn.group) ≤ g.Self.InternRecGroup.room l.self + length l.yielded)
