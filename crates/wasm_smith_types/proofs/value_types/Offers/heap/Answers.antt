use Rattle.std.proofs.Common.{◌<◌, arith}
use Rattle.wasm_smith_types.proofs.OfferLaws.{is_chosen, heap_chosen, some_bound, heap_abstract}
use Rattle.wasm_smith_types.proofs.value_types.Offers.heap.Goals as goal

pub overflow_sub-last : goal.overflow_sub-last
overflow_sub-last c =
    let some : 0 < c.args.bound = some_bound c.args.self.now.gc c.args.bound _ _ (rw c.asks_concrete.ensures at c.if-bool_if.ensures.exact) in omega arith

pub unwrap-heap-requires : goal.unwrap-heap-requires
unwrap-heap-requires c = is_chosen _ c.self.inside.heaps.items _ _ c.choose.result (rw c.deref.ensures.value at c.choose.ensures.exact) c.self.invariant.some_heap

pub returns-clause-drawn : goal.returns-clause-drawn
returns-clause-drawn c =
    heap_abstract c.args.self.now c.args.bound _ _ _ _ (rw c.asks_concrete.ensures at c.if-bool_if.ensures.exact)
    (heap_chosen c.self.inside.kinds.items c.self.inside.heaps.items c.self.inside.gc c.self.inside.most_results c.args.self.now _ _ _ c.self.view_is (rw (c.deref.ensures.value, c.unwrap-heap.ensures) at c.choose.ensures.exact))
