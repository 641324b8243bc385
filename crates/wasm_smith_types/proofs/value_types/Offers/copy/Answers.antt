use Rattle.std.proofs.Common.{map}
use Rattle.std.proofs.lemmas.List.{length-map}
use Rattle.wasm_core_types.specs.CoreTypes.{field_type}
use Rattle.wasm_smith_types.proofs.CopyLaws.{function_copy, grown_copy, array_copy, same_copy}
use Rattle.wasm_smith_types.proofs.value_types.Offers.copy.Goals as goal

pub returns-in_ok-copy-in-Func-clause-permitted : goal.returns-in_ok-copy-in-Func-clause-permitted
returns-in_ok-copy-in-Func-clause-permitted c = λ features suits permitted.
    let copied = c.in_ok-copy-in-Func.ensures.vary in
    rw c.in-Func.is
    (function_copy features c.args.self.now suits c.args.bound c.in_ok-copy-in-Func.copy c.in-Func.function copied.0 copied.1 (rw c.in-Func.is at permitted))

pub returns-in_ok-fields-in-Struct-clause-permitted : goal.returns-in_ok-fields-in-Struct-clause-permitted
returns-in_ok-fields-in-Struct-clause-permitted c = λ features suits permitted.
    let front = map field_type c.in_ok-front-in-Struct.front.items in
    rw (c.in-Struct.is, c.new.ensures)
    (grown_copy features c.args.self.now suits c.args.bound (map field_type c.in_ok-fields-in-Struct.fields.items) front c.in-Struct.structure _ _
    (rw c.fields.ensures at c.in_ok-front-in-Struct.ensures.narrowed)
    (rw (← length-map c.in_ok-front-in-Struct.front.items field_type) at c.in_ok-fields-in-Struct.ensures.drawn)
    (rw c.in-Struct.is at permitted))

pub returns-in-Array-clause-permitted : goal.returns-in-Array-clause-permitted
returns-in-Array-clause-permitted c = λ features suits permitted.
    rw c.in-Array.is (array_copy features c.args.self.now suits c.args.bound _ _ c.narrowed_field.ensures.narrowed (rw c.in-Array.is at permitted))

pub returns-in-Cont-clause-permitted : goal.returns-in-Cont-clause-permitted
returns-in-Cont-clause-permitted c = λ features suits permitted.
    rw c.in-Cont.is (same_copy features c.args.self.now suits c.args.bound _ (rw c.in-Cont.is at permitted))
