use Rattle.std.proofs.Common.{◌∙◌, ap, refl, sym}
use Rattle.wasm_validity.specs.Context.{with_functions}
use Rattle.wasmparser_entries.specs.ConstExprs.{expression_of}
use Rattle.wasmparser_entries.specs.ConstOperators.{const_operator}
use Rattle.wasmparser_module_state.proofs.DeclaredLaws.{named_alone, other_names_none}
use Rattle.wasmparser_module_state.specs.State.{members}
use Rattle.wasmparser_module_state.proofs.function_set.FunctionSet.insert_named.Goals as goal

pub returns-in_default-operator : goal.returns-in_default-operator
returns-in_default-operator c =
    let named = named_alone (const_operator c.in-Some.operator) (expression_of c.args.expression.now.rest) c.in-Some.ensures in
    let none = other_names_none c.in-Some.operator c.in_default-operator.not-RefFunc in
    record { added = ap (λ functions. with_functions (members c.args.self.now) functions) (sym (named ∙ none)); room = refl }
