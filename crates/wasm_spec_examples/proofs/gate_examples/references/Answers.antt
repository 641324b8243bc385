use Rattle.std.proofs.Common.{◌&&◌, refl, ap}
use Rattle.wasm_spec.specs.Features.{Exceptions, FunctionReferences, Gc, GcTypes, ReferenceTypes, StackSwitching, has}
use Rattle.wasm_spec_examples.proofs.GateForms.{ends}
use Rattle.wasm_spec_examples.proofs.gate_examples.references.Goals as goal

pub returns : goal.returns
returns c = record {
  function = λ features. refl;
  function_not_null = λ features. ap (λ x. has features ReferenceTypes && x) (ends (has features FunctionReferences));
  external = λ features. refl;
  external_not_null = λ features. ap (λ x. has features ReferenceTypes && (has features GcTypes && x)) (ends (has features FunctionReferences));
  collected = (λ nullable features. ap (λ x. has features ReferenceTypes && (has features GcTypes && x)) (ends (has features Gc)), (λ nullable features. ap (λ x. has features ReferenceTypes && (has features GcTypes && x)) (ends (has features Gc)), (λ nullable features. ap (λ x. has features ReferenceTypes && (has features GcTypes && x)) (ends (has features Gc)), (λ nullable features. ap (λ x. has features ReferenceTypes && (has features GcTypes && x)) (ends (has features Gc)), (λ nullable features. ap (λ x. has features ReferenceTypes && (has features GcTypes && x)) (ends (has features Gc)), (λ nullable features. ap (λ x. has features ReferenceTypes && (has features GcTypes && x)) (ends (has features Gc)), (λ nullable features. ap (λ x. has features ReferenceTypes && (has features GcTypes && x)) (ends (has features Gc)), (λ nullable features. ap (λ x. has features ReferenceTypes && (has features GcTypes && x)) (ends (has features Gc)), tt))))))));
  exception = λ nullable features. ap (λ x. has features ReferenceTypes && x) (ends (has features Exceptions));
  no_exception = λ nullable features. ap (λ x. has features ReferenceTypes && (has features GcTypes && x)) (ends (has features Exceptions));
  continuations = (λ nullable features. ap (λ x. has features ReferenceTypes && (has features GcTypes && x)) (ends (has features StackSwitching)), (λ nullable features. ap (λ x. has features ReferenceTypes && (has features GcTypes && x)) (ends (has features StackSwitching)), tt));
  concrete = λ nullable index features. refl;
}
