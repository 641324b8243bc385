-- The codes of plain operators, and the forms of their immediates.
use Rattle.std.proofs.Common.{refl}
use Rattle.wasm_bodies.specs.Operators.{Unreachable, Block, Loop, If, End, Drop, Br, BrIf, Call, LocalGet, LocalSet, LocalTee, GlobalGet, GlobalSet, F32Const, F64Const}
use Rattle.wasmparser_operators.specs.OperatorReading.{Bare, Float, Number, OfBlock, shape_of}
use Rattle.wasmparser_func_validator.specs.Plain.{IsCoded}

pub br_coded : IsCoded 12 (Number (λ n. Br n))
unfolding shape_of
br_coded = (refl, refl)

pub br_if_coded : IsCoded 13 (Number (λ n. BrIf n))
unfolding shape_of
br_if_coded = (refl, refl)

pub call_coded : IsCoded 16 (Number (λ n. Call n))
unfolding shape_of
call_coded = (refl, refl)

pub local_get_coded : IsCoded 32 (Number (λ n. LocalGet n))
unfolding shape_of
local_get_coded = (refl, refl)

pub set_local_coded : IsCoded 33 (Number (λ n. LocalSet n))
unfolding shape_of
set_local_coded = (refl, refl)

pub tee_local_coded : IsCoded 34 (Number (λ n. LocalTee n))
unfolding shape_of
tee_local_coded = (refl, refl)

pub global_get_coded : IsCoded 35 (Number (λ n. GlobalGet n))
unfolding shape_of
global_get_coded = (refl, refl)

pub global_set_coded : IsCoded 36 (Number (λ n. GlobalSet n))
unfolding shape_of
global_set_coded = (refl, refl)

pub block_coded : IsCoded 2 (OfBlock (λ type. Block type))
unfolding shape_of
block_coded = (refl, refl)

pub loop_coded : IsCoded 3 (OfBlock (λ type. Loop type))
unfolding shape_of
loop_coded = (refl, refl)

pub if_coded : IsCoded 4 (OfBlock (λ type. If type))
unfolding shape_of
if_coded = (refl, refl)

pub end_coded : IsCoded 11 (Bare End)
unfolding shape_of
end_coded = (refl, refl)

pub f32_coded : IsCoded 0x43 (Float 4 (λ bits. F32Const bits))
unfolding shape_of
f32_coded = (refl, refl)

pub f64_coded : IsCoded 0x44 (Float 8 (λ bits. F64Const bits))
unfolding shape_of
f64_coded = (refl, refl)

pub unreachable_coded : IsCoded 0 (Bare Unreachable)
unfolding shape_of
unreachable_coded = (refl, refl)

pub drop_coded : IsCoded 26 (Bare Drop)
unfolding shape_of
drop_coded = (refl, refl)
