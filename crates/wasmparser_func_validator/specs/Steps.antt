-- The effects of operators on the stacks of a body, and when they are refused.
use Rattle.std.specs.Prelude.{◌≡◌, ℕ, List, Option, Some, None, IsSome, option_map, Result, Ok, Err}
use Rattle.std.specs.Option.{option_and_then}
use Rattle.wasm_bodies.specs.BodyContext.{BodyContext, Local, ModuleItems}
use Rattle.wasm_bodies.specs.Effects.{effect_of}
use Rattle.wasm_bodies.specs.Operands.{State, taken}
use Rattle.wasm_bodies.specs.Operators.{Indexed}
use Rattle.wasm_bodies.specs.Signatures.{table_index, table_item}
use Rattle.wasm_bodies.specs.Bodies.{block_signature, entered_with}
use Rattle.wasm_bodies.specs.Operators as operators
use Rattle.wasm_bodies_laws.specs.Machine as machine
use Rattle.wasm_bodies_laws.specs.Machine.{Machine, frame_type, label_types, labels_of}
use Rattle.wasm_core_types.specs.Features.{feature_set}
use Rattle.wasm_spec.specs.Features.{Features}
use Rattle.wasm_spec.specs.Types.{TableType, ValType, I32}
use Rattle.wasmparser_func_validator.specs.declared.body.Body.{Body}
use Rattle.wasmparser_func_validator.specs.declared.refusal.Refusal.{Refusal}
use Rattle.wasmparser_func_validator.specs.declared.refusal.Refusal.TheVariants.{Invalid, Memory}
use Rattle.wasmparser_bodies.specs.KeptLocals.{locals_with}
use Rattle.wasmparser_bodies.specs.Resources.{Resources}
use Rattle.wasmparser_operators.specs.declared.immediates.BlockType.{BlockType}
use Rattle.wasmparser_types.specs.Index.{Index}
use Rattle.wasmparser_types.specs.ValTypes.{val_type}
use Rattle.wasmparser_types.specs.declared.val_type.ValType as code
use Rattle.wasmparser_bodies.specs.StackViews.{block_with_ids, frame_kind}
use Rattle.wasmparser_bodies.specs.declared.frame.FrameKind.{FrameKind}

-- the items that operators of a body may name, whose module is seen like this
abbrev pub items_in : {R : Type 0} → (R → Resources) → Body R → ModuleItems Index
items_in seen body = (seen body.resources).items

-- the parameters of its function, and all its locals, of which they come first
abbrev pub params_in : {R : Type 0} → (R → Resources) → Body R → List (ValType Index)
params_in seen body = (frame_type (items_in seen body) (Indexed body.ty)).params

unfoldable pub locals_in_body : {R : Type 0} → (R → Resources) → Body R → List (Local Index)
locals_in_body seen body = locals_with (params_in seen body) body.locals

-- the context of a body of a function whose type has this index
abbrev pub context_of : Resources → Features → List (Local Index) → ℕ → BodyContext Index
context_of resources features locals type = record {
  features = features;
  items = resources.items;
  locals = locals;
  results = (frame_type resources.items (Indexed type)).results;
}

-- the same of a body
abbrev pub body_context : {R : Type 0} → (R → Resources) → Body R → BodyContext Index
body_context seen body = context_of (seen body.resources) (feature_set body.features) (locals_in_body seen body) body.ty

-- On Ok the list that is typed is the wanted one, and the open blocks stay. Invalid comes only where there is none, and Memory only where there is one. A
-- refusal leaves all as it was.
abbrev pub Takes : Option (State Index) → Machine Index → Machine Index → Result (Unit {0}) Refusal → Type 0
Takes wanted old new (Ok x) = (wanted ≡ Some new.now) × (new.frames ≡ old.frames)
Takes wanted old new (Err Invalid) = (wanted ≡ None) × (new ≡ old)
Takes wanted old new (Err Memory) = IsSome wanted × (new ≡ old)

-- what an operator does that is allowed and has an effect
abbrev pub HasEffect : BodyContext Index → operators.Operator ℕ → Machine Index → Machine Index → Result (Unit {0}) Refusal → Type 0
HasEffect cx operator old new result = Takes (effect_of cx (labels_of cx.items old.frames) old.now operator) old new result

-- The same of the list and the blocks together.
abbrev pub Steps : Option (Machine Index) → Machine Index → Machine Index → Result (Unit {0}) Refusal → Type 0
Steps wanted old new (Ok x) = wanted ≡ Some new
Steps wanted old new (Err Invalid) = (wanted ≡ None) × (new ≡ old)
Steps wanted old new (Err Memory) = IsSome wanted × (new ≡ old)

-- ---- what is looked up

-- what a label takes, of the block that it is of
abbrev pub label_kept : ModuleItems Index → FrameKind × BlockType → List (ValType Index)
label_kept items p = label_types (frame_kind p.0) (frame_type items (block_with_ids p.1))

-- what a table is indexed by, and what it holds
abbrev pub table_seen : TableType Index → ValType Index × ValType Index
table_seen table = (table_index table, table_item table)

abbrev pub pair_kept : code.ValType × code.ValType → ValType Index × ValType Index
pair_kept p = (val_type p.0, val_type p.1)

-- ---- blocks

-- the kind of a block, and its type
abbrev pub kind_kept : FrameKind × BlockType → machine.FrameKind × operators.BlockType Index
kind_kept p = (frame_kind p.0, block_with_ids p.1)

-- what opening a block leads to that is allowed, from a list that its operator has taken its condition of
abbrev pub opens_from : BodyContext Index → machine.FrameKind → operators.BlockType ℕ → List (machine.Frame Index) → State Index → Option (Machine Index)
opens_from cx kind type frames s =
    option_map (machine.with_block cx.items frames)
    (option_and_then (λ meant. option_map (machine.opened_as kind meant) (option_and_then (λ signature. entered_with cx.items signature s) (block_signature cx type))) (machine.block_meant cx type))

abbrev pub opens : BodyContext Index → machine.FrameKind → operators.BlockType ℕ → Machine Index → Option (Machine Index)
opens cx kind type m = opens_from cx kind type m.frames m.now

abbrev pub opened_if : BodyContext Index → operators.BlockType ℕ → Machine Index → Option (Machine Index)
opened_if cx type m = option_and_then (opens_from cx machine.IfFrame type m.frames) (taken cx.items I32 m.now)
