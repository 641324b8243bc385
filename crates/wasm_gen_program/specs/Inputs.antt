-- The events that an implementation of inputs states. One that does so may stop, as where a list can't grow, and does not begin again.
use Rattle.std.specs.Prelude.{◌≡◌, ℕ, List, [], ◌∷◌, ◌++◌, Option, Result, Ok, Err, option_map, option_to_list}
use Rattle.wasm_gen_program.specs.Device.{SourceView, Tells}
use Rattle.wasm_gen_program.specs.Explanation.{explanation_of}
use Rattle.wasm_gen_program.specs.declared.error.RunError.{RunError}
use Rattle.wasm_gen_program.specs.declared.explanation.Checked.{Checked}

-- an input was opened by this name, and found so, if it could be; or this fault of the input of this name was reported, or this text on where its error stands
pub data Event : Type 0 where
  opened : (name : List ℕ) (found : Option SourceView) → Event
  told : (fault : RunError) (name : List ℕ) → Event
  explained : (text name : List ℕ) → Event

-- these events came after those before, and no others
abbrev pub AddsEvents : Option (List Event) → Option (List Event) → List Event → Type 0
AddsEvents before after events = Tells (λ old new. new ≡ old ++ events) before after

-- the events by which a result is reported: the explanation of a no, if there is one, or a fault
abbrev pub told_of : List ℕ → Result Checked RunError → List Event
told_of name (Ok checked) = option_to_list (option_map (λ text. explained text name) (explanation_of checked))
told_of name (Err fault) = told fault name ∷ []
