-- The bodies that are drawn.
use Rattle.std.proofs.Common.{◌≡◌, ℕ, ◌+◌, ◌-◌, ◌≤◌, Bool, true, false, List, [], ◌∷◌, ◌++◌, map, length, Some, None, refl, arith}
use Rattle.std.specs.List.{AllByRecursion}
use Rattle.std.proofs.lemmas.List.Sums.{sum_by_push}
use Rattle.wasm_spec.specs.Features.{Features}
use Rattle.wasm_spec.specs.Types.{ValType, SubType}
use Rattle.wasm_smith_validity.specs.Made.{MadeBody}
use Rattle.wasm_smith_module.specs.Contents.{contents_at, raw_length, raw_total}
use Rattle.wasm_smith_module.specs.Generating.{bare_body}
use Rattle.wasm_smith_config.specs.Config.{AreFeaturesOf}
use Rattle.wasm_smith_config.specs.declared.config.Config.{Config}
use Rattle.wasm_smith_definitions.proofs.OfferedLaws.{permitted_written}
use Rattle.wasm_smith_unstructured.specs.Draws.{bool_at}
use Rattle.wasm_smith_types.specs.Drawing.{Offers, bool_if, value_at, values_at}
use Rattle.wasm_smith_types.specs.Growing.{grow_at, grow_from, grows_from, times_at, with_front}
use Rattle.wasm_smith_types.proofs.GrowLaws.{times_begins, times_ends}
use Rattle.wasm_smith_types.specs.Offering.{offers}
use Rattle.wasm_smith_types.proofs.ListLaws.{grow_all, grow_few, times_all, times_many}
use Rattle.wasm_smith_types.proofs.OfferingLaws.{values_suit}
use Rattle.wasm_smith_types.proofs.PermittedLaws.{value_permitted}
use Rattle.wasm_smith_validity.specs.Spaces.{is_value, spaces_of_types}
use Rattle.wasm_smith_module.specs.Code.{body_at, code_at, raw_at}

-- what holds of the locals that are drawn, and of what stands behind them, holds of all bodies
all_bodies : (P : MadeBody → Type 0) (allowed : Bool) (o : Offers) (bound count : ℕ) → ((s : List ℕ) → P (body_at allowed o bound s).0) → (s : List ℕ) → AllByRecursion P (code_at allowed o bound count s).0
unfolding code_at
all_bodies P allowed o bound count each s = times_all P (body_at allowed o bound) each count s

pub code_many : (allowed : Bool) (o : Offers) (bound count : ℕ) (s : List ℕ) → length (code_at allowed o bound count s).0 ≡ count
unfolding code_at
code_many allowed o bound count s = times_many (body_at allowed o bound) count s

values_few : (o : Offers) (bound max : ℕ) (s : List ℕ) → length (values_at o bound max s).0 ≤ max
unfolding values_at
values_few o bound max s = grow_few (value_at o bound) 0 max s

body_few : (allowed : Bool) (o : Offers) (bound : ℕ) (s : List ℕ) → length (body_at allowed o bound s).0.locals ≤ 100
unfolding body_at
body_few allowed o bound s = values_few o bound 100 s

pub code_few : (allowed : Bool) (o : Offers) (bound count : ℕ) (s : List ℕ) → AllByRecursion (λ body. length body.locals ≤ 100) (code_at allowed o bound count s).0
code_few allowed o bound count s = all_bodies (λ body. length body.locals ≤ 100) allowed o bound count (body_few allowed o bound) s

body_not_raw : (o : Offers) (bound : ℕ) (s : List ℕ) → (body_at false o bound s).0.raw ≡ None
unfolding body_at raw_at bool_if
body_not_raw o bound s = refl

pub code_not_raw : (allowed : Bool) (o : Offers) (bound count : ℕ) (s : List ℕ) → allowed ≡ false → AllByRecursion (λ body. body.raw ≡ None) (code_at allowed o bound count s).0
code_not_raw true o bound count s off = absurd cc
code_not_raw false o bound count s off = all_bodies (λ body. body.raw ≡ None) false o bound count (body_not_raw o bound) s

-- ---- they are value types that the module may write

abbrev IsWritten : Features → List (SubType ℕ) → ValType ℕ → Type 0
IsWritten features types type = is_value features types type ≡ true

value_valid : (c : Config) (features : Features) → AreFeaturesOf c features → (types : List (SubType ℕ)) (s : List ℕ) → IsWritten features types (value_at (offers c) (length types) s).0
value_valid c features are types s =
    permitted_written c (spaces_of_types types) (length types) (value_at (offers c) (length types) s).0
    (λ features are. value_permitted features (offers c) (values_suit c features are) (length types) s) (omega arith) features are

values_valid : (c : Config) (features : Features) → AreFeaturesOf c features → (types : List (SubType ℕ)) (max : ℕ) (s : List ℕ)
    → AllByRecursion (IsWritten features types) (values_at (offers c) (length types) max s).0
unfolding values_at
values_valid c features are types max s = grow_all (IsWritten features types) (value_at (offers c) (length types)) (value_valid c features are types) 0 max s

body_valid : (c : Config) (features : Features) → AreFeaturesOf c features → (types : List (SubType ℕ)) (allowed : Bool) (s : List ℕ)
    → AllByRecursion (IsWritten features types) (body_at allowed (offers c) (length types) s).0.locals
unfolding body_at
body_valid c features are types allowed s = values_valid c features are types 100 s

pub code_valid : (c : Config) (features : Features) → AreFeaturesOf c features → (types : List (SubType ℕ)) (allowed : Bool) (count : ℕ) (s : List ℕ)
    → AllByRecursion (λ body. AllByRecursion (λ type. is_value features types type ≡ true) body.locals) (code_at allowed (offers c) (length types) count s).0
code_valid c features are types allowed count s =
    all_bodies (λ body. AllByRecursion (IsWritten features types) body.locals) allowed (offers c) (length types) count (body_valid c features are types allowed) s

-- ---- without bytes there are none

no_values : (o : Offers) (bound : ℕ) → values_at o bound 100 [] ≡ ([], [])
unfolding values_at grow_at grow_from grows_from bool_at
no_values o bound = refl

no_raw : (allowed : Bool) → raw_at allowed [] ≡ (None, [])
unfolding raw_at bool_if bool_at
no_raw true = refl
no_raw false = refl

no_body : (allowed : Bool) (o : Offers) (bound : ℕ) → body_at allowed o bound [] ≡ (bare_body, [])
unfolding body_at
no_body allowed o bound = rw (no_values o bound, no_raw allowed) refl

times_none : (allowed : Bool) (o : Offers) (bound : ℕ) (funcs : List ℕ) → times_at (body_at allowed o bound) (length funcs) [] ≡ (map (λ func. bare_body) funcs, [])
unfolding times_at
times_none allowed o bound [] = refl
times_none allowed o bound (func ∷ funcs) = rw (no_body allowed o bound, times_none allowed o bound funcs) refl

pub no_code : (allowed : Bool) (o : Offers) (bound : ℕ) (funcs : List ℕ) → code_at allowed o bound (length funcs) [] ≡ (map (λ func. bare_body) funcs, [])
unfolding code_at
no_code allowed o bound funcs = times_none allowed o bound funcs

-- ---- a loop that pushes

pub raw_more : (bodies : List MadeBody) (body : MadeBody) → raw_total (bodies ++ body ∷ []) ≡ raw_total bodies + raw_length body.raw
raw_more bodies body = sum_by_push (λ (body : MadeBody). raw_length body.raw) bodies body

pub raw_taken : (allowed : Bool) (s t left contents : List ℕ) → bool_if allowed s ≡ (true, t) → contents_at t ≡ (contents, left) → raw_at allowed s ≡ (Some contents, left)
unfolding raw_at
raw_taken allowed s t left contents asked taken = rw (asked, taken) refl

pub raw_left : (allowed : Bool) (s t : List ℕ) → bool_if allowed s ≡ (false, t) → raw_at allowed s ≡ (None, t)
unfolding raw_at
raw_left allowed s t asked = rw asked refl

pub code_begins : (allowed : Bool) (o : Offers) (bound count : ℕ) (s : List ℕ) → with_front [] (times_at (body_at allowed o bound) (count - 0) s) ≡ code_at allowed o bound count s
unfolding code_at
code_begins allowed o bound count s = times_begins (body_at allowed o bound) count s

pub code_ends : (allowed : Bool) (o : Offers) (bound count i : ℕ) (s t : List ℕ) (front : List MadeBody) → count ≤ i
    → with_front front (times_at (body_at allowed o bound) (count - i) t) ≡ code_at allowed o bound count s → code_at allowed o bound count s ≡ (front, t)
code_ends allowed o bound count i s t front past so_far = times_ends (body_at allowed o bound) front count i t (code_at allowed o bound count s) past so_far
