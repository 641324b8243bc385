-- Which groups may be cloned: those that fit into what is left.
use Rattle.std.specs.Prelude.{◌≡◌, ◌<◌, ◌≤◌, ℕ, List, length, take, nat_lt, Some, slice_get}
use Rattle.std.specs.List.{AllByRecursion, list_any}
use Rattle.wasm_smith_types.specs.Drawing.{fits, total}
use Rattle.wasm_smith_types.specs.declared.fitting.Fitting.{Fitting}
use Rattle.wasm_smith_types.specs.declared.fitting.Span.{Span}

-- one of the groups
pub record IsSpan (sizes : List ℕ) (span : Span) : Type 0 where
  pub place : ℕ
  pub start : total (take place sizes) ≡ span.start
  pub size : slice_get sizes place ≡ Some span.size

-- Groups that each fit, among which there is one if any of all groups fits.
pub record AreChoices (sizes : List ℕ) (left : ℕ) (spans : List Span) : Type 0 where
  pub each : AllByRecursion (λ span. IsSpan sizes span × (0 < span.size) × (span.size ≤ left)) spans
  pub asks : nat_lt 0 (length spans) ≡ list_any (fits left) sizes

-- Groups none of which is larger than the largest. As long as at most so many types are left, one of them fits exactly where one of all groups does.
pub record AreFitting (sizes : List ℕ) (left : ℕ) (fitting : Fitting) : Type 0 where
  pub each : AllByRecursion (λ span. IsSpan sizes span × (0 < span.size)) fitting.spans.items
  pub greatest : AllByRecursion (λ span. span.size ≤ fitting.greatest) fitting.spans.items
  pub asks : (bound : ℕ) → bound ≤ left → list_any (λ span. fits bound span.size) fitting.spans.items ≡ list_any (fits bound) sizes
