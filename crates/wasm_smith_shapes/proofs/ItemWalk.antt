-- Items that are checked one after the other, as far as a loop has come.
use Rattle.std.proofs.Common.{◌≡◌, ℕ, Bool, true, false, List, ◌∷◌, refl, sym, ap, ◌∙◌}
use Rattle.std.specs.Prelude.{◌&&◌, Some}
use Rattle.wasm_spec.specs.Features.{Features}
use Rattle.wasm_spec.specs.Types.{ExternalType, FuncExternal, TableExternal, MemoryExternal, GlobalExternal, TagExternal}
use Rattle.wasm_validity.specs.Rules.{may_leave}
use Rattle.wasm_smith_validity.specs.Rules.{keep_items, keeps_item}
use Rattle.wasm_smith_validity.specs.Spaces.{Spaces, with_item, with_items}
use Rattle.wasm_smith_shapes.specs.Standing.{Stand, keeps_type, may_begin}
use Rattle.wasm_smith_shapes.specs.ValidShapes.{keep_own, keeps_own, with_own}
use Rattle.wasm_smith_shapes.specs.declared.items.Items.{Items}

-- the spaces that are reached stand for what decides now, and what is left is kept where all is
pub record ImportsLeft (features : Features) (now : Items) (spaces : Spaces) (items rest : List (ExternalType ℕ)) : Type 0 where
  pub reached : Spaces
  pub stand : Stand now reached
  pub same : keep_items features spaces items ≡ keep_items features reached rest
  pub after : with_items spaces items ≡ with_items reached rest

pub record DefinedLeft (features : Features) (now : Items) (spaces : Spaces) (items rest : List (ExternalType ℕ)) : Type 0 where
  pub reached : Spaces
  pub stand : Stand now reached
  pub same : keep_own features spaces items ≡ keep_own features reached rest

and_true : (b : Bool) → b ≡ (b && true)
and_true true = refl
and_true false = refl

-- the rule on an import is that on any item, and that it may cross
pub item_rule : (features : Features) (spaces : Spaces) (type : ExternalType ℕ) → keeps_item features spaces type ≡ (keeps_type features spaces type && may_leave features (Some type))
item_rule features spaces (FuncExternal f) = and_true (keeps_item features spaces (FuncExternal f))
item_rule features spaces (TableExternal t) = and_true (keeps_item features spaces (TableExternal t))
item_rule features spaces (MemoryExternal t) = and_true (keeps_item features spaces (MemoryExternal t))
item_rule features spaces (GlobalExternal t) = refl
item_rule features spaces (TagExternal f) = and_true (keeps_item features spaces (TagExternal f))

-- the rule on an own item is that on any item, and that it may begin
pub own_rule : (features : Features) (spaces : Spaces) (type : ExternalType ℕ) → keeps_own features spaces type ≡ (keeps_type features spaces type && may_begin features type)
own_rule features spaces (FuncExternal f) = and_true (keeps_own features spaces (FuncExternal f))
own_rule features spaces (TableExternal t) = refl
own_rule features spaces (MemoryExternal t) = and_true (keeps_own features spaces (MemoryExternal t))
own_rule features spaces (GlobalExternal t) = and_true (keeps_own features spaces (GlobalExternal t))
own_rule features spaces (TagExternal f) = and_true (keeps_own features spaces (TagExternal f))

-- what is left goes on after an item that keeps its rule
pub import_goes_on : (features : Features) (now new : Items) (spaces : Spaces) (items : List (ExternalType ℕ)) (type : ExternalType ℕ) (rest : List (ExternalType ℕ))
    → ImportsLeft features now spaces items (type ∷ rest) → ((s : Spaces) → Stand now s → true ≡ keeps_type features s type) → true ≡ may_leave features (Some type)
    → ((s : Spaces) → Stand now s → Stand new (with_item s type)) → ImportsLeft features new spaces items rest
import_goes_on features now new spaces items type rest left keeps crosses added =
    let here = sym (keeps left.reached left.stand) in
    let rule : keeps_item features left.reached type ≡ true =
    item_rule features left.reached type ∙ ap (λ b. b && may_leave features (Some type)) here ∙ sym crosses in
    record {
      reached = with_item left.reached type;
      stand = added left.reached left.stand;
      same = left.same ∙ ap (λ b. b && keep_items features (with_item left.reached type) rest) rule;
      after = left.after;
    }

pub defined_goes_on : (features : Features) (now new : Items) (spaces : Spaces) (items : List (ExternalType ℕ)) (type : ExternalType ℕ) (rest : List (ExternalType ℕ))
    → DefinedLeft features now spaces items (type ∷ rest)
    → ((s : Spaces) → Stand now s → ((keeps_type features s type && may_begin features type) && may_leave features (Some type)) ≡ true)
    → ((s : Spaces) → Stand now s → Stand new (with_own s type)) → DefinedLeft features new spaces items rest
defined_goes_on features now new spaces items type rest left keeps added =
    let rule : (keeps_own features left.reached type && may_leave features (Some type)) ≡ true =
    ap (λ b. b && may_leave features (Some type)) (own_rule features left.reached type) ∙ keeps left.reached left.stand in
    record {
      reached = with_own left.reached type;
      stand = added left.reached left.stand;
      same = left.same ∙ ap (λ b. b && keep_own features (with_own left.reached type) rest) rule;
    }

pub all_three : (a b d : Bool) → true ≡ a → true ≡ b → true ≡ d → ((a && b) && d) ≡ true
all_three a b d e f g = rw (sym e, sym f, sym g) refl
