-- An element segment that is judged part by part, while the functions are declared that it names.
use Rattle.std.proofs.Common.{◌≡◌, ℕ, Bool, List, [], ◌∷◌, ◌++◌, refl, sym, ap, subst, ◌∙◌}
use Rattle.std.specs.Prelude.{⊤, nat_eq}
use Rattle.std.specs.List.{list_any}
use Rattle.wasm_spec.specs.Features.{Features}
use Rattle.wasm_spec.specs.Syntax.{ElementSegment}
use Rattle.wasm_spec.specs.Trees.{DefType}
use Rattle.wasm_spec.specs.Types.{RefType}
use Rattle.wasm_validity.specs.Context.{Context, after, element_type, named_at_element, named_in_items, with_functions}
use Rattle.wasm_validity.specs.Entries.{OfElement}
use Rattle.wasm_validity.specs.Rules.{IsWithin, KeepsElement, KeepsElementMode, KeepsItems, value_of}
use Rattle.wasmparser_constants.specs.Steps.{Refuses}
use Rattle.wasmparser_error.specs.declared.error.Error.{Error}
use Rattle.wasmparser_error.specs.declared.error.ErrorKind.{ErrorKind}
use Rattle.wasmparser_error.specs.declared.error.ErrorKind.TheVariants as kinds
use Rattle.wasmparser_module_state.proofs.DeclaredItems.{still}
use Rattle.wasmparser_module_state.proofs.DeclaredLaws.{in_turn}
use Rattle.wasmparser_module_state.proofs.NamedFunctions.{IsAsBefore, declares_more, mode_also, mode_before}
use Rattle.wasmparser_module_state.specs.Judging.{Accepts, IsAt, IsLeft, MayDeclare, NamesEntry}

-- ---- what a refusal of an element segment leaves

pub declares_none : (functions : List ℕ) (declared : ℕ → Bool) → MayDeclare functions declared declared
declares_none functions declared = record { kept = λ _ is. is; named = λ function is. still (list_any (nat_eq function) functions) (declared function) is }

declares_all : (functions : List ℕ) (old new : ℕ → Bool) → new ≡ with_functions old functions → MayDeclare functions old new
declares_all functions old new all = record {
  kept = λ function is. ap (λ (set : ℕ → Bool). set function) all ∙ still (list_any (nat_eq function) functions) (old function) is;
  named = λ function is. ap (λ (set : ℕ → Bool). set function) (sym all) ∙ is;
}

-- with functions that are named later
declares_first : (xs ys : List ℕ) (old new : ℕ → Bool) → MayDeclare xs old new → MayDeclare (xs ++ ys) old new
declares_first xs ys old new may = record {
  kept = may.kept;
  named = λ function is. ap (λ (set : ℕ → Bool). set function) (sym (in_turn old xs ys)) ∙ still (list_any (nat_eq function) ys) (with_functions old xs function) (may.named function is);
}

module _ (old : Context) (segment : ElementSegment) where
  pub left_before : (new : Context) → new ≡ old → IsLeft old (OfElement segment) new
  left_before new same = (
    same ∙ ap (λ (set : ℕ → Bool). record old { declared = set }) (sym (ap (λ (cx : Context). cx.declared) same)),
    subst (λ (set : ℕ → Bool). MayDeclare (named_in_items segment.items ++ named_at_element segment.mode) old.declared set) (sym (ap (λ (cx : Context). cx.declared) same)) (declares_none _ old.declared),
  )

  pub left_at_items : (new : Context) → IsAsBefore old new → MayDeclare (named_in_items segment.items) old.declared new.declared → IsLeft old (OfElement segment) new
  left_at_items new before may = (before, declares_first (named_in_items segment.items) (named_at_element segment.mode) old.declared new.declared may)

  pub left_at_mode : (mid new : Context) → IsAsBefore old mid → MayDeclare (named_in_items segment.items) old.declared mid.declared → new ≡ mid → IsLeft old (OfElement segment) new
  left_at_mode mid new before may same = subst (λ (cx : Context). IsLeft old (OfElement segment) cx) (sym same) (left_at_items mid before may)

  all_named : (mid : Context) (new : ℕ → Bool) → mid.declared ≡ with_functions old.declared (named_in_items segment.items) → new ≡ with_functions mid.declared (named_at_element segment.mode)
      → new ≡ with_functions old.declared (named_in_items segment.items ++ named_at_element segment.mode)
  all_named mid new items mode =
      mode ∙ ap (λ (set : ℕ → Bool). with_functions set (named_at_element segment.mode)) items ∙ in_turn old.declared (named_in_items segment.items) (named_at_element segment.mode)

  pub left_at_end : (mid new : Context) → IsAsBefore old mid → mid.declared ≡ with_functions old.declared (named_in_items segment.items)
      → new ≡ record mid { declared = with_functions mid.declared (named_at_element segment.mode) } → IsLeft old (OfElement segment) new
  left_at_end mid new before items is = (
    declares_more old mid new _ before is,
    declares_all (named_in_items segment.items ++ named_at_element segment.mode) old.declared new.declared (all_named mid new.declared items (ap (λ (cx : Context). cx.declared) is)),
  )

  pub element_known : (mid new : Context) → IsAsBefore old mid → mid.declared ≡ with_functions old.declared (named_in_items segment.items)
      → new ≡ record mid { declared = with_functions mid.declared (named_at_element segment.mode) }
      → record new { elements = new.elements ++ element_type segment.items ∷ [] } ≡ after old (OfElement segment)
  element_known mid new before items is =
      ap (λ (cx : Context). record cx { elements = cx.elements ++ element_type segment.items ∷ [] })
      (declares_more old mid new _ before is ∙ ap (λ (set : ℕ → Bool). record old { declared = set }) (all_named mid new.declared items (ap (λ (cx : Context). cx.declared) is)))

-- ---- the parts

module _ (features : Features) (old : Context) (held : List DefType) (segment : ElementSegment) (place : ℕ) (within : IsWithin old (OfElement segment)) where
  -- what a refusal of the segment says
  abbrev IsRefused : Error → Context → Type 0
  IsRefused e new = NamesEntry features old held (OfElement segment) e.kind × IsAt place e.kind e.offset × IsLeft old (OfElement segment) new

  part_refused : (Part : Type 0) (e : Error) (new : Context) → (KeepsElement features old segment → Part) → Refuses place (¬ Part) ⊤ e.kind e.offset → IsLeft old (OfElement segment) new → IsRefused e new
  part_refused Part e new part refuses left = by_kind e.kind refuses
    where
      by_kind : (kind : ErrorKind) → Refuses place (¬ Part) ⊤ kind e.offset → NamesEntry features old held (OfElement segment) kind × IsAt place kind e.offset × IsLeft old (OfElement segment) new
      by_kind kinds.Invalid h = (λ keeps. h.0 (part keeps), h.1, left)
      by_kind kinds.Memory h = (within, tt, left)
      by_kind kinds.Malformed h = absurd h
      by_kind (kinds.Limit limit) h = absurd h
      by_kind kinds.Operator h = absurd h
      by_kind kinds.Body h = absurd h
      by_kind kinds.Total h = absurd h
      by_kind kinds.Order h = absurd h
      by_kind kinds.Failed h = absurd h

  pub no_room : (e : Error) (new : Context) → e ≡ record { offset = 0; kind = kinds.Memory } → new ≡ old → IsRefused e new
  no_room e new is same = subst (λ (e : Error). IsRefused e new) (sym is) (within, tt, left_before old segment new same)

  -- there was room made first, and the items were judged and declared
  module _ (f : Features) (cx mid : Context) (same_features : f ≡ features) (same : cx ≡ old) (before : IsAsBefore cx mid) where
    first_before : IsAsBefore old mid
    first_before = subst (λ (c : Context). IsAsBefore c mid) same before

    pub items_refused : (e : Error) → Refuses place (¬ (KeepsItems f cx segment.items)) ⊤ e.kind e.offset → MayDeclare (named_in_items segment.items) cx.declared mid.declared → IsRefused e mid
    items_refused e refuses may =
        part_refused (KeepsItems f cx segment.items) e mid
        (λ keeps. subst (λ (c : Context). KeepsItems f c segment.items) (sym same) (subst (λ (g : Features). KeepsItems g old segment.items) (sym same_features) keeps.items)) refuses
        (left_at_items old segment mid first_before (subst (λ (c : Context). MayDeclare (named_in_items segment.items) c.declared mid.declared) same may))

    module _ (g : Features) (element : RefType ℕ) (also : g ≡ f) (typed : element ≡ element_type segment.items) where
      to_mode : KeepsElementMode g mid (value_of element) segment.mode → KeepsElementMode features old (value_of (element_type segment.items)) segment.mode
      to_mode keeps =
          mode_also features old mid.declared (value_of (element_type segment.items)) segment.mode
          (subst (λ (c : Context). KeepsElementMode features c (value_of (element_type segment.items)) segment.mode) first_before
          (subst (λ (t : RefType ℕ). KeepsElementMode features mid (value_of t) segment.mode) typed
          (subst (λ (h : Features). KeepsElementMode h mid (value_of element) segment.mode) (also ∙ same_features) keeps)))

      of_mode : KeepsElementMode features old (value_of (element_type segment.items)) segment.mode → KeepsElementMode g mid (value_of element) segment.mode
      of_mode keeps =
          subst (λ (h : Features). KeepsElementMode h mid (value_of element) segment.mode) (sym (also ∙ same_features))
          (subst (λ (t : RefType ℕ). KeepsElementMode features mid (value_of t) segment.mode) (sym typed)
          (subst (λ (c : Context). KeepsElementMode features c (value_of (element_type segment.items)) segment.mode) (sym first_before)
          (mode_before features old mid.declared (value_of (element_type segment.items)) segment.mode keeps)))

      pub mode_refused : (e : Error) (new : Context) → Refuses place (¬ (KeepsElementMode g mid (value_of element) segment.mode)) ⊤ e.kind e.offset
          → MayDeclare (named_in_items segment.items) cx.declared mid.declared → new ≡ mid → IsRefused e new
      mode_refused e new refuses may stays =
          part_refused (KeepsElementMode g mid (value_of element) segment.mode) e new (λ keeps. of_mode keeps.mode) refuses
          (left_at_mode old segment mid new first_before (subst (λ (c : Context). MayDeclare (named_in_items segment.items) c.declared mid.declared) same may) stays)

    -- the functions of the index were declared too
    module _ (later : Context) (items : mid.declared ≡ with_functions cx.declared (named_in_items segment.items))
        (mode : later ≡ record mid { declared = with_functions mid.declared (named_at_element segment.mode) }) where
      first_items : mid.declared ≡ with_functions old.declared (named_in_items segment.items)
      first_items = subst (λ (c : Context). mid.declared ≡ with_functions c.declared (named_in_items segment.items)) same items

      pub not_pushed : (e : Error) (new : Context) → (e ≡ record { offset = 0; kind = kinds.Memory }) × (new ≡ later) → IsRefused e new
      not_pushed e new (is, stays) =
          subst (λ (e : Error). IsRefused e new) (sym is)
          (within, tt, subst (λ (c : Context). IsLeft old (OfElement segment) c) (sym stays) (left_at_end old segment mid later first_before first_items mode))

      pub accepted : (g : Features) (element : RefType ℕ) (new : Context) → g ≡ f → element ≡ element_type segment.items → KeepsItems f cx segment.items → KeepsElementMode g mid (value_of element) segment.mode
          → new ≡ record later { elements = later.elements ++ element ∷ [] } → Accepts features old (OfElement segment) new
      accepted g element new also typed keeps_items keeps_mode is = record {
        rule = record {
          items = subst (λ (h : Features). KeepsItems h old segment.items) same_features (subst (λ (c : Context). KeepsItems f c segment.items) same keeps_items);
          mode = to_mode g element also typed keeps_mode;
        };
        limits = within;
        known = is ∙ ap (λ (t : RefType ℕ). record later { elements = later.elements ++ t ∷ [] }) typed ∙ element_known old segment mid later first_before first_items mode;
      }

pub ruleset left_steps = (declares_none)
