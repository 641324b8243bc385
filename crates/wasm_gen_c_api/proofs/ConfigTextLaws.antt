-- A text gives one configuration, if any, and empty text gives the default one.
use Rattle.std.proofs.Common.{◌≡◌, ℕ, Bool, false, List, [], ◌∷◌, Option, Some, IsUtf8, get_or, map, refl, sym, subst, ap, ◌∙◌}
use Rattle.std.proofs.lemmas.Option.{same_Some, none-some}
use Rattle.toml.proofs.OnLiterals.{toml_on_literals}
use Rattle.toml.specs.Data.{Data, Members, as_bool, no_members}
use Rattle.toml.specs.Parse.{parse_document}
use Rattle.wasm_gen_config.specs.Fields.{Field, counts, kinds, largest, sizes, switches, weights, wide_sizes}
use Rattle.wasm_gen_config.specs.Outcome.{HasBadKey, IsCauseIn, IsGivenByText}
use Rattle.wasm_gen_config.specs.Settings.{AreGiven, IsGiven, first_bad, given, kinds_in, number_to, weights_in}
use Rattle.wasm_gen_config.specs.declared.bad_key.Takes.{Takes}
use Rattle.wasm_gen_config.specs.declared.config_error.ConfigError.{ConfigError}
use Rattle.wasm_gen_config.specs.declared.config_error.ConfigError.TheVariants.{Text, Key, Memory}
use Rattle.wasm_gen_c_api.proofs.ConfigLaws.{is_default}
use Rattle.wasm_smith.specs.Defaults.{IsDefault}
use Rattle.wasm_smith.specs.Instructions.{all_kinds}
use Rattle.wasm_smith.specs.Offsets.{default_choices}
use Rattle.wasm_smith.specs.Parts.{Config, InstructionKinds, MemoryOffsetChoices}
use Rattle.wasm_smith_shapes.specs.Shapes.{ShapeValue}

-- ---- the values of a configuration's fields

abbrev values : {V : Type 0} → List (Field V) → Config → List V
values fields c = map (λ f. f.value c) fields

-- the configuration whose fields have these values, kind by kind
config_by : (on : List Bool) (count size wide : List ℕ) (kind : List InstructionKinds) (weight : List MemoryOffsetChoices) (module_shape available_imports exports : Option ShapeValue) → Config
config_by on count size wide kind weight module_shape available_imports exports = record {
  allow_floats = get_or on 0 false;
  allow_invalid_funcs = get_or on 1 false;
  allow_start_export = get_or on 2 false;
  bulk_memory_enabled = get_or on 3 false;
  canonicalize_nans = get_or on 4 false;
  compact_imports_enabled = get_or on 5 false;
  custom_page_sizes_enabled = get_or on 6 false;
  disallow_traps = get_or on 7 false;
  exceptions_enabled = get_or on 8 false;
  export_everything = get_or on 9 false;
  extended_const_enabled = get_or on 10 false;
  gc_enabled = get_or on 11 false;
  generate_custom_sections = get_or on 12 false;
  memory64_enabled = get_or on 13 false;
  memory_max_size_required = get_or on 14 false;
  multi_value_enabled = get_or on 15 false;
  reference_types_enabled = get_or on 16 false;
  relaxed_simd_enabled = get_or on 17 false;
  saturating_float_to_int_enabled = get_or on 18 false;
  sign_extension_ops_enabled = get_or on 19 false;
  simd_enabled = get_or on 20 false;
  stack_switching_enabled = get_or on 21 false;
  table_max_size_required = get_or on 22 false;
  tail_call_enabled = get_or on 23 false;
  threads_enabled = get_or on 24 false;
  wide_arithmetic_enabled = get_or on 25 false;
  min_types = get_or count 0 0;
  max_types = get_or count 1 0;
  min_imports = get_or count 2 0;
  max_imports = get_or count 3 0;
  min_tags = get_or count 4 0;
  max_tags = get_or count 5 0;
  min_funcs = get_or count 6 0;
  max_funcs = get_or count 7 0;
  min_globals = get_or count 8 0;
  max_globals = get_or count 9 0;
  min_exports = get_or count 10 0;
  max_exports = get_or count 11 0;
  min_element_segments = get_or count 12 0;
  max_element_segments = get_or count 13 0;
  min_elements = get_or count 14 0;
  max_elements = get_or count 15 0;
  min_data_segments = get_or count 16 0;
  max_data_segments = get_or count 17 0;
  min_tables = get_or count 18 0;
  max_tables = get_or count 19 0;
  min_memories = get_or count 20 0;
  max_memories = get_or count 21 0;
  max_instructions = get_or count 22 0;
  max_type_size = get_or count 23 0;
  max_table_elements = get_or size 0 0;
  max_memory32_bytes = get_or size 1 0;
  max_memory64_bytes = get_or wide 0 0;
  allowed_instructions = get_or kind 0 all_kinds;
  memory_offset_choices = get_or weight 0 default_choices;
  module_shape = module_shape;
  available_imports = available_imports;
  exports = exports;
}

is_told : (c : Config) → c ≡ config_by (values switches c) (values counts c) (values sizes c) (values wide_sizes c) (values kinds c) (values weights c) c.module_shape c.available_imports c.exports
unfolding config_by
is_told c = refl

same_parts : (on on' : List Bool) (count count' size size' wide wide' : List ℕ) (kind kind' : List InstructionKinds) (weight weight' : List MemoryOffsetChoices) (m m' i i' e e' : Option ShapeValue)
    → on ≡ on' → count ≡ count' → size ≡ size' → wide ≡ wide' → kind ≡ kind' → weight ≡ weight' → m ≡ m' → i ≡ i' → e ≡ e'
    → config_by on count size wide kind weight m i e ≡ config_by on' count' size' wide' kind' weight' m' i' e'
same_parts _ _ _ _ _ _ _ _ _ _ _ _ _ _ _ _ _ _ a b c d f g h j k = rw (a, b, c, d, f, g, h, j, k) refl

-- two configurations whose fields that a table may give have the same values, and which have no shapes
record AreAlike (c d : Config) : Type 0 where
  switches_same : values switches c ≡ values switches d
  counts_same : values counts c ≡ values counts d
  sizes_same : values sizes c ≡ values sizes d
  wide_sizes_same : values wide_sizes c ≡ values wide_sizes d
  kinds_same : values kinds c ≡ values kinds d
  weights_same : values weights c ≡ values weights d
  module_shape : c.module_shape ≡ d.module_shape
  available_imports : c.available_imports ≡ d.available_imports
  exports : c.exports ≡ d.exports

alike : (c d : Config) → AreAlike c d → c ≡ d
alike c d same =
    is_told c
    ∙ same_parts _ _ _ _ _ _ _ _ _ _ _ _ _ _ _ _ _ _ same.switches_same same.counts_same same.sizes_same same.wide_sizes_same same.kinds_same same.weights_same same.module_shape same.available_imports same.exports
    ∙ sym (is_told d)

-- ---- a table gives one configuration

module _ {V : Type 0} (read : Data → Option V) where
  are_given : (fields : List (Field V)) (t : Members) (default c : Config) → AreGiven read fields t default c → values fields c ≡ map (λ f. given read t f.name (f.value default)) fields
  are_given [] t default c is = refl
  are_given (f ∷ fields) t default c is = rw (is.0, are_given fields t default c is.1) refl

  given_alike : (fields : List (Field V)) (t : Members) (a b c d : Config) → a ≡ b → AreGiven read fields t a c → AreGiven read fields t b d → values fields c ≡ values fields d
  given_alike fields t a b c d same ic id =
      are_given fields t a c ic ∙ ap (λ (default : Config). map (λ f. given read t f.name (f.value default)) fields) same ∙ sym (are_given fields t b d id)

  -- without a key
  nothing_given : (fields : List (Field V)) (default c : Config) → AreGiven read fields no_members default c → values fields c ≡ values fields default
  unfolding given
  nothing_given [] default c is = refl
  nothing_given (f ∷ fields) default c is = rw (is.0, nothing_given fields default c is.1) refl

given_once : (t : Members) (c d : Config) → IsGiven t c → IsGiven t d → c ≡ d
given_once t c d ic id =
    let same : ic.default ≡ id.default = is_default ic.default ic.is_default ∙ sym (is_default id.default id.is_default) in
    alike c d (record {
      switches_same = given_alike as_bool switches t ic.default id.default c d same ic.switches_given id.switches_given;
      counts_same = given_alike (number_to (largest 32)) counts t ic.default id.default c d same ic.counts_given id.counts_given;
      sizes_same = given_alike (number_to (largest 64)) sizes t ic.default id.default c d same ic.sizes_given id.sizes_given;
      wide_sizes_same = given_alike (number_to (largest 128)) wide_sizes t ic.default id.default c d same ic.wide_sizes_given id.wide_sizes_given;
      kinds_same = given_alike kinds_in kinds t ic.default id.default c d same ic.kinds_given id.kinds_given;
      weights_same = given_alike weights_in weights t ic.default id.default c d same ic.weights_given id.weights_given;
      module_shape = ic.no_module_shape ∙ sym id.no_module_shape;
      available_imports = ic.no_available_imports ∙ sym id.no_available_imports;
      exports = ic.no_exports ∙ sym id.no_exports;
    })

pub same_given : (text : List ℕ) (c d : Config) → IsGivenByText text c → IsGivenByText text d → c ≡ d
same_given text c d ic id =
    let tables : ic.table ≡ id.table = same_Some ic.table id.table (sym ic.is_table ∙ id.is_table) in
    given_once ic.table c d ic.is_given (subst (λ t. IsGiven t d) (sym tables) id.is_given)

-- ---- empty text

default_given : (c : Config) → IsGiven no_members c → IsDefault c
default_given c is =
    let d = is.default in
    let same = alike c d (record {
      switches_same = nothing_given as_bool switches d c is.switches_given;
      counts_same = nothing_given (number_to (largest 32)) counts d c is.counts_given;
      sizes_same = nothing_given (number_to (largest 64)) sizes d c is.sizes_given;
      wide_sizes_same = nothing_given (number_to (largest 128)) wide_sizes d c is.wide_sizes_given;
      kinds_same = nothing_given kinds_in kinds d c is.kinds_given;
      weights_same = nothing_given weights_in weights d c is.weights_given;
      module_shape = is.no_module_shape ∙ sym is.is_default.no_module_shape;
      available_imports = is.no_available_imports ∙ sym is.is_default.no_available_imports;
      exports = is.no_exports ∙ sym is.is_default.no_exports;
    }) in
    subst IsDefault (sym same) is.is_default

no_keys : parse_document [] ≡ Some no_members
unfolding toml_on_literals
no_keys = refl

empty_utf8 : IsUtf8 []
empty_utf8 = ([], (refl, refl))

empty_table : (t : Members) → parse_document [] ≡ Some t → t ≡ no_members
empty_table t is = same_Some t no_members (sym is ∙ no_keys)

pub by_default : (c : Config) → IsGivenByText [] c → IsDefault c
by_default c is = default_given c (subst (λ t. IsGiven t c) (empty_table is.table is.is_table) is.is_given)

no_bad_key : (key : List ℕ) (takes : Option Takes) → HasBadKey [] key takes → ⊥
unfolding first_bad
no_bad_key key takes bad = none-some (key, takes) (sym (ap first_bad (empty_table bad.table bad.is_table)) ∙ bad.is_bad)

-- it is never refused
pub no_cause : (e : ConfigError) → IsCauseIn [] e → ⊥
unfolding toml_on_literals
no_cause (Text cause) is = none-some no_members (sym (is.0 empty_utf8) ∙ no_keys)
no_cause (Key key takes) is = no_bad_key _ takes is
no_cause Memory is = is refl
