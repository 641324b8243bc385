-- The configuration that a table gives, and the causes for which a text gives none.
use Rattle.std.proofs.Common.{◌≡◌, ℕ, List, Some, IsUtf8, sym, ap, ◌∙◌, rules, subst}
use Rattle.toml.specs.Data.{Members, no_members}
use Rattle.toml.specs.Errors.{IsBlank}
use Rattle.toml.specs.Parse.{parse_document, lines}
use Rattle.std.proofs.lemmas.Option.{same_Some, none-some}
use Rattle.wasm_smith_config.specs.Defaults.{IsDefault}
use Rattle.wasm_smith_config.specs.declared.config.Config.{Config}
use Rattle.wasm_gen_config.specs.Filled.{with_on, with_off, with_minimums, with_maximums, with_others}
use Rattle.wasm_gen_config.specs.Outcome.{IsCauseIn, Owns, named}
use Rattle.wasm_gen_config.specs.Settings.{IsGiven, first_bad}
use Rattle.wasm_gen_config.specs.declared.bad_key.BadKey.{BadKey}
use Rattle.wasm_gen_config.specs.declared.config_error.ConfigError.{ConfigError}
use Rattle.wasm_gen_config.specs.declared.config_error.ConfigError.TheVariants.{Text, Key, Memory}

-- the default configuration with what a table has
filled : Members → Config → Config
filled t default = with_others t (with_maximums t (with_minimums t (with_off t (with_on t default))))

filled_given : (t : Members) (default : Config) → IsDefault default → IsGiven t (filled t default)
unfolding filled with_on with_off with_minimums with_maximums with_others
filled_given t default is = record {
  default = default;
  is_default = is;
  switches_given = search rules;
  counts_given = search rules;
  sizes_given = search rules;
  wide_sizes_given = search rules;
  kinds_given = search rules;
  weights_given = search rules;
  no_module_shape = is.no_module_shape;
  no_available_imports = is.no_available_imports;
  no_exports = is.no_exports;
}

pub all_given : (t : Members) (default a b c d e : Config) → IsDefault default → a ≡ with_on t default → b ≡ with_off t a → c ≡ with_minimums t b → d ≡ with_maximums t c → e ≡ with_others t d → IsGiven t e
unfolding filled
all_given t default a b c d e is ia ib ic id ie =
    let whole : filled t default ≡ e = cc in
    subst (IsGiven t) whole (filled_given t default is)

-- a blank text has no keys
blank_table : (text : List ℕ) → IsBlank text → parse_document text ≡ Some no_members
unfolding parse_document lines
blank_table text blank = rw blank

blank_good : (text : List ℕ) (t : Members) (bad : BadKey) → parse_document text ≡ Some t → first_bad t ≡ Some (named bad) → ¬ IsBlank text
unfolding first_bad
blank_good text t bad is first blank =
    let none : t ≡ no_members = same_Some t no_members (sym is ∙ blank_table text blank) in
    none-some (named bad) (sym (ap first_bad none) ∙ first)

pub cause : (text : List ℕ) (t : Members) (bad : BadKey) (e : ConfigError) → Owns bad e → IsUtf8 text → parse_document text ≡ Some t → first_bad t ≡ Some (named bad) → IsCauseIn text e
cause text t bad (Text e) owns utf8 is first = absurd owns
cause text t bad (Key key takes) owns utf8 is first = record { is_utf8 = utf8; table = t; is_table = is; is_bad = first ∙ ap Some (sym owns) }
cause text t bad Memory owns utf8 is first = blank_good text t bad is first
