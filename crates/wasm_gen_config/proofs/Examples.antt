-- Some keys, values and texts.
use Rattle.std.proofs.Common.{◌≡◌, true, false, pos, negsuc, Some, None, length, codes, refl}
use Rattle.std.specs.Option.{option_map, option_and_then}
use Rattle.toml.specs.Data.{as_bool, integer, string}
use Rattle.toml.specs.Parse.{parse_document}
use Rattle.toml.proofs.OnLiterals.{toml_on_literals}
use Rattle.wasm_smith_config.specs.Instructions.{kinds_named, kind_named, is_name}
use Rattle.wasm_smith_config.specs.Offsets.{choices_at, number_at}
use Rattle.wasm_gen_config.specs.Fields.{known, largest, takes}
use Rattle.wasm_gen_config.specs.Settings.{first_bad, given, is_unknown, is_wrong, number_to}
use Rattle.wasm_gen_config.specs.declared.bad_key.Takes.TheVariants.{Boolean, NumberTo}

-- (all but the three shapes)
each_field : length known ≡ 55
unfolding known
each_field = refl

a_switch : takes (codes "gc_enabled") ≡ Some Boolean
unfolding takes known
a_switch = refl

a_count : takes (codes "max_memories") ≡ Some (NumberTo 4294967295)
unfolding takes known
a_count = refl

a_size : takes (codes "max_memory32_bytes") ≡ Some (NumberTo 18446744073709551615)
unfolding takes known
a_size = refl

a_wide_size : takes (codes "max_memory64_bytes") ≡ Some (NumberTo 340282366920938463463374607431768211455)
unfolding takes known
a_wide_size = refl

no_module_shape : is_unknown (codes "module_shape") ≡ true
unfolding takes known
no_module_shape = refl

no_available_imports : is_unknown (codes "available_imports") ≡ true
unfolding takes known
no_available_imports = refl

no_exports : is_unknown (codes "exports") ≡ true
unfolding takes known
no_exports = refl

other_capitals : is_unknown (codes "GC_enabled") ≡ true
unfolding takes known
other_capitals = refl

largest_count : is_wrong (codes "max_types") (integer (pos 4294967295)) ≡ false
unfolding takes known
largest_count = refl

count_past_it : is_wrong (codes "max_types") (integer (pos 4294967296)) ≡ true
unfolding takes known
count_past_it = refl

negative_count : is_wrong (codes "max_types") (integer (negsuc 0)) ≡ true
unfolding takes known
negative_count = refl

switch_as_number : is_wrong (codes "gc_enabled") (integer (pos 1)) ≡ true
unfolding takes known
switch_as_number = refl

kinds_with_a_blank : is_wrong (codes "allowed_instructions") (string (codes "Numeric, Vector")) ≡ true
unfolding takes known kinds_named kind_named is_name
kinds_with_a_blank = refl

two_weights : is_wrong (codes "memory_offset_choices") (string (codes "90,10")) ≡ true
unfolding takes known choices_at number_at
two_weights = refl

first_in_order : option_and_then first_bad (parse_document (codes "shape = 1\nmax_types = true\n")) ≡ Some (codes "max_types", Some (NumberTo 4294967295))
unfolding toml_on_literals first_bad takes known
first_in_order = refl

none_bad : option_map first_bad (parse_document (codes "max_types = 7\n")) ≡ Some None
unfolding toml_on_literals first_bad takes known
none_bad = refl

over_the_default : option_map (λ t. given as_bool t (codes "gc_enabled") true) (parse_document (codes "gc_enabled = false\n")) ≡ Some false
unfolding toml_on_literals given
over_the_default = refl

as_by_default : option_map (λ t. given (number_to (largest 32)) t (codes "max_types") 100) (parse_document (codes "min_types = 1\n")) ≡ Some 100
unfolding toml_on_literals given
as_by_default = refl
