-- The builder that the options of a C program ask for.
use Rattle.std.specs.Prelude.{Bool, None, Some, bit_and, if◌then◌else◌, not, ℕ, ◌==◌}
use Rattle.regex_syntax.specs.Verdict.{default_config}
use Rattle.nfa_compiler.specs.Written.{syntax_of}
use Rattle.nfa_meta.specs.Built.{compiler_of, default_settings}
use Rattle.nfa_meta.specs.declared.builder.Builder.{Builder}
use Rattle.nfa_meta.specs.declared.builder.Config.{Config}
use Rattle.regex_syntax.specs.declared.Config.{Config as Syntax}
use Rattle.nfa_c.specs.declared.options.NfaOptions.{NfaOptions}

-- the flag is one of those in the sum
abbrev pub has_flag : ℕ → ℕ → Bool
has_flag flags flag = not (bit_and flags flag == 0)

-- 0 asks for the default
abbrev pub or_default : ℕ → ℕ → ℕ
or_default value default = if value == 0 then default else value

-- the syntax: the flags, whether there are octal numbers, and else the default
abbrev pub syntax_in : NfaOptions → Syntax
syntax_in o = record default_config {
  flags = record {
    case_insensitive = has_flag o.flags 1;
    multi_line = has_flag o.flags 2;
    dot_matches_new_line = has_flag o.flags 4;
    swap_greed = has_flag o.flags 8;
    unicode = not (has_flag o.flags 64);
    crlf = has_flag o.flags 32;
    ignore_whitespace = has_flag o.flags 16;
  };
  octal = has_flag o.flags 1024;
}

-- the settings of the engines
abbrev pub config_in : NfaOptions → Config
config_in o = record {
  anchored = has_flag o.flags 256;
  utf8 = not (has_flag o.flags 128);
  nfa_size_limit = or_default o.size_limit default_settings.nfa_size_limit;
  line_terminator = default_settings.line_terminator;
  which_captures = default_settings.which_captures;
  hybrid = not (has_flag o.flags 512);
  hybrid_cache_capacity = or_default o.dfa_capacity default_settings.hybrid_cache_capacity;
  backtrack_visited_capacity = if o.backtrack_capacity == 0 then None else Some o.backtrack_capacity;
  onepass = default_settings.onepass;
  onepass_size_limit = default_settings.onepass_size_limit;
}

-- the builder of both
abbrev pub builder_in : NfaOptions → Builder
builder_in o = record { config = config_in o; syntax = syntax_in o }

-- the syntax that its compiler reads patterns by
abbrev pub reading_in : NfaOptions → Syntax
reading_in o = syntax_of (compiler_of (builder_in o))
