-- What a builder makes of the texts of patterns, and why it fails.
use Rattle.std.specs.Prelude.{◌≡◌, ◌==◌, ℕ, MatchBool, true, false, List, [], Option, None, codes, ⊤}
use Rattle.regex_syntax.specs.Verdict.{default_config}
use Rattle.thompson_nfa.specs.Automaton.{nfa_with_terminator}
use Rattle.nfa_paths.specs.Common.{Automaton, IsAutomaton, is_utf8_empty}
use Rattle.nfa_backtrack.specs.Backtrack.{empty_cache}
use Rattle.nfa_pikevm.specs.Engines.{cache_for}
use Rattle.nfa_choice.specs.ChoiceState.{ChoiceState}
use Rattle.nfa_facts.specs.Kept.{with_captures}
use Rattle.nfa_facts.specs.declared.captures.which.WhichCaptures.{WhichCaptures}
use Rattle.nfa_facts.specs.declared.captures.which.WhichCaptures.TheVariants as which
use Rattle.nfa_compiler.specs.Compiled.{FindsFromAnyStart, IsBoundAsRead, IsCompiled}
use Rattle.nfa_compiler.specs.Rejected.{compile_error_text, IsOfOneText, NamesText, TextsFitIn}
use Rattle.nfa_compiler.specs.Written.{syntax_of, byte_syntax}
use Rattle.nfa_compiler.specs.declared.compiler.Compiler.{Compiler}
use Rattle.nfa_compiler.specs.declared.error.CompileError.{CompileError}
use Rattle.nfa_compiler.specs.declared.error.CompileError.TheVariants as cause
use Rattle.nfa_meta.specs.RegexState.{RegexState}
use Rattle.nfa_meta.specs.declared.builder.Builder.{Builder}
use Rattle.nfa_meta.specs.declared.builder.Config.{Config}
use Rattle.nfa_meta.specs.declared.error.BuildError.{BuildError}
use Rattle.nfa_meta.specs.declared.error.BuildError.TheVariants.{Compile, Memory}

-- the default settings
abbrev pub default_settings : Config
default_settings = record {
  anchored = false;
  utf8 = true;
  nfa_size_limit = 10_485_760;
  line_terminator = 10;
  which_captures = which.All;
  hybrid = true;
  hybrid_cache_capacity = 16_777_216;
  backtrack_visited_capacity = None;
  onepass = true;
  onepass_size_limit = 1_048_576;
}

-- the builder of these settings, and of the default syntax
abbrev pub default_builder : Builder
default_builder = record { config = default_settings; syntax = default_config }

-- the compiler that a builder compiles texts with
abbrev pub compiler_of : Builder → Compiler
compiler_of b = record {
  config = record { anchored = b.config.anchored; utf8 = b.config.utf8; size_limit = b.config.nfa_size_limit };
  syntax = b.syntax;
}

-- the engines of an NFA before their first search, with this capacity of the backtracker
abbrev pub engines_of : Automaton → Option ℕ → ChoiceState
engines_of nfa capacity = record {
  nfa = nfa;
  visited_capacity = capacity;
  match_kind = None;
  back = empty_cache;
  pike = cache_for nfa;
  ran = None;
}

-- the regex of an NFA with these settings, before its first search: it was built of no texts
abbrev pub regex_of : Automaton → Config → RegexState
regex_of nfa config = record {
  choice = engines_of nfa config.backtrack_visited_capacity;
  config = config;
  texts = [];
  rows = 0;
  stops = 0;
  steps = 0;
}

-- the regex of the same NFA with the same settings and texts, before its first search
abbrev pub unsearched : RegexState → RegexState
unsearched r = record (regex_of r.choice.nfa r.config) { texts = r.texts }

-- the regex has these settings, and has not searched yet: both caches are as they were made, and there are no rows of
-- the lazy DFA and no sure steps
pub record HasNotSearched (settings : Config) (r : RegexState) : Type 0 where
  pub visited_capacity : r.choice.visited_capacity ≡ settings.backtrack_visited_capacity
  pub match_kind : r.choice.match_kind ≡ None
  pub back : r.choice.back ≡ empty_cache
  pub pike : r.choice.pike ≡ cache_for r.choice.nfa
  pub ran : r.choice.ran ≡ None
  pub config : r.config ≡ settings
  pub rows : r.rows ≡ 0
  pub steps : r.steps ≡ 0

-- The NFA is what the builder's compiler makes of these texts: one that reads them by the builder's syntax, within its
-- size limit. It is in UTF-8 mode, and bound to starts, as the builder is set. A line feed ends a line.
pub record IsCompiledBy (b : Builder) (texts : List (List ℕ)) (nfa : Automaton) : Type 0 where
  pub compiled : IsCompiled (syntax_of (compiler_of b)) texts nfa
  pub valid : IsAutomaton nfa
  pub utf8 : nfa.utf8 ≡ b.config.utf8
  pub anchored : b.config.anchored ≡ true → nfa.anchored ≡ nfa.unanchored
  pub bound : IsBoundAsRead b.config.anchored (syntax_of (compiler_of b)) texts nfa
  pub free : b.config.anchored ≡ false → FindsFromAnyStart nfa
  pub anywhere : b.config.utf8 ≡ false → is_utf8_empty nfa ≡ false
  pub fits : TextsFitIn b.config.nfa_size_limit (syntax_of (compiler_of b)) texts

-- This is true of the NFA; or it is true of an NFA that differs only by its line terminator, which is this byte here
-- and a line feed there.
abbrev pub HasLines : ℕ → (Automaton → Type 0) → Automaton → Type 0
HasLines terminator Is nfa =
    MatchBool (terminator == 10) (Is nfa)
    ((plain : Automaton) × Is plain × (nfa ≡ nfa_with_terminator terminator plain))

-- This is true of the NFA; or it is true of an NFA with all captures, of which this one keeps only some.
abbrev pub HasCaptures : WhichCaptures → (Automaton → Type 0) → Automaton → Type 0
HasCaptures which.All Is nfa = Is nfa
HasCaptures which Is nfa = (whole : Automaton) × Is whole × (nfa ≡ with_captures which whole)

-- The NFA is what the builder makes of these texts: that of its compiler, with the builder's line terminator, and only
-- the captures that the builder keeps.
abbrev pub IsBuiltFrom : Builder → List (List ℕ) → Automaton → Type 0
IsBuiltFrom b texts nfa =
    HasCaptures b.config.which_captures (HasLines b.config.line_terminator (IsCompiledBy b texts)) nfa

-- the error is not that allocation failed
abbrev pub IsNotMemory : CompileError → Type 0
IsNotMemory cause.Memory = ⊥
IsNotMemory _ = ⊤

-- an error of the compiler is about these texts
pub record IsErrorOf (b : Builder) (texts : List (List ℕ)) (error : CompileError) : Type 0 where
  pub rejected : IsOfOneText (syntax_of (compiler_of b)) texts error
  pub named : NamesText (syntax_of (compiler_of b)) b.config.nfa_size_limit texts error
  pub kind : IsNotMemory error

-- allocation failed, or the builder's compiler refuses these texts with the cause
abbrev pub IsWhyNotBuilt : Builder → List (List ℕ) → BuildError → Type 0
IsWhyNotBuilt b texts Memory = ⊤
IsWhyNotBuilt b texts (Compile error) = IsErrorOf b texts error

-- the error of a builder for one of the compiler
abbrev pub build_error_of : CompileError → BuildError
build_error_of cause.Memory = Memory
build_error_of error = Compile error

-- its text
abbrev pub build_error_text : BuildError → List ℕ
build_error_text Memory = codes "out of memory"
build_error_text (Compile error) = compile_error_text error

-- The regex is made of these patterns, in byte mode. Its searches are bound to their start and prefer the first pattern
-- that matches, and matches may end anywhere.
pub record IsRegexOf (patterns : List (List ℕ)) (regex : RegexState) : Type 0 where
  pub compiled : IsCompiled byte_syntax patterns regex.choice.nfa
  pub anywhere : is_utf8_empty regex.choice.nfa ≡ false
  pub bound : regex.choice.nfa.anchored ≡ regex.choice.nfa.unanchored
  pub leftmost : regex.choice.match_kind ≡ None
