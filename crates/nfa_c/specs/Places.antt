-- The place of an error in the text of a pattern.
use Rattle.std.specs.Prelude.{List, None, Option, Some, [], true, ℕ, ℤ, ◌∷◌, ◌≡◌, ⊤}
use Rattle.regex_search_core.specs.Found.{Found}
use Rattle.nfa_compiler.specs.declared.error.CompileError.{CompileError}
use Rattle.nfa_compiler.specs.declared.error.CompileError.TheVariants.{Syntax}
use Rattle.nfa_meta.specs.Built.{IsErrorOf}
use Rattle.nfa_meta.specs.declared.builder.Builder.{Builder}
use Rattle.nfa_c.specs.Answers.{IsMade, found_in}
use Rattle.nfa_c.specs.Codes.{IsWhy, code_of, failure_code, pattern_code}
use Rattle.nfa_c.specs.Sets.{IsMadeSet, IsWhyNoSet, set_failure_code}
use Rattle.nfa_c.specs.declared.codes.Failure.{Failure}
use Rattle.nfa_c.specs.declared.codes.Failure.TheVariants as failure
use Rattle.nfa_c.specs.declared.handle.Compiled.{Compiled}
use Rattle.nfa_c.specs.declared.search.NfaMatch.{NfaMatch}
use Rattle.nfa_c.specs.declared.set_compile.SetFailure.{SetFailure}
use Rattle.nfa_c.specs.declared.set_compile.SetFailure.TheVariants as set_failure
use Rattle.nfa_c.specs.declared.set_handle.CompiledSet.{CompiledSet}

-- the number of the pattern that is wrong, and where; none for an error of another kind
abbrev pub place_of : CompileError → Option Found
place_of (Syntax e) = Some (record { pattern = e.pattern; start = e.span.start; end = e.span.end })
place_of _ = None

-- the code says that there is a place, which was written, or else that of an error, and the old place stays
abbrev pub WritesPlace : Option Found → ℤ → NfaMatch → NfaMatch → Type 0
WritesPlace None code old new = (code ≡ pattern_code) × (new ≡ old)
WritesPlace (Some place) code old new = (code ≡ code_of true) × (found_in new ≡ place)

-- the builder refuses these texts for what is at this place
pub record IsPlace (b : Builder) (texts : List (List ℕ)) (m : NfaMatch) : Type 0 where
  pub error : CompileError
  pub refused : IsErrorOf b texts error
  pub place_is : place_of error ≡ Some (found_in m)

-- a failure of the builder is at no place
abbrev pub HasNoPlace : Failure → Type 0
HasNoPlace (failure.Pattern error) = place_of error ≡ None
HasNoPlace _ = ⊤

abbrev pub HasNoSetPlace : SetFailure → Type 0
HasNoSetPlace (set_failure.Patterns error) = place_of error ≡ None
HasNoSetPlace _ = ⊤

-- the code says why no regex is made of the text, which is for what is at no place
pub record SaysNoPlace (b : Builder) (text : List ℕ) (code : ℤ) : Type 0 where
  pub cause : Failure
  pub why : IsWhy b text cause
  pub nowhere : HasNoPlace cause
  pub code_is : code ≡ failure_code cause

-- the same of a set of texts
pub record SaysNoSetPlace (b : Builder) (text ends : List ℕ) (code : ℤ) : Type 0 where
  pub cause : SetFailure
  pub why : IsWhyNoSet b text ends cause
  pub nowhere : HasNoSetPlace cause
  pub code_is : code ≡ set_failure_code cause

-- the builder makes a handle of the text
pub record IsPattern (b : Builder) (text : List ℕ) : Type 0 where
  pub own : Compiled
  pub made : IsMade b (text ∷ []) own

-- the builder makes a handle of a set of these texts
pub record ArePatterns (b : Builder) (texts : List (List ℕ)) : Type 0 where
  pub own : CompiledSet
  pub made : IsMadeSet b texts own
