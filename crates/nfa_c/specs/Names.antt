-- The names of groups, a line for each.
use Rattle.std.specs.Prelude.{List, None, Option, Some, [], flat_map, ℕ, ◌∷◌, ◌++◌, ◌≢◌}
use Rattle.regex_syntax.specs.Verdict.{Refuses}
use Rattle.regex_syntax.specs.declared.Config.{Config as Syntax}
use Rattle.regex_syntax.specs.declared.error.ErrorKind.{ErrorKind}
use Rattle.regex_syntax.specs.declared.error.ErrorKind.TheVariants.{OutOfMemory}
use Rattle.nfa_compiler.specs.Compiled.{IsNamed}
use Rattle.nfa_c.specs.Codes.{IsWritten}

-- the name, or nothing, and a line feed
abbrev pub name_line : Option (List ℕ) → List ℕ
name_line None = 10 ∷ []
name_line (Some name) = name ++ 10 ∷ []

-- the lines of all names
abbrev pub name_lines : List (Option (List ℕ)) → List ℕ
name_lines names = flat_map name_line names

-- the lines were written: those of the names that the grammar reads in the pattern, from group 0 on
pub record WritesNames (syntax : Syntax) (pattern : List ℕ) (count : ℕ) (old new : List ℕ) : Type 0 where
  pub names : List (Option (List ℕ))
  pub named : IsNamed syntax pattern names
  pub written : IsWritten (name_lines names) count old new

-- the parser refuses the text, and not for want of memory
pub record IsNoPattern (syntax : Syntax) (text : List ℕ) : Type 0 where
  pub kind : ErrorKind
  pub refuses : Refuses syntax text kind
  pub cause : kind ≢ OutOfMemory
