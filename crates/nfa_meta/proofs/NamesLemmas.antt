-- The names of a tree are those that the grammar reads in the text, and so those of each NFA of the text.
use Rattle.nfa_paths.proofs.Common.{◌≡◌, ◌∙◌, ◌==◌, ap, ℕ, Bool, MatchBool, true, false, List, [], ◌∷◌, ◌≤◌, drop, length, Option, None, Some, sym, IsSomeAnd, chars, Automaton}
use Rattle.nfa_compiler.proofs.CallLemmas.{groups-named}
use Rattle.nfa_compiler.specs.Written.{syntax_of}
use Rattle.nfa_facts.specs.Kept.{kept_groups, with_captures}
use Rattle.nfa_facts.specs.declared.captures.which.WhichCaptures.{WhichCaptures}
use Rattle.nfa_facts.specs.declared.captures.which.WhichCaptures.TheVariants as which
use Rattle.nfa_meta.specs.Built.{HasCaptures, HasLines, IsBuiltFrom, IsCompiledBy, compiler_of}
use Rattle.nfa_meta.specs.declared.builder.Builder.{Builder}
use Rattle.thompson_nfa.specs.Automaton.{nfa_with_terminator}
use Rattle.nfa_compiler.specs.Common.{Config, Re, meaning, Hir, Nested, SameCaptures, Names, group_count, read, Reads, IsCompiled, IsNamed}

named-one : (own : Names) (hir : Hir) (limit : ℕ) (o : Option (Nested Re × Names))
    → IsSomeAnd o (λ (re, found). (re.depth ≤ limit) × SameCaptures (meaning hir) re.value × (own ≡ found)
    × (group_count (meaning hir) ≤ length own))
    → IsSomeAnd o (λ (_, found). found ≡ own)
named-one own hir limit None is = absurd is
named-one own hir limit (Some found) is = sym is.2

pub names-named : (syntax : Config) (text : List ℕ) (hir : Hir) (names : Names) → Reads syntax text hir names
    → IsNamed syntax text names
unfolding Reads
names-named syntax text hir names reads = named-one names hir syntax.nest_limit (read syntax (chars text)) reads

groups-named-one : (syntax : Config) (text : List ℕ) (hir : Hir) (names : Names) (nfa : Automaton)
    → Reads syntax text hir names → IsCompiled syntax (text ∷ []) nfa → nfa.groups ≡ drop 1 names ∷ []
groups-named-one syntax text hir names nfa reads compiled =
    compiled.groups
    ∙ groups-named syntax (text ∷ []) compiled.trees (names ∷ []) compiled.read
    (names-named syntax text hir names reads, tt)

-- The groups of an NFA do not depend on its line terminator, and are those that are kept.
pub groups-built : (b : Builder) (text : List ℕ) (hir : Hir) (names : Names) (nfa : Automaton)
    → Reads (syntax_of (compiler_of b)) text hir names → IsBuiltFrom b (text ∷ []) nfa
    → nfa.groups ≡ kept_groups b.config.which_captures (drop 1 names ∷ [])
unfolding with_captures
groups-built b text hir names nfa reads = kept b.config.which_captures
  where
    of : (plain : Automaton) → IsCompiledBy b (text ∷ []) plain → plain.groups ≡ drop 1 names ∷ []
    of plain is = groups-named-one (syntax_of (compiler_of b)) text hir names plain reads is.compiled

    ended : (whole : Automaton) (feed : Bool)
        → MatchBool feed (IsCompiledBy b (text ∷ []) whole)
        ((plain : Automaton) × IsCompiledBy b (text ∷ []) plain
        × (whole ≡ nfa_with_terminator b.config.line_terminator plain))
        → whole.groups ≡ drop 1 names ∷ []
    ended whole true is = of whole is
    ended whole false is = ap (λ (a : Automaton). a.groups) is.2 ∙ of is.0 is.1

    lines : (whole : Automaton) → HasLines b.config.line_terminator (IsCompiledBy b (text ∷ [])) whole
        → whole.groups ≡ drop 1 names ∷ []
    lines whole = ended whole (b.config.line_terminator == 10)

    kept : (some : WhichCaptures)
        → HasCaptures some (HasLines b.config.line_terminator (IsCompiledBy b (text ∷ []))) nfa
        → nfa.groups ≡ kept_groups some (drop 1 names ∷ [])
    kept which.All is = lines nfa is
    kept which.Implicit is = ap (λ (a : Automaton). a.groups) is.2 ∙ ap (kept_groups which.Implicit) (lines is.0 is.1)
    kept which.None is = ap (λ (a : Automaton). a.groups) is.2 ∙ ap (kept_groups which.None) (lines is.0 is.1)
