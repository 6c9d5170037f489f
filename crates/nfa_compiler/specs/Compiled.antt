-- The parts of an NFA of patterns, and whether one that binds searches to their start loses a match by it.
use Rattle.std.specs.Prelude.{◌≡◌, false, ℕ, ◌+◌, ◌<◌, ◌≤◌, ◌⊎◌, ◌||◌, Bool, List, [], ◌∷◌, length, map, drop, All, None, Option, IsSomeAnd, IsTrue, chars, option_map, string_bytes, slice_index, slice_index_or, ◌==◌}
use Rattle.regex_hir.specs.Re.{Re, empty}
use Rattle.regex_hir.specs.Meaning.{meaning}
use Rattle.regex_hir.specs.Reads.{always_reads}
use Rattle.regex_syntax.specs.Grammar.{read}
use Rattle.regex_syntax.specs.Verdict.{Reads}
use Rattle.regex_syntax.specs.WellFormed.{IsWellFormed}
use Rattle.regex_syntax.specs.declared.Config.{Config}
use Rattle.regex_syntax.specs.declared.Parsed.{Parsed}
use Rattle.regex_nfa.specs.declared.nfa.Nfa.{Nfa}
use Rattle.regex_compile.specs.Implements.{Implements}
use Rattle.nfa_paths.specs.Common.{AllZip, number_of, Search, Automaton, Node, Fail, Union, explicit_slot}
use Rattle.nfa_paths.specs.Starts.{MatchesNothing}
use Rattle.nfa_compiler.specs.declared.block.Site.{Site}
use Rattle.nfa_compiler.specs.Blocks.{match_at, IsBlock}
use Rattle.nfa_compiler.specs.Loops.{all_begin_at_start}
use Rattle.nfa_compiler.specs.Patterns.{pick}

-- the names of the pattern's explicit groups: all but group 0
abbrev pub explicit_names : Parsed → List (Option (List ℕ))
explicit_names pattern = drop 1 (map (option_map string_bytes) pattern.names.items)

-- the groups of these patterns
abbrev pub groups_of : List Parsed → List (List (Option (List ℕ)))
groups_of patterns = map explicit_names patterns

-- the meanings of these patterns
abbrev pub res_of : List Parsed → List Re
res_of patterns = map (λ p. meaning p.hir) patterns

-- The states of pattern k, which means re, are among the nodes, and its start is `start`. Its explicit groups have the
-- slots from `slots` on.
pub record IsPatternAt (nodes : List Node) (slots k start : ℕ) (re : Re) : Type 0 where
  pub nfa : Nfa
  pub site : Site
  pub implements : Implements nfa re
  pub block : IsBlock nodes nfa site
  pub pattern_is : number_of site.pattern ≡ k
  pub slots_are : site.slots ≡ slots
  pub start_is : start ≡ match_at site + 1

-- the same for pattern k of these groups
abbrev pub IsPattern : List Node → List (List (Option (List ℕ))) → ℕ → ℕ → Re → Type 0
IsPattern nodes groups k start re = IsPatternAt nodes (explicit_slot groups k) k start re

-- each of these patterns is among the nodes
abbrev pub ArePatterns : List Node → List (List (Option (List ℕ))) → List ℕ → List Re → ℕ → Type 0
ArePatterns nodes groups starts res count =
    (k : ℕ) → k < count → IsPattern nodes groups k (slice_index starts k) (slice_index_or res k empty)

-- the state chooses between these starts, in order: it is the only one, or comes after all of them
abbrev pub Chooses : List Node → ℕ → List ℕ → Type 0
Chooses nodes state starts =
    (starts ≡ state ∷ []) ⊎ ((slice_index_or nodes state Fail ≡ Union starts) × All (λ s. s < state) starts)

-- the NFA is made of these patterns
pub record IsNfaOf (res : List Re) (nfa : Automaton) : Type 0 where
  pub patterns : length nfa.patterns ≡ length res
  pub groups : length nfa.groups ≡ length res
  pub each : ArePatterns nfa.states nfa.groups nfa.patterns res (length res)
  pub chooses : Chooses nfa.states nfa.anchored nfa.patterns

-- The tree and the names are what the grammar reads in the text. Under `utf8` the tree matches only UTF-8.
pub record IsTreeOf (syntax : Config) (text : List ℕ) (tree : Parsed) : Type 0 where
  pub reads : Reads syntax text tree.hir (map (option_map string_bytes) tree.names.items)
  pub formed : IsWellFormed syntax.utf8 tree.hir

-- each way through the pattern has a part that reads a byte
abbrev pub AlwaysReads : Parsed → Type 0
AlwaysReads tree = IsTrue (always_reads (meaning tree.hir))

-- The NFA is made of trees that are read from these texts, with their groups and the mode of the syntax. It may match
-- the empty string unless each tree always reads a byte.
pub record IsCompiled (syntax : Config) (texts : List (List ℕ)) (nfa : Automaton) : Type 0 where
  pub trees : List Parsed
  pub read : AllZip (IsTreeOf syntax) texts trees
  pub made : IsNfaOf (res_of trees) nfa
  pub groups : nfa.groups ≡ groups_of trees
  pub mode : nfa.utf8 ≡ syntax.utf8
  pub always_read : nfa.has_empty ≡ false → All AlwaysReads trees

-- the grammar reads this pattern in the text
abbrev pub IsMeant : Config → List ℕ → Re → Type 0
IsMeant syntax text re = IsSomeAnd (read syntax (chars text)) (λ (found, names). found.value ≡ re)

-- the grammar reads each of these patterns in the text at its place
abbrev pub AreMeant : Config → List (List ℕ) → List Re → Type 0
AreMeant syntax texts res = AllZip (IsMeant syntax) texts res

-- the grammar reads these names in the text, from group 0 on
abbrev pub IsNamed : Config → List ℕ → List (Option (List ℕ)) → Type 0
IsNamed syntax text names = IsSomeAnd (read syntax (chars text)) (λ (_, found). found ≡ names)

-- the grammar reads each of these lists of names in the text at its place
abbrev pub AreNamed : Config → List (List ℕ) → List (List (Option (List ℕ))) → Type 0
AreNamed syntax texts names = AllZip (IsNamed syntax) texts names

-- no search that begins after the start of its haystack, and goes on to its end, has an accepting path
pub record MatchesOnlyAtStart (nfa : Automaton) : Type 0 where
  pub nothing : (x : Search) → 0 < x.start → x.end ≡ length x.haystack → MatchesNothing nfa x

-- An unanchored search finds matches from each position of its span: the NFA does not bind searches to their start, or
-- it matches only from the start of a haystack.
abbrev pub FindsFromAnyStart : Automaton → Type 0
FindsFromAnyStart nfa = ((nfa.anchored == nfa.unanchored) ≡ false) ⊎ MatchesOnlyAtStart nfa

-- The NFA binds each search to its start exactly if the setting says so, or each pattern that was read in the texts
-- begins with `Start`.
pub record IsBoundAsRead (anchored : Bool) (syntax : Config) (texts : List (List ℕ)) (nfa : Automaton) : Type 0 where
  pub trees : List Parsed
  pub read : AllZip (IsTreeOf syntax) texts trees
  pub bound : (nfa.anchored == nfa.unanchored) ≡ (anchored || all_begin_at_start (res_of trees))

-- In this haystack the patterns have no hit that the NFA loses: it does not bind searches to their start, or no pattern
-- has a hit after the start of the haystack.
abbrev pub LosesNoHit : List Re → Automaton → List ℕ → Type 0
LosesNoHit res nfa haystack =
    ((nfa.anchored == nfa.unanchored) ≡ false)
    ⊎ ((i : ℕ) → 0 < i → i ≤ length haystack → pick haystack res 0 i ≡ None)
