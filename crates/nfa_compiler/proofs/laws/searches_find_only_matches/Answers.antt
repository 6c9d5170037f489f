-- A path that is found shows that a pattern matches. In a `str` a match from a boundary ends on one.
use Rattle.std.proofs.Common.{inl, inr, ap, sym, ◌∙◌, arith, is_some, slice_index_or}
use Rattle.regex_hir.specs.Re.{empty}
use Rattle.regex_hir.proofs.MatchesLemmas.{Matches-IsSpan}
use Rattle.nfa_compiler.proofs.BoundarySearchLemmas.{boundary-is, boundary-true}
use Rattle.nfa_compiler.proofs.ExistsLemmas.{pattern-complete, pattern-sound}
use Rattle.nfa_compiler.proofs.KindLemmas.{answer-sound, found-sound}
use Rattle.nfa_compiler.proofs.WayLemmas.{within-end}
use Rattle.nfa_compiler.proofs.laws.searches_find_only_matches.Goals as goal

pub returns-clause-found : goal.returns-clause-found
returns-clause-found c = λ res nfa kind earliest x found made whole answer yes.
    found-sound nfa kind earliest x whole res made answer.restarts answer.path answer.answers
    (sym answer.found_is ∙ yes)

pub returns-clause-answers : goal.returns-clause-answers
returns-clause-answers c = λ res nfa kind earliest x pattern slots made whole answer yes.
    answer-sound nfa kind earliest x whole res made answer.restarts answer.path answer.answers
    (sym (ap is_some answer.pattern_is) ∙ yes)

pub returns-clause-sets : goal.returns-clause-sets
returns-clause-sets c = λ res nfa x kind earliest old new made whole result k holds. elim (result.sound k holds) [
  | inl held ↦ inl held
  | inr gained ↦ inr (gained.0, pattern-sound res nfa made x whole k gained.1)
]

pub returns-clause-strs : goal.returns-clause-strs
returns-clause-strs c = λ res nfa x old new made whole text result k below characters m on.
    let re = slice_index_or res k empty in
    let start = within-end nfa x m.start m.inside m.to in
    (result.gains.gained k).1 (inr (
      below,
      pattern-complete res nfa made x whole k m (λ e matches mode.
          boundary-is x.haystack e (omega (arith, Matches-IsSpan x.haystack re m.start e matches, start))
          (characters.whole x.haystack m.start e text matches (boundary-true x.haystack m.start on))),
    ))
