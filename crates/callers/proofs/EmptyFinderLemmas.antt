-- what the finder of empty matches answers
use Rattle.std.proofs.Common.{◌≡◌, ◌≤◌, ◌<◌, Bool, true, false, nat_eq, if◌then◌else◌, [], ◌∷◌, None, Some, Ok, ap, refl, sym, subst, arith}
use Rattle.std.proofs.lemmas.Bool.{le-leb, lt-leb, eqb-true}
use Rattle.regex_search_core.specs.Found.{Found, found_of}
use Rattle.regex_search_core.specs.Search.{Search}
use Rattle.regex_search_core.specs.declared.search.Match.{Match}
use Rattle.callers.specs.EmptyFinder.{empty_answer, zero_row}
use Rattle.nfa_search_base.specs.Common.{Row, row_span, answer_by, Answer, AnswerIsInside, LiesIn, answer_span}

pub empty_found : (s : Search) (m : Match) → found_of m ≡ record { pattern = 0; start = s.start; end = s.start }
    → s.start ≤ s.end → answer_by found_of (Ok (Some m)) ≡ empty_answer s
empty_found s m is low = rw (le-leb s.start s.end low) (ap (λ (x : Found). let a : Answer Found = Ok (Some x) in a) is)

pub empty_none : (s : Search) → s.end < s.start → ◌≡◌ {A = Answer Found} (Ok None) (empty_answer s)
empty_none s done = rw (lt-leb s.start s.end done)

-- the empty match at the start of the haystack lies in the span of a search that starts there
pub zero_inside : (s : Search) (a : Answer Row) → a ≡ zero_row s → AnswerIsInside row_span s a
zero_inside s a is = subst (λ (b : Answer Row). AnswerIsInside row_span s b) (sym is)
    (of (nat_eq s.start 0) (λ e. eqb-true s.start 0 e))
  where
    found : Row
    found = record { pattern = Some 0; slots = Some 0 ∷ Some 0 ∷ [] }

    of : (b : Bool) → (b ≡ true → s.start ≡ 0) → LiesIn s (answer_span row_span (Ok (if b then Some found else None)))
    of true e = let low = e refl in (omega (arith, low), omega arith)
    of false e = tt
