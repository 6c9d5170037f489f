-- Where each way writes its bounds, a match is that of the path which its search answers.
use Rattle.nfa_paths.proofs.Common.{◌≡◌, ℕ, List, refl, ap, ◌∙◌, subst, arith, rules, Option, Some, None, true, false, Bool, option_and_then, option_map, Found, slot_count, Search, is_anchored, match_of, MatchKind, Automaton, IsAutomaton, Pair, raised, is_utf8_empty, path_half, path_pattern, slot_row, IsScanAnswer, IsSearchAnswer, IsFindAnswer}
use Rattle.nfa_paths.proofs.StartLemmas.{raised-zero}
use Rattle.nfa_paths.proofs.AnswerLemmas.{scan_answer-leads, search_answer-unique}
use Rattle.nfa_paths.proofs.ExistenceLemmas.{scan_answer-none}
use Rattle.nfa_paths.proofs.OneScanLemmas.{last-scan, scan-of}
use Rattle.nfa_paths.proofs.PathToLemmas.{EndsWith-last}
use Rattle.nfa_paths.proofs.FirstStartLemmas.{ends-one, heads-one}
use Rattle.nfa_engines.specs.Items.{end_of}
use Rattle.nfa_engines.proofs.MatchLemmas.{path-match}
use Rattle.nfa_facts.specs.MatchSpanLaws.{AnchoredStartsTheSpan, AnswersBytes, AreOneMatch, BytesAreAnswered, HalfMatchesAreEnds, HasNoByteAt, MatchesAreOfPaths, MatchesNothing, NoBytesAreAnswered, PathsReadBytes}
use Rattle.nfa_paths.specs.StatePaths.{RecordsMatchSpans}
use Rattle.nfa_facts.proofs.LawLemmas.{paths-recorded, start-anchored}

module _ (nfa : Automaton) (kind : MatchKind) (earliest : Bool) (x : Search) where
  -- an anchored search does not start again
  anchored-once : is_anchored x.anchored ≡ true → (restarts : ℕ) (path : Option (List Pair))
      → IsSearchAnswer nfa kind earliest x restarts path → restarts ≡ 0
  anchored-once bound restarts path h = grind arith

  -- the path of a match of an anchored search
  own-path : is_anchored x.anchored ≡ true → {found : Option Found} (answer : IsFindAnswer nfa kind earliest x found)
      → IsSearchAnswer nfa kind earliest x 0 answer.path
  own-path bound answer = rw (anchored-once bound answer.restarts answer.path answer.answers) at answer.answers

  -- the slots of a scan's path give its match, and without a path there is none
  told : IsAutomaton nfa → RecordsMatchSpans nfa → (y : Search) (path : Option (List Pair)) (found : Option Found)
      → ((p : List Pair) → path ≡ Some p → IsScanAnswer nfa y kind earliest (Some p))
      → found ≡ match_of (option_and_then (path_pattern nfa) path) (slot_row nfa (slot_count nfa.groups) path)
      → AreOneMatch nfa y path found
  told valid records y None found scan is = rw is tt
  told valid records y (Some p) found scan is =
      let to = scan_answer-leads nfa y kind earliest p (scan p refl) in
      let writes = paths-recorded nfa y records to.end p to.path to.matches in
      rw (is ∙ path-match nfa valid y to.end p to.path writes) (record {
        end = to.end;
        path = to.path;
        accepts = to.matches;
        pattern_is = writes.pattern_is;
        start_is = ap (λ (v : Pair). v.1) (heads-one writes.start to.path.start p writes.head to.path.head);
        end_is = refl;
      })

-- the match that a search answers is that of the path which it answers
pub match-of-path : MatchesAreOfPaths
match-of-path nfa kind earliest x restarts path found valid records h answer =
    let one = search_answer-unique nfa kind earliest x answer.restarts restarts answer.path path answer.answers h in
    told nfa kind earliest x valid records (raised x restarts) path found
    (λ p e. (last-scan nfa kind earliest x restarts p (rw e at h)).scan) (grind arith)

-- the end of the path that a search answers is that of its match
pub half-is-end : HalfMatchesAreEnds
half-is-end nfa kind earliest x half found valid records h answer =
    h.found_is
    ∙ of h.path found (match-of-path nfa kind earliest x h.restarts h.path found valid records h.answers answer)
  where
    of : (path : Option (List Pair)) (found : Option Found) → AreOneMatch nfa (raised x h.restarts) path found
        → option_and_then (path_half nfa) path ≡ option_map end_of found
    of = grind (arith, EndsWith-last)

-- an anchored search has one scan
match-of-once : {nfa : Automaton} {kind : MatchKind} {earliest : Bool} {x : Search} {found : Option Found}
    → IsAutomaton nfa → RecordsMatchSpans nfa → (path : Option (List Pair)) → IsSearchAnswer nfa kind earliest x 0 path
    → IsFindAnswer nfa kind earliest x found → AreOneMatch nfa x path found
match-of-once {nfa} {kind} {earliest} {x} {found} valid records path h answer =
    subst (λ y. AreOneMatch nfa y path found) (raised-zero x)
    (match-of-path nfa kind earliest x 0 path found valid records h answer)

-- the match of an anchored search starts at the start of the span
pub starts-the-span : AnchoredStartsTheSpan
starts-the-span nfa kind earliest x found valid bound records answer =
    let own = own-path nfa kind earliest x bound answer in
    grind (arith, match-of-once valid records answer.path own answer, start-anchored)

-- a match with a byte is that of a path with one
pub bytes-answered : BytesAreAnswered
bytes-answered nfa kind earliest x m valid bound records answer less =
    let own = own-path nfa kind earliest x bound answer in
    grind (arith, own, match-of-once valid records answer.path own answer)

module _ (nfa : Automaton) (kind : MatchKind) (earliest : Bool) (x : Search) (valid : IsAutomaton nfa)
    (bound : is_anchored x.anchored ≡ true) (records : RecordsMatchSpans nfa) where
  -- and one without a byte, or none, is not
  no-bytes-answered : (found : Option Found) → IsFindAnswer nfa kind earliest x found
      → HasNoByteAt x.start found → AnswersBytes nfa kind earliest x → ⊥
  no-bytes-answered None answer none bytes =
      match-of-once valid records (Some bytes.along) bytes.answers answer
  no-bytes-answered (Some m) answer none bytes =
      let one : AreOneMatch nfa x (Some bytes.along) (Some m) =
      match-of-once valid records (Some bytes.along) bytes.answers answer in
      grind (arith, ends-one)

  -- if each path has a byte, there is no path
  no-path-answered : is_utf8_empty nfa ≡ false → PathsReadBytes nfa x → (found : Option Found)
      → IsFindAnswer nfa kind earliest x found → HasNoByteAt x.start found → MatchesNothing nfa x
  no-path-answered anywhere read found answer none =
      of answer.path (scan-of nfa kind earliest x anywhere answer.restarts answer.path answer.answers)
      (own-path nfa kind earliest x bound answer)
    where
      of : (path : Option (List Pair)) → IsScanAnswer nfa x kind earliest path
          → IsSearchAnswer nfa kind earliest x 0 path → MatchesNothing nfa x
      of None scan h = record { no_path = scan_answer-none nfa x kind earliest scan }
      of (Some p) scan h =
          let to = scan_answer-leads nfa x kind earliest p scan in
          search (rules, no-bytes-answered)

pub no-bytes-shown : NoBytesAreAnswered
no-bytes-shown nfa kind earliest x found valid bound records answer none = (
  no-bytes-answered nfa kind earliest x valid bound records found answer none,
  λ anywhere read. no-path-answered nfa kind earliest x valid bound records anywhere read found answer none,
)
