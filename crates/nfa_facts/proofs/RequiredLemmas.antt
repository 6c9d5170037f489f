-- Bytes that each accepting path reads because of a walk that reaches no match, and what such bytes mean for a search.
use Rattle.nfa_paths.proofs.Common.{◌≡◌, ◌∙◌, ℕ, ◌+◌, ◌<◌, ◌≤◌, inl, inr, List, [], ◌∷◌, length, sym, ap, subst, arith, Some, Bool, cases_lt, Search, Automaton, Pair, HeadIs}
use Rattle.nfa_paths.proofs.MemberLemmas.{same_some}
use Rattle.nfa_paths.proofs.StartLemmas.{byte_at-within}
use Rattle.nfa_paths.proofs.FirstStartLemmas.{start-anchored}
use Rattle.nfa_engines.specs.Laws.{MatchesNothing, MatchesSomething}
use Rattle.nfa_engines.proofs.StartAnswerLemmas.{nothing-of}
use Rattle.nfa_engines.specs.StartLaws.{anchored_at, IsFirstStart, IsUnbound}
use Rattle.nfa_facts.specs.Prefixes.{OccursBefore, bytes_from, literal_at}
use Rattle.nfa_facts.specs.RequiredBytes.{HasAhead, IsRequired, LacksBefore, LacksFrom}
use Rattle.nfa_facts.specs.Walks.{IsWalked}
use Rattle.nfa_facts.specs.declared.literal.required_bytes.RequiredBytes.{RequiredBytes}
use Rattle.nfa_facts.specs.declared.literal.walk.Cut.{Cut}
use Rattle.nfa_facts.specs.declared.literal.walk.Cut.TheVariants.{Byte, State}
use Rattle.nfa_facts.proofs.OccurrenceLemmas.{occurs-cons, occurs-none, occurs-take}
use Rattle.nfa_facts.proofs.PrefixLemmas.{byte-read, reads-bytes}
use Rattle.nfa_facts.proofs.WalkLemmas.{IsCut, path-cut}

module _ (nfa : Automaton) (line : Bool) (states : List ℕ) where
  -- the path of an anchored search is cut
  search-cut : (cut : Cut) → IsWalked nfa cut line states → (x : Search) (at : ℕ)
      → (some : MatchesSomething nfa (anchored_at x at))
      → IsCut nfa cut line states (anchored_at x at) some.end at
  search-cut cut walked x at some =
      let start = start-anchored nfa x at some.path.start some.path.among in
      let head : HeadIs (nfa.anchored, at) some.along =
      subst (λ (z : Pair). HeadIs z some.along) start.is some.path.head in
      path-cut nfa cut line states (anchored_at x at) walked nfa.anchored at some.end some.along walked.start head
      some.path.linked some.path.ends some.accepts start.within

  -- if a walk without the byte reaches no match, each match has the byte
  pub byte-required : (byte : ℕ) (r : RequiredBytes) → IsWalked nfa (Byte byte) line states
      → r.bytes.items ≡ byte ∷ [] → r.on_line ≡ line → IsRequired nfa r
  byte-required byte r walked items same = record {
    has = λ x at some.
        let c = search-cut (Byte byte) walked x at some in
        elim c.what [
          | inl reads ↦
              let is : byte ≡ reads.byte = same_some byte reads.byte reads.is in
              let inside : c.place < x.end = byte_at-within (anchored_at x at) c.place reads.byte reads.read in
              let here = byte-read (anchored_at x at) c.place reads.byte reads.read ∙ ap Some (sym is) in
              record {
                place = c.place;
                onward = c.onward;
                here = subst (λ l. OccursBefore x.haystack x.end l c.place) (sym items)
                    (occurs-cons x.haystack x.end byte [] c.place here
                    (occurs-none x.haystack x.end (c.place + 1) (omega arith)));
                line = λ l. c.line (sym same ∙ l);
              }
          | inr passes ↦ absurd (cc passes.is)
        ];
  }

  -- if a walk that does not pass the state reaches no match, each match has the bytes that are read from the state on
  pub state-required : (state : ℕ) (r : RequiredBytes) → IsWalked nfa (State state) line states
      → r.bytes.items ≡ literal_at nfa state → r.on_line ≡ line → IsRequired nfa r
  state-required state r walked items same = record {
    has = λ x at some.
        let c = search-cut (State state) walked x at some in
        elim c.what [
          | inl reads ↦ absurd (cc reads.is)
          | inr passes ↦
              let is : passes.state ≡ state = sym (same_some state passes.state passes.is) in
              let head = subst (λ s. HeadIs (s, c.place) passes.rest) is passes.head in
              record {
                place = c.place;
                onward = c.onward;
                here = subst (λ l. OccursBefore x.haystack x.end l c.place) (sym items)
                    (occurs-take x.haystack x.end (bytes_from nfa (length nfa.states) state) c.place 32
                    (reads-bytes nfa (anchored_at x at) (length nfa.states) state c.place some.end passes.rest head
                    passes.linked passes.ends some.accepts passes.within));
                line = λ l. c.line (sym same ∙ l);
              }
        ];
  }

module _ (nfa : Automaton) (x : Search) (r : RequiredBytes) (required : IsRequired nfa r) where
  pub nothing-without : (at : ℕ) → ¬ HasAhead r x.haystack x.end at → MatchesNothing nfa (anchored_at x at)
  nothing-without at none = record {
    no_path = λ m p w t. none (required.has x at (record { end = m; along = p; path = w; accepts = t }));
  }

  pub first-to-required : (from at : ℕ) → IsFirstStart nfa x from → LacksBefore r x.haystack x.end from at
      → IsFirstStart nfa x at
  first-to-required from at first lacks =
      let low : x.start ≤ from = first.from in
      let onward : from ≤ at = lacks.onward in
      record {
        from = omega arith;
        nothing = λ i start less.
            elim (cases_lt i from) [
              | inl before ↦ first.nothing i start before
              | inr past ↦ nothing-without i (lacks.none i past less)
            ];
      }

  pub nothing-ahead : IsUnbound nfa x → (from : ℕ) → IsFirstStart nfa x from → LacksFrom r x.haystack x.end from
      → MatchesNothing nfa x
  nothing-ahead free from first lacks =
      nothing-of nfa x free
      (λ i start.
      elim (cases_lt i from) [
        | inl before ↦ first.nothing i start before
        | inr past ↦ nothing-without i (lacks.none i past)
      ])
