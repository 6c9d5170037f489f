-- A known match is the answer. Otherwise it is the search's, which may give the match that is known then.
use Rattle.nfa_paths.proofs.Common.{rules, ◌∙◌, Option, option_map, subst, sym, found_of, search_of, Match, IsFindAnswer}
use Rattle.nfa_search_base.proofs.EngineLemmas.{find-answered, known-answer, known-kept}
use Rattle.nfa_search_base.specs.Common.{IsKnownFrom}
use Rattle.nfa_pikevm.specs.Engines.{Pike}
use Rattle.nfa_pikevm.specs.Finding.{IsSureOf}
use Rattle.nfa_pikevm.proofs.FindLemmas.{finds-sure, pike_finder}
use Rattle.nfa_choice.specs.ChoiceState.{kind_in}
use Rattle.nfa_choice.proofs.FindLemmas.{pike-kept}
use Rattle.nfa_meta.specs.RegexState.{pike_of}
use Rattle.nfa_meta.proofs.MatchesLemmas.{known-work}
use Rattle.nfa_meta.proofs.regex.find_iter.ByWindowFindWith.answer.Goals as goal

pub returns-then-is_some : goal.returns-then-is_some
returns-then-is_some c =
    let r = c.args.regex.now in
    let x = search_of c.args.input.now in
    record {
      tells = known-answer pike_finder (pike_of r) x c.args.self.now.known c.ending_at-known.result c.requires
          (λ m is. let k = c.ending_at-known.ensures.kept m is in (k.0, k.1 ∙ c.start.ensures)) (search rules);
      work = known-work x r;
      knows = c.requires;
    }

-- the match ends where the search started, so it is known
pub returns-then-is_some-2 : goal.returns-then-is_some-2
returns-then-is_some-2 c =
    let r = c.args.regex.now in
    let found = c.find_by_ref-found.result in
    let e = c.find_by_ref-found.ensures in
    let x = search_of c.args.input.now in
    record {
      tells = find-answered r.choice.nfa (kind_in r.choice) x.earliest x found e.answer;
      work = record { runs = e.runs; holds = e.holds; keeps = e.keeps };
      knows =
          subst (λ (vm : Pike). IsKnownFrom IsSureOf vm x c.ending_at-here.result)
          (sym (pike-kept r.choice c.find_by_ref-found.new.self.choice e.keeps.engines))
          (known-kept pike_finder (pike_of r) x x.start c.ending_at-here.result (λ m is.
          let k = c.ending_at-here.ensures.kept m is in (
            finds-sure (pike_of r) x (found_of m)
                (subst (λ (o : Option Match). IsFindAnswer r.choice.nfa (kind_in r.choice) x.earliest x
                (option_map found_of o)) k.0 e.answer),
            k.1 ∙ c.start-2.ensures,
          )));
    }

-- what was known stays true
pub returns-else-is_some-2 : goal.returns-else-is_some-2
returns-else-is_some-2 c =
    let r = c.args.regex.now in
    let found = c.find_by_ref-found.result in
    let e = c.find_by_ref-found.ensures in
    let x = search_of c.args.input.now in
    record {
      tells = find-answered r.choice.nfa (kind_in r.choice) x.earliest x found e.answer;
      work = record { runs = e.runs; holds = e.holds; keeps = e.keeps };
      knows = subst (λ (vm : Pike). IsKnownFrom IsSureOf vm x c.args.self.now.known)
          (sym (pike-kept r.choice c.find_by_ref-found.new.self.choice e.keeps.engines)) c.requires;
    }
