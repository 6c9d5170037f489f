-- A regex as the engine of an iteration over half matches.
use Rattle.nfa_choice.proofs.FindLemmas.{pike-kept}
use Rattle.nfa_choice.proofs.HalvesLemmas.{HalfEngine}
use Rattle.nfa_meta.specs.Halves.{FindsHalfAfterDfa}
use Rattle.nfa_meta.specs.RegexState.{KeepsRegex, RegexState, pike_of}
use Rattle.nfa_meta.proofs.RegexLemmas.{regex_self, regex_then}

-- whose answers are those of the PikeVM of its choice
abbrev pub regex_engine : HalfEngine RegexState
regex_engine = record {
  engine = pike_of;
  Work = FindsHalfAfterDfa;
  Keeps = KeepsRegex;
  keeps = λ x a b work. work.keeps;
  self = regex_self;
  then = regex_then;
  stays = λ a b keeps. pike-kept a.choice b.choice keeps.engines;
}
