-- No search keeps a regex, and so do two searches.
use Rattle.nfa_paths.proofs.Common.{◌∙◌, arith, refl}
use Rattle.nfa_choice.proofs.FindLemmas.{KeepsChoice, keeps-self, keeps-then}
use Rattle.nfa_meta.specs.RegexState.{KeepsRegex, RegexState}
use Rattle.nfa_meta.specs.WindowRuns.{by_ends, by_window}

pub regex_self : (r : RegexState) → KeepsRegex r r
regex_self r = record {
  engines = keeps-self r.choice;
  config = refl;
  texts = refl;
  stops = omega arith;
}

pub regex_then : (a b c : RegexState) → KeepsRegex a b → KeepsRegex b c → KeepsRegex a c
regex_then a b c f g = record {
  engines = keeps-then a.choice b.choice c.choice f.engines g.engines;
  config = g.config ∙ f.config;
  texts = g.texts ∙ f.texts;
  stops = omega (arith, f.stops, g.stops);
}

-- and they keep its choice
abbrev pub regex_keeps : KeepsChoice by_window
regex_keeps = record { engines = λ a b keeps. keeps.engines; self = regex_self; then = regex_then }

abbrev pub ends_keeps : KeepsChoice by_ends
ends_keeps = record { engines = λ a b keeps. keeps.engines; self = regex_self; then = regex_then }
