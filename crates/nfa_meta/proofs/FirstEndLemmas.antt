-- A scan to the first end of a match finds none exactly if nothing matches. No match starts before its window.
use Rattle.nfa_paths.proofs.Common.{◌≡◌, ◌≤◌, ℕ, true, false, not, refl, ap, sym, subst, None, Search, MatchKind, Automaton, IsBoolAnswer, IsHalfAnswer, edges_of, node_at}
use Rattle.nfa_lazy_dfa.specs.Configurations.{StartsFrom}
use Rattle.nfa_engines.specs.Laws.{NotFoundIsNothing}
use Rattle.nfa_engines.specs.StartLaws.{IsFirstStart}
use Rattle.nfa_lazy_dfa.specs.Windows.{IsWindow, start_in}
use Rattle.nfa_lazy_dfa.specs.declared.window.Window.{Window}
use Rattle.nfa_lazy_dfa.proofs.IsMatchLemmas.{found-free}
use Rattle.nfa_facts.specs.PrefixLaws.{NothingIsNoAnswer, NothingIsNoMatch}
use Rattle.nfa_meta.specs.Windowed.{IsWindowed}
use Rattle.nfa_meta.specs.WindowLaws.{WindowsAreFirstStarts}
use Rattle.nfa_meta.specs.WindowRuns.{HasNoMatch}
use Rattle.nfa_meta.proofs.PrefixLemmas.{nothing-left}

-- where accepting paths start does not depend on `earliest`
starts-late : (nfa : Automaton) (x : Search) (s : ℕ) → StartsFrom nfa (record x { earliest = true }) s
    → StartsFrom nfa x s
unfolding node_at edges_of
starts-late nfa x s from = record { from = from.from }

module _ (nfa : Automaton) (kind : MatchKind) (x y : Search) (windowed : IsWindowed nfa x)
    (is : y ≡ record x { earliest = true }) where
  pub end-nothing : NotFoundIsNothing → NothingIsNoAnswer → NothingIsNoMatch → IsHalfAnswer nfa kind y.earliest y None
      → HasNoMatch nfa kind x
  end-nothing law rows matches half =
      let anywhere = windowed.unbound.anywhere in
      let found : IsBoolAnswer nfa kind false x false =
      found-free nfa kind x y true (sym (ap not anywhere)) is None half in
      nothing-left nfa kind x (law nfa x kind false false anywhere refl found) rows matches

  pub end-first : WindowsAreFirstStarts → (w : Window) → IsWindow nfa y w → IsFirstStart nfa x (start_in w)
  end-first law w window =
      let low : x.start ≤ start_in w = rw is at window.low in
      law nfa x (start_in w) windowed.unbound low
      (starts-late nfa x (start_in w) (subst (λ (z : Search). StartsFrom nfa z (start_in w)) is window.starts))
