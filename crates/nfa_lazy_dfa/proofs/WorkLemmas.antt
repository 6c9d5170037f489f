-- What parts of a scan and scans spend, one after the other.
use Rattle.nfa_paths.proofs.Common.{add-mul, ◌≡◌, ℕ, ◌+◌, ◌-◌, ◌*◌, ◌≤◌, ◌∙◌, refl, arith, Search}
use Rattle.nfa_lazy_dfa.specs.Rows.{AllowsClears, CountsScan, IsBounded, Scans, ScansAtMost, Spends, steps_of}
use Rattle.nfa_lazy_dfa.specs.declared.cache.Cache.{Cache}
use Rattle.nfa_lazy_dfa.specs.declared.dfa.DFA.{DFA}

module _ (a b c : Cache) where
  pub Spends-both : (s t m n : ℕ) → Spends a b s m → Spends b c t n → Spends a c (s + t) (m + n)
  Spends-both s t m n first second = record {
    scans = second.scans ∙ first.scans;
    steps = omega (arith, first.steps, second.steps);
    grows = omega (arith, first.grows, second.grows);
    rows = omega (arith, first.rows, second.rows);
    clears = second.clears ∙ first.clears;
  }

  -- one scan, over at most n bytes
  pub Scans-one : (s n : ℕ) → CountsScan a b → Spends b c s 1 → s ≤ n + 1 → Scans a c 1 n
  Scans-one s n counts spends less = record {
    scans = spends.scans ∙ counts.scans;
    steps = omega (arith, spends.steps, counts.steps);
    grows = omega (arith, spends.grows, counts.steps);
    rows = omega (arith, spends.rows, counts.rows, counts.steps);
    clears = omega (arith, spends.clears, counts.cleared, counts.clears);
  }

  -- one scan that took no step yet, and the rest of it
  pub Scans-rest : (s n : ℕ) → Scans a b 1 n → steps_of b ≡ steps_of a → Spends b c s 0 → s ≤ n + 1 → Scans a c 1 n
  Scans-rest s n scan same rest less = record {
    scans = rest.scans ∙ scan.scans;
    steps = omega (arith, rest.steps);
    grows = omega (arith, rest.grows);
    rows = omega (arith, rest.rows, scan.rows);
    clears = rest.clears ∙ scan.clears;
  }

  -- one scan more, over no more bytes
  pub Scans-more : (k n m : ℕ) → Scans a b k n → Scans b c 1 m → m ≤ n → Scans a c (k + 1) n
  Scans-more k n m first second less =
      let all : (k + 1) * (n + 1) ≡ k * (n + 1) + 1 * (n + 1) = add-mul k 1 (n + 1) in
      record {
        scans = omega (arith, first.scans, second.scans);
        steps = omega (arith, first.steps, second.steps, all);
        grows = omega (arith, first.grows, second.grows);
        rows = omega (arith, first.rows, second.rows);
        clears = second.clears ∙ first.clears;
      }

  -- a search, which may clear as often as the DFA allows
  pub IsBounded-scans : (dfa : DFA) (x : Search) → AllowsClears a b dfa → ScansAtMost b c x → IsBounded a c dfa x
  IsBounded-scans dfa x allows work = record {
    count = work.count;
    scans = omega (arith, work.scans.scans, allows.scans);
    few = work.few;
    steps = omega (arith, work.scans.steps, allows.steps);
    rows = omega (arith, work.scans.rows, allows.rows, allows.steps);
    clears = omega (arith, work.scans.clears, allows.cleared, allows.clears);
  }

-- at most this is at most more
pub Spends-up : (a b : Cache) (s t m : ℕ) → s ≤ t → Spends a b s m → Spends a b t m
Spends-up a b s t m less spends = record {
  scans = spends.scans;
  steps = omega (arith, spends.steps);
  grows = spends.grows;
  rows = spends.rows;
  clears = spends.clears;
}

-- nothing is spent
pub Spends-none : (c : Cache) (s m : ℕ) → Spends c c s m
Spends-none c s m = record {
  scans = refl;
  steps = omega arith;
  grows = omega arith;
  rows = omega arith;
  clears = refl;
}

pub ScansAtMost-one : (a b : Cache) (x : Search) → Scans a b 1 (x.end - x.start) → ScansAtMost a b x
ScansAtMost-one a b x scan = record { count = 1; few = omega arith; scans = scan }
