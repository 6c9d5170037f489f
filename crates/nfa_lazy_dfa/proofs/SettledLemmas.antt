-- What was found in a settled configuration stays up to the end of the scan.
use Rattle.nfa_paths.proofs.Common.{◌≡◌, ℕ, zero, suc, ◌+◌, ◌-◌, ◌≤◌, Bool, refl, ap, sym, ◌∙◌, arith, Search, MatchKind, Automaton}
use Rattle.nfa_lazy_dfa.specs.Configurations.{Configuration, IsSettled, advance, position_count, scanned, scan_half}
use Rattle.nfa_lazy_dfa.proofs.AnswerLemmas.{dead-stays}
use Rattle.nfa_lazy_dfa.proofs.LastScanLemmas.{stays}

module _ (nfa : Automaton) (x : Search) (kind : MatchKind) where
  pub found-stays : (earliest : Bool) (at : ℕ) (c : Configuration) → IsSettled earliest c
      → ((advance nfa x kind earliest at c).found ≡ c.found) × IsSettled earliest (advance nfa x kind earliest at c)
  found-stays earliest at c settled = grind (arith, dead-stays, stays)

  module _ (earliest : Bool) where
    stays-from : (n k : ℕ) → IsSettled earliest (scanned nfa x kind earliest n)
        → ((scanned nfa x kind earliest (k + n)).found ≡ (scanned nfa x kind earliest n).found)
        × IsSettled earliest (scanned nfa x kind earliest (k + n))
    stays-from n zero settled = let same : 0 + n ≡ n = omega arith in rw same (refl, settled)
    stays-from n (suc k) settled =
        let before = stays-from n k settled in
        let now = found-stays earliest (x.start + (k + n)) (scanned nfa x kind earliest (k + n)) before.1 in
        let next : suc k + n ≡ suc (k + n) = omega arith in
        rw next (now.0 ∙ before.0, now.1)

    -- a settled configuration has found what the scan finds
    pub settled-found : (n : ℕ) → n ≤ position_count x → IsSettled earliest (scanned nfa x kind earliest n)
        → (scanned nfa x kind earliest n).found ≡ scan_half nfa x kind earliest
    settled-found n within settled =
        let rest : (position_count x - n) + n ≡ position_count x = omega arith in
        sym (stays-from n (position_count x - n) settled).0
        ∙ ap (λ (m : ℕ). (scanned nfa x kind earliest m).found) rest

    -- one position more
    pub scanned-next : (at : ℕ) → x.start ≤ at
        → scanned nfa x kind earliest (at + 1 - x.start)
        ≡ advance nfa x kind earliest at (scanned nfa x kind earliest (at - x.start))
    scanned-next at low =
        let more : at + 1 - x.start ≡ suc (at - x.start) = omega arith in
        let here : x.start + (at - x.start) ≡ at = omega arith in
        ap (scanned nfa x kind earliest) more
        ∙ ap (λ (p : ℕ). advance nfa x kind earliest p (scanned nfa x kind earliest (at - x.start))) here

-- the laws of what stays
pub ruleset stays_settled = (dead-stays, found-stays)
