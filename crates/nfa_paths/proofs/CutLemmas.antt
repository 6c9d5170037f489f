-- The first match pair of a front, also if a search did not follow the pairs after it.
use Rattle.nfa_paths.proofs.Common.{◌≡◌, ℕ, Bool, true, List, arith, Some, Pair, Space, In, IsFirstPath, WantedAt, Slots, Task, Passes, IsFoundBy, first_match, Scanned, Scanning}
use Rattle.nfa_paths.proofs.MemberLemmas.{Test, tested, tell_at}
use Rattle.nfa_paths.proofs.FrontierMatchLemmas.{FirstMatch-found}
use Rattle.nfa_paths.proofs.KindsLemmas.{FirstMatch-at, front-first}

module _ (space : Space) (resting is_match : Pair → Bool) (shape : Scanned space resting is_match) where
  -- it is what the first path that ends there finds
  pub first_match-cut : {slots : Slots} {e : ℕ} {Seen : Pair → Type 0} {spent : ℕ} {front : List (Pair × Slots)}
      {work : List Task} {current : Slots} {a : Pair × Slots}
      → Scanning space is_match slots e Seen spent front work current
      → ((b : Pair × Slots) → In b front → (resting b.0 ≡ true) × (b.0.1 ≡ e)) → first_match is_match front ≡ Some a
      → IsFoundBy space.capture slots (IsFirstPath space.edges space.starts (WantedAt (Passes is_match) e)) spent
      (Some a)
  first_match-cut {slots} {e} {spent = spent} {front} {work} {current} {a} s rests is =
      let here : Test (WantedAt (Passes is_match) e) = tested (tell_at is_match e) in
      let searching = s.searching here.passes
      (λ v k. let at : v.1 ≡ e = (here.is v k).at in ((here.is v k).wanted, omega arith)) in
      front-first space resting is_match slots shape here (λ x h. (h.wanted, h.at)) 0 spent searching.marks front
      work current a rests (λ g h. searching.leads g 0 spent (omega arith) h)
      (FirstMatch-at here (λ b i. (rests b i).1) (FirstMatch-found is_match front a is))
