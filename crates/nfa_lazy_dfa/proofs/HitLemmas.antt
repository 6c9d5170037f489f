-- The patterns that a row keeps are those of the matches in the closure of the scan.
use Rattle.nfa_paths.proofs.Common.{◌≡◌, ℕ, ◌+◌, ◌-◌, ◌<◌, Bool, ◌≤◌, false, true, ap, get_or, length, map, sym, ◌∙◌, subst, option_map, slice_get, half_found_of, number_of, Search, MatchKind}
use Rattle.nfa_paths.proofs.StartLemmas.{byte_at-inside}
use Rattle.regex_search_core.specs.declared.search.MatchKind.TheVariants.{All}
use Rattle.nfa_lazy_dfa.specs.Configurations.{closure_at, position_count, scan_half, scanned}
use Rattle.nfa_lazy_dfa.specs.Assertions.{IsRead}
use Rattle.nfa_lazy_dfa.specs.Places.{IsFoundAt, IsNextPlace}
use Rattle.nfa_lazy_dfa.specs.Rows.{IsAt, IsRowOf, LeadsTo, stances_of}
use Rattle.nfa_lazy_dfa.specs.Stances.{IsNext, Stance, hits_here, patterns_for, patterns_in, stance_of}
use Rattle.nfa_lazy_dfa.proofs.ReachLemmas.{all_found, here_at}
use Rattle.nfa_lazy_dfa.proofs.RowLemmas.{some-same}
use Rattle.nfa_lazy_dfa.proofs.ScanLemmas.{byte-there, next-over}
use Rattle.nfa_lazy_dfa.proofs.StanceLemmas.{stands-here}
use Rattle.nfa_lazy_dfa.specs.declared.cache.Cache.{Cache}
use Rattle.nfa_lazy_dfa.specs.declared.dfa.DFA.{DFA}
use Rattle.nfa_lazy_dfa.specs.declared.follow.Stand.{Stand}
use Rattle.nfa_lazy_dfa.specs.declared.scan.Place.{Place}

module _ (dfa : DFA) (x : Search) (all : dfa.kind ≡ All) (late : x.earliest ≡ false) where
  -- what was found, and the patterns here, as those of a scan for all matches
  all-is : (n : ℕ) → (scanned dfa.nfa x dfa.kind x.earliest n).found ≡ (scanned dfa.nfa x All false n).found
  all-is n =
      ap (λ (k : MatchKind). (scanned dfa.nfa x k x.earliest n).found) all
      ∙ ap (λ (e : Bool). (scanned dfa.nfa x All e n).found) late

  pub found-all : (c : Cache) (p : Place) → IsFoundAt dfa c x p
      → option_map half_found_of p.found ≡ all_found dfa.nfa x p.at
  found-all c p at = at.found ∙ all-is (p.at - x.start)

  pub found-same : (c d : Cache) (p q : Place) → IsFoundAt dfa c x p → IsFoundAt dfa d x q → q.found ≡ p.found
      → all_found dfa.nfa x p.at ≡ all_found dfa.nfa x q.at
  found-same c d p q at next same =
      sym (found-all c p at) ∙ ap (option_map half_found_of) (sym same) ∙ found-all d q next

  pub half-all : scan_half dfa.nfa x dfa.kind x.earliest ≡ all_found dfa.nfa x (x.end + 1)
  half-all = all-is (position_count x)

  pub hits-at : (c : Cache) (at row : ℕ) (there : IsAt dfa c x at row) → IsRead dfa.nfa (slice_get x.haystack at)
      → hits_here dfa.nfa dfa.kind there.stance (slice_get x.haystack at)
      ≡ patterns_in dfa.nfa (here_at dfa.nfa x false at)
  hits-at c at row there read =
      let n = at - x.start in
      ap (patterns_for dfa.nfa dfa.kind) (sym (stands-here dfa.nfa x dfa.kind at there.stance
      (scanned dfa.nfa x dfa.kind x.earliest n) there.stands read))
      ∙ ap (λ (k : MatchKind). patterns_for dfa.nfa k (closure_at dfa.nfa x at (scanned dfa.nfa x k x.earliest n))) all
      ∙ ap (λ (e : Bool). patterns_in dfa.nfa (closure_at dfa.nfa x at (scanned dfa.nfa x All e n))) late

  -- those of the row that the byte leads to
  pub hits-next : (old new : Cache) (p : Place) (next : ℕ) (stand : Stand) → IsFoundAt dfa old x p → p.at < x.end
      → x.end ≤ length x.haystack → LeadsTo dfa old new p.row (get_or x.haystack p.at 0) next
      → IsRowOf new next (stance_of stand)
      → map number_of stand.hits.items ≡ patterns_in dfa.nfa (here_at dfa.nfa x false p.at)
  hits-next old new p next stand at inside within leads known =
      let byte = get_or x.haystack p.at 0 in
      let s = at.at.stance in
      let t = stance_of stand in
      let there = byte-there x p.at byte inside (byte_at-inside x p.at inside within) in
      let from : leads.from ≡ s =
      some-same (slice_get (stances_of old.stands.items) p.row) leads.from s leads.was at.at.is in
      let to : leads.to ≡ t = some-same (slice_get (stances_of new.stands.items) next) leads.to t leads.is known in
      let step : IsNext dfa.nfa dfa.kind s byte t =
      subst (λ (u : Stance). IsNext dfa.nfa dfa.kind u byte t) from
      (subst (IsNext dfa.nfa dfa.kind leads.from byte) to leads.next) in
      step.hits ∙ ap (hits_here dfa.nfa dfa.kind s) (sym there)
      ∙ hits-at old p.at p.row at.at (subst (IsRead dfa.nfa) (sym there) step.read)

  -- where the scan is over nothing more is found
  pub found-over : (c : Cache) (p : Place) (over : Bool) → IsNextPlace dfa c x p over → over ≡ true
      → all_found dfa.nfa x p.at ≡ all_found dfa.nfa x (x.end + 1)
  found-over c p over next is =
      sym (next.found ∙ all-is (p.at - x.start)) ∙ next-over dfa x c p over next is ∙ half-all
