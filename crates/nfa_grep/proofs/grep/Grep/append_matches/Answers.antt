-- The line is selected exactly if there are matches.
use Rattle.nfa_paths.proofs.Common.{rules, ◌≡◌, ◌∙◌, ℕ, ◌<◌, List, ap, arith, eq-eqb, false, inl, inr, length, map, subst, sym, true, vec_len, nat_lt, ◌==◌, cases_lt, lt-ltb, found_of, Match}
use Rattle.nfa_grep.specs.Meant.{Grepping, Mean, all_found, span_of}
use Rattle.nfa_grep.specs.Printed.{mark_of, text_of}
use Rattle.nfa_grep.proofs.MeantLemmas.{found-if-any}
use Rattle.nfa_grep.proofs.grep.Grep.append_matches.Goals as goal

positive : (n : ℕ) → (n == 0) ≡ false → 0 < n
positive n other = elim (cases_lt 0 n) [
  | inl some ↦ some
  | inr none ↦
      let zero-is : n ≡ 0 = omega (arith, none) in
      let both : false ≡ true = sym other ∙ eq-eqb n 0 zero-is in
      absurd (cc)
]

pub returns-then-is_empty-clause-found : goal.returns-then-is_empty-clause-found
returns-then-is_empty-clause-found c = λ res meant.
    let ms = c.in_ok-matches.matches.items in
    let none : false ≡ nat_lt 0 (length ms) = search rules in
    let all = rw c.text_of.ensures at (c.in_ok-matches.ensures.all res meant) in
    found-if-any res (text_of c.args.self.now.options c.args.line.now) ms false all none

pub returns-clause-found : goal.returns-clause-found
returns-clause-found c = λ res meant.
    let ms = c.in_ok-matches.matches.items in
    let found = c.in_ok-matches.matches in
    let more : 0 < vec_len found = positive (vec_len found) (sym c.if-is_empty.ensures) in
    let some : true ≡ nat_lt 0 (length ms) = sym (lt-ltb 0 (length ms) (omega (arith, more, found.ok.0))) in
    let all = rw c.text_of.ensures at (c.in_ok-matches.ensures.all res meant) in
    found-if-any res (text_of c.args.self.now.options c.args.line.now) ms true all some

pub returns-clause-shown : goal.returns-clause-shown
returns-clause-shown c = λ res meant.
    let options = c.args.self.now.options in
    let line = c.args.line.now in
    let spans = map span_of (map found_of c.deref-2.result.now) in
    let kept = c.matches.ensures.kept in
    let same : c.self.inside.options ≡ options =
    ap (λ (g : Grepping). g.options) (c.self.view_is ∙ c.mark.ensures.kept ∙ kept) in
    let meant-here = subst (λ (g : Grepping). Mean g res) (sym kept) meant in
    let mark-is : c.deref.result.now ≡ mark_of options res line =
    c.deref.ensures.value ∙ c.in_ok-mark.ensures.mark res meant-here
    ∙ ap (λ (g : Grepping). mark_of g.options res line) kept in
    let spans-are : spans ≡ map span_of (all_found res (text_of options line)) =
    ap (λ (ms : List Match). map span_of (map found_of ms)) c.deref-2.ensures.value
    ∙ (rw c.text_of.ensures at (c.in_ok-matches.ensures.all res meant)) in
    rw (same, mark-is, spans-are) at c.in_ok-append_pieces.ensures
