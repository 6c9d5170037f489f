-- Rules are made line by line, and an error of their patterns is one of a rule.
use Rattle.std.proofs.Common.{◌≡◌, ◌∙◌, ℕ, ◌+◌, ◌<◌, true, false, Bor, List, [], ◌∷◌, ◌++◌, length, drop, map, arith, refl, sym, subst, ap, add-one, append_assoc, append-nil, below_more, drop-cons, cond, not, slice_index_or, ◌-◌, ◌^◌, take, min, chars, string_bytes}
use Rattle.std.proofs.lemmas.List.{drop_all, get_or-map, length-map}
use Rattle.lexer.specs.Rules.{AreRulesOf, HasParsed, IsRuleAt, is_left_out, rule_lines, rule_patterns, IsSyntaxMistake, IsTooLarge}
use Rattle.lexer.specs.declared.rules.Rule.{Rule}
use Rattle.std.proofs.lemmas.Option.{slice_get-get_or}
use Rattle.std.proofs.lemmas.Slice.Zip.{AllZip-long}
use Rattle.nfa_compiler.specs.Common.{meaning, Parsed, IsTreeOf, IsFirstTooBigOf, IsOfOneText, IsRejection, byte_syntax}
use Rattle.nfa_compiler.specs.declared.error.CompileError.TheVariants.{Syntax}
use Rattle.nfa_compiler.specs.declared.syntax_error.SyntaxError.{SyntaxError}

module _ (lines : List (Bor (List ℕ))) where
  abbrev texts : List (List ℕ)
  texts = map (λ (line : Bor (List ℕ)). line.now) lines

  abbrev lines_from : ℕ → List (ℕ × List ℕ)
  lines_from i = rule_lines (i + 1) (drop i texts)

  -- the line of this index
  module _ (i : ℕ) (d : Bor (List ℕ)) (within : i < length lines) (rules : List Rule)
      (p : HasParsed texts i rules) where
    abbrev line : List ℕ
    line = (slice_index_or lines i d).now

    text-is : slice_index_or texts i [] ≡ line
    text-is = get_or-map (λ (l : Bor (List ℕ)). l.now) lines i d [] within

    cut : lines_from i ≡ cond (not (is_left_out line)) ((i + 1, line) ∷ lines_from (i + 1)) (lines_from (i + 1))
    cut =
        let inside : i < length texts = omega (arith, length-map lines (λ (l : Bor (List ℕ)). l.now), within) in
        rw (drop-cons texts i [] inside, text-is, add-one) refl

    pub parsed-left-out : is_left_out line ≡ true → HasParsed texts (i + 1) rules
    parsed-left-out left = record {
      so_far = λ more h. p.so_far more (rw (cut, left) h);
      fine = below_more _ _ p.fine (λ w. absurd ((let no : true ≡ false = sym left ∙ rw text-is at w.kept in cc)));
    }

    pub parsed-rule : (rule : Rule) → is_left_out line ≡ false → IsRuleAt (i + 1, line) rule
        → HasParsed texts (i + 1) (rules ++ rule ∷ [])
    parsed-rule rule kept is = record {
      so_far = λ more h. rw (append_assoc rules (rule ∷ []) more) (p.so_far (rule ∷ more) (rw (cut, kept) (is, h)));
      fine = below_more _ _ p.fine (λ w. (rw text-is at w.no_rule) is.rule_is.has);
    }

  pub parsed-all : (i : ℕ) (rules : List Rule) → length lines ≡ i → HasParsed texts i rules → AreRulesOf texts rules
  parsed-all i rules end p =
      let none : drop i texts ≡ [] =
      drop_all i texts (omega (arith, length-map lines (λ (l : Bor (List ℕ)). l.now), end)) in
      rw append-nil at (p.so_far [] (rw none tt))

-- the pattern that is too large is that of a rule
pub within-rules : (limit : ℕ) (rules : List Rule) (pattern : ℕ)
    → IsFirstTooBigOf byte_syntax limit (rule_patterns rules) pattern → pattern < length rules
within-rules limit rules pattern f =
    omega (
      arith,
      f.first.within,
      AllZip-long (IsTreeOf byte_syntax) (rule_patterns rules) f.trees f.read,
      length-map f.trees (λ (p : Parsed). meaning p.hir),
      length-map rules (λ (rule : Rule). rule.pattern.now),
    )

pub too-large : (rules : List Rule) (pattern limit : ℕ) (d : Rule) → pattern < length rules → limit ≡ 10485760
    → IsFirstTooBigOf byte_syntax 10485760 (rule_patterns rules) pattern
    → IsTooLarge rules (slice_index_or rules pattern d).line limit
too-large rules pattern limit d inside is first = record {
  rule = slice_index_or rules pattern d;
  pattern = pattern;
  rule_is = slice_get-get_or rules pattern d inside;
  first = subst (λ n. IsFirstTooBigOf byte_syntax n (rule_patterns rules) pattern) (sym is) first;
  line_is = refl;
  limit_is = is;
}

-- the line and the column of a syntax error, from the number of characters before it
pub syntax-mistake : (rules : List Rule) (e : SyntaxError) (i : ℕ) (d : Rule) (column count start : ℕ)
    (before text reason : List ℕ) → i ≡ e.pattern → IsOfOneText byte_syntax (rule_patterns rules) (Syntax e)
    → column ≡ min ((slice_index_or rules i d).column + count) (2 ^ 64 - 1) → count ≡ length (chars before)
    → before ≡ take start text → start ≡ e.span.start → text ≡ string_bytes e.text → reason ≡ e.reason.now
    → IsSyntaxMistake rules (slice_index_or rules i d).line column reason
syntax-mistake rules e i d column count start before text reason is (within, rejected) columns counts front starts texts
    reasons =
    let inside : e.pattern < length rules =
    omega (arith, within, length-map rules (λ (rule : Rule). rule.pattern.now)) in
    let own : slice_index_or (rule_patterns rules) e.pattern [] ≡ (slice_index_or rules e.pattern d).pattern.now =
    get_or-map (λ (rule : Rule). rule.pattern.now) rules e.pattern d [] inside in
    let written : text ≡ (slice_index_or rules e.pattern d).pattern.now = texts ∙ rejected.text_is ∙ own in
    record {
      rule = slice_index_or rules e.pattern d;
      error = e;
      rule_is = slice_get-get_or rules e.pattern d inside;
      rejected = subst (λ (t : List ℕ). IsRejection byte_syntax e.pattern t e) own rejected;
      line_is = ap (λ k. (slice_index_or rules k d).line) is;
      column_is = columns ∙ ap (λ k. min ((slice_index_or rules k d).column + count) (2 ^ 64 - 1)) is
          ∙ ap (λ n. min ((slice_index_or rules e.pattern d).column + n) (2 ^ 64 - 1))
          (counts ∙ ap (λ (t : List ℕ). length (chars t))
          (front ∙ ap (λ k. take k text) starts ∙ ap (take e.span.start) written));
      reason_is = reasons;
    }
