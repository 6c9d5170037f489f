-- A token more was printed, or none starts where the last one ends.
use Rattle.std.proofs.Common.{rules, ◌≡◌, ◌∙◌, List, arith, length, None, refl, true}
use Rattle.std.proofs.KnownBytes.{Appends-kept}
use Rattle.nfa_compiler.specs.Common.{Re}
use Rattle.lexer.specs.Rules.{Mean}
use Rattle.lexer.proofs.PieceLemmas.{token-piece}
use Rattle.lexer.proofs.PositionLemmas.{position-moved, position-start}
use Rattle.lexer.proofs.PrintedLemmas.{printed-more, printed-none, stuck-printed, tokens-printed}
use Rattle.lexer.proofs.report.Report.print_tokens.Goals as goal

pub loop-at-init : goal.loop-at-init
loop-at-init g c = record {
  within = omega arith;
  printed = λ res meant. printed-none c.args.self.now.style c.args.self.now.rules.now res c.args.self.now.text.now _;
  position = position-start c.args.self.now.style.positions _ c.args.self.now.text.now c.first_shown-position.ensures;
  kept = search rules;
}

pub loop-at-preserved : goal.loop-at-preserved
loop-at-preserved g c =
    let report = c.args.self.now in
    let inv = c.loop-at.invariant in
    record {
      within = c.in-Some.ensures.inside.within;
      printed = λ res meant.
          let is = c.in-Some.ensures.token res (rw inv.kept meant) in
          let writes = rw (
            c.shown_at-shown.ensures.span,
            c.shown_at-shown.ensures.position,
            c.shown_at-shown.ensures.text,
          ) at c.in_ok-write_token.ensures in
          printed-more report.style report.rules.now res report.text.now _ c.loop-at.at true _ c.loop-at.position _ _
          c.loop-at-test.true (inv.printed res meant)
          (token-piece report.style.prefer res report.text.now c.loop-at.at _ is) inv.position writes;
      position = c.moved-position.ensures
          ∙ position-moved report.style.positions c.loop-at.position report.text.now c.loop-at.at
          c.in-Some.token.span.end
          inv.position;
      kept = search rules;
    }

pub returns-in_default : goal.returns-in_default
returns-in_default g c =
    let report = c.args.self.now in
    let inv = c.loop-at.invariant in
    let none : c.token_at.result ≡ None = search rules in
    let stuck = λ (res : List Re) (meant : Mean report.rules.now res).
    stuck-printed report.style report.rules.now res report.text.now _ c.loop-at.at _
    c.loop-at-test.true (inv.printed res (rw c.requires meant))
    (rw none at (c.token_at.ensures.token res (rw (inv.kept, c.requires) meant))) in
    record {
      printed = λ res meant. Appends-kept _ _ _ _ (stuck res meant).0 c.flush.ensures.bytes;
      outcome = λ res meant. rw (stuck res meant).1 c.stuck_at.ensures;
    }

pub returns : goal.returns
returns g c =
    let report = c.args.self.now in
    let inv = c.loop-at.invariant in
    let end : c.loop-at.at ≡ length report.text.now = omega (arith, inv.within, c.loop-at-test.false) in
    let all = λ (res : List Re) (meant : Mean report.rules.now res).
    tokens-printed report.style report.rules.now res report.text.now
    (g.W.Write.contents c.args.out.now) (g.W.Write.contents c.loop-at.out)
    (rw end at (inv.printed res (rw c.requires meant))) in
    record {
      printed = λ res meant. Appends-kept _ _ _ _ (all res meant).0 c.flush-2.ensures.bytes;
      outcome = λ res meant. rw (all res meant).1 refl;
    }
