-- A piece more was printed, and at the end all are.
use Rattle.std.proofs.Common.{rules, ◌≡◌, ◌∙◌, List, arith, length}
use Rattle.std.proofs.KnownBytes.{Appends-kept}
use Rattle.nfa_compiler.specs.Common.{Re}
use Rattle.lexer.specs.Rules.{Mean}
use Rattle.lexer.specs.Lexed.{piece_found, recovered}
use Rattle.lexer.proofs.PositionLemmas.{position-moved, position-start}
use Rattle.lexer.proofs.PrintedLemmas.{pieces-outcome, pieces-printed, printed-more, printed-none}
use Rattle.lexer.proofs.report.Report.print_pieces.Goals as goal

pub loop-at-init : goal.loop-at-init
loop-at-init g c =
    let report = c.args.self.now in
    record {
      within = omega arith;
      printed = λ res meant. printed-none report.style report.rules.now res report.text.now _;
      position = position-start report.style.positions _ report.text.now c.first_shown-position.ensures;
      kept = search rules;
    }

pub loop-at-preserved : goal.loop-at-preserved
loop-at-preserved g c =
    let report = c.args.self.now in
    let inv = c.loop-at.invariant in
    record {
      within = rw c.span-span.ensures c.piece_at-piece.ensures.inside.within;
      printed = λ res meant.
          let is = c.piece_at-piece.ensures.piece res (rw inv.kept meant) in
          let writes = rw (
            c.shown_at-shown.ensures.text,
            c.shown_at-shown.ensures.position,
            c.shown_at-shown.ensures.span,
            c.span-span.ensures,
          ) at c.in_ok-write_piece.ensures in
          rw (c.span-span.ensures, c.is_token-whole.ensures)
          (printed-more report.style report.rules.now res report.text.now (g.W.Write.contents c.args.out.now)
          c.loop-at.at c.loop-at.whole (piece_found c.piece_at-piece.result) c.loop-at.position
          (g.W.Write.contents c.loop-at.out) (g.W.Write.contents c.write_piece.new.out) c.loop-at-test.true
          (inv.printed res meant) is inv.position writes);
      position = c.moved-position.ensures
          ∙ position-moved report.style.positions c.loop-at.position report.text.now c.loop-at.at c.span-span.result.end
          inv.position;
      kept = search rules;
    }

pub returns : goal.returns
returns g c =
    let report = c.args.self.now in
    let inv = c.loop-at.invariant in
    let end : c.loop-at.at ≡ length report.text.now = omega (arith, inv.within, c.loop-at-test.false) in
    let all = λ (res : List Re) (meant : Mean report.rules.now res).
    pieces-printed report.style report.rules.now res report.text.now
    (g.W.Write.contents c.args.out.now) c.loop-at.whole (g.W.Write.contents c.loop-at.out)
    (rw end at (inv.printed res (rw c.requires meant))) in
    record {
      printed = λ res meant. Appends-kept _ _ _ _ (all res meant).0 c.flush.ensures.bytes;
      outcome = λ res meant. c.ended.ensures
          ∙ pieces-outcome report.text.now (recovered report.style.prefer res report.text.now) c.loop-at.whole
          (all res meant).1;
    }
