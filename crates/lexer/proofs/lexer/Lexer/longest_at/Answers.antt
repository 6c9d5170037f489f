-- The longer of two tokens is the longest of one rule more.
use Rattle.std.proofs.Common.{rules, ◌≡◌, ◌∙◌, ap, ap₂, arith, inl, inr, length}
use Rattle.lexer.specs.Lexed.{longer, longest_of, own_token}
use Rattle.lexer.proofs.PieceLemmas.{longest-next, longest-none, meant-count}
use Rattle.lexer.proofs.lexer.Lexer.longest_at.Goals as goal

pub loop-number-init : goal.loop-number-init
loop-number-init c = record {
  best = λ res meant. longest-none (own_token res c.args.text.now c.args.at);
  after = tt;
  inside = tt;
  kept = search rules;
}

pub loop-number-preserved : goal.loop-number-preserved
loop-number-preserved c =
    let inv = c.loop-number.invariant in
    record {
      best = λ res meant.
          let own = own_token res c.args.text.now c.args.at in
          c.longer-best.ensures.longer
          ∙ ap₂ longer (inv.best res meant)
          (c.own_token.ensures.token res (rw inv.kept meant) ∙ ap own c.nth_pattern-pattern.ensures)
          ∙ longest-next own c.loop-number.number;
      after = elim c.longer-best.ensures.one [
        | inl first ↦ rw first inv.after
        | inr second ↦ rw second c.own_token.ensures.after
      ];
      inside = elim c.longer-best.ensures.one [
        | inl first ↦ rw first inv.inside
        | inr second ↦ rw second c.own_token.ensures.inside
      ];
      kept = search rules;
    }

pub returns-clause-token : goal.returns-clause-token
returns-clause-token c = λ res meant.
    let end : c.loop-number.number ≡ length res =
    omega (
      arith,
      c.loop-number-test.false,
      c.loop-number.auto.number-end,
      c.rule_count-count.ensures.count,
      meant-count _ res meant,
    ) in
    c.loop-number.invariant.best res meant
    ∙ ap (λ n. longest_of (own_token res c.args.text.now c.args.at) n) end
