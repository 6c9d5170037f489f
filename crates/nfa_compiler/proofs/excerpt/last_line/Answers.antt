-- what `rsplit_once` says of a line feed
use Rattle.std.proofs.lemmas.Str.Pattern.{NoCharPasses-char, drop_at_char}
use Rattle.nfa_paths.proofs.Common.{len_utf8_ascii, ◌≡◌, ◌∙◌, ◌≢◌, ℕ, ◌+◌, ◌-◌, ◌<◌, ◌≤◌, ◌==◌, List, ap, arith, drop, eq-eqb, get_or, length, length-drop, ne_eqb, not, suffix_len, get_or-drop, suffix_len_is}
use Rattle.nfa_compiler.specs.Common.{last_line}
use Rattle.nfa_compiler.proofs.excerpt.last_line.Goals as goal

-- the last line begins at n, if there is no line feed from n on, and one before n
last-from : (text : List ℕ) (n : ℕ) → n ≤ length text → ((k : ℕ) → n ≤ k → k < length text → get_or text k 0 ≢ 10)
    → (0 < n → get_or text (n - 1) 0 ≡ 10) → drop n text ≡ last_line text
last-from text n within none feed =
    let count = suffix_len_is (λ b. not (b == 10)) text n 0 within
    (λ k from to. ap not (ne_eqb (get_or text k 0) 10 (none k from to)))
    (λ some. ap not (eq-eqb (get_or text (n - 1) 0) 10 (feed some))) in
    let start : n ≡ length text - suffix_len (λ b. not (b == 10)) text = omega (arith, count, within) in
    ap (λ m. drop m text) start

pub returns-in-Some : goal.returns-in-Some
returns-in-Some c =
    let text = c.args.text.now in
    let cut = c.in-Some.ensures.cases in
    let i = cut.0 in
    let j = cut.1 in
    let next : j ≡ i + 1 = omega (arith, cut.2.1.ends, len_utf8_ascii 10 (omega arith)) in
    let before : j - 1 ≡ i = omega arith in
    let cut_at = ap length (drop_at_char 10 text i j cut.2.1 (omega arith)) in
    let end = last-from text j (omega (arith, cut_at, length-drop i text)) (λ k from to e.
    let back : j + (k - j) ≡ k = omega arith in
    NoCharPasses-char 10 (drop j text) (k - j) cut.2.0 (omega arith) (omega (arith, length-drop j text))
    (get_or-drop j text (k - j) 0 ∙ ap (λ n. get_or text n 0) back ∙ e))
    (λ some. ap (λ n. get_or text n 0) before ∙ cut.2.1.byte (omega arith)) in
    cc (cut.4, end, c.in-Some.last-is)

pub returns-in-None : goal.returns-in-None
returns-in-None c =
    last-from c.args.text.now 0 (omega arith)
    (λ k from to. NoCharPasses-char 10 c.args.text.now k c.in-None.ensures.cases (omega arith) to)
    (λ some. absurd (omega arith))
