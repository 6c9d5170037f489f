-- The byte before the span, if the search may read it.
use Rattle.nfa_paths.proofs.Common.{◌≡◌, ◌≤◌, ◌<◌, ◌-◌, ◌∙◌, ℕ, List, Bool, get_or, length, ap, sym, arith, lt-ltb, None, Some, slice_get, if◌then◌else◌, slice_get-get_or, search_of}
use Rattle.nfa_lazy_dfa.proofs.scan.byte_before.Goals as goal

pub returns-then-is_quit-clause-stops : goal.returns-then-is_quit-clause-stops
returns-then-is_quit-clause-stops c =
    let x = search_of c.args.input.now in
    let at = c.start-at.result in
    let same : at ≡ x.start = c.start-at.ensures in
    let within : x.end ≤ length x.haystack = c.args.input.now.within in
    let inside : at - 1 < length x.haystack = omega (arith, c.requires) in
    record {
      quit = c.is_quit.ensures.quit c.if-is_quit.true;
      is = slice_get-get_or x.haystack (at - 1) 0 inside
          ∙ ap (λ (h : List ℕ). Some (get_or h (at - 1) 0)) (sym c.haystack.ensures);
      low = omega arith;
      high = omega (arith, c.requires);
    }

pub returns-clause-byte : goal.returns-clause-byte
returns-clause-byte c =
    let x = search_of c.args.input.now in
    let at = c.start-at.result in
    let same : at ≡ x.start = c.start-at.ensures in
    let past : 0 < x.start = omega arith in
    let within : x.end ≤ length x.haystack = c.args.input.now.within in
    let inside : x.start - 1 < length x.haystack = omega (arith, c.requires) in
    ap (λ (h : List ℕ). Some (get_or h (at - 1) 0)) c.haystack.ensures
    ∙ ap (λ (n : ℕ). Some (get_or x.haystack (n - 1) 0)) same
    ∙ sym (slice_get-get_or x.haystack (x.start - 1) 0 inside)
    ∙ sym (ap (λ (b : Bool). if b then slice_get x.haystack (x.start - 1) else None) (lt-ltb 0 x.start past))
