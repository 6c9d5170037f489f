-- A match that does not count moves the start on.
use Rattle.nfa_paths.proofs.Common.{rules, ◌≡◌, ◌≤◌, ◌∙◌, ◌+◌, Bool, ap, arith, option_map, half_found_of, Search, search_of}
use Rattle.nfa_lazy_dfa.specs.Configurations.{scan_half, FindsSplit}
use Rattle.nfa_lazy_dfa.proofs.ScanHalfLemmas.{Skipping-begin, Skipping-end, Skipping-more, split-inside, split-of}
use Rattle.nfa_lazy_dfa.proofs.determinize.scan.find_whole_half.Goals as goal

pub loop-half-init : goal.loop-half-init
loop-half-init c = record {
  skipping = Skipping-begin c.args.nfa.now c.args.kind c.args.input.earliest (search_of c.args.input);
  found = c.in_ok-half.ensures.steps;
}

pub set_start-requires : goal.set_start-requires
set_start-requires c =
    let nfa = c.args.nfa.now in
    let e = c.args.input.earliest in
    let y = search_of c.loop-half.input in
    let found = option_map half_found_of c.loop-half.half in
    let split : FindsSplit nfa c.args.kind e y =
    split-of nfa c.args.kind e y found c.loop-half.invariant.found
    (λ whole. absurd (cc (c.loop-half-test.true, c.is_whole_half.ensures.1 whole))) in
    let inside : y.start ≤ y.end = split-inside nfa c.args.kind e y split in
    omega arith

pub loop-half-preserved : goal.loop-half-preserved
loop-half-preserved c =
    let nfa = c.args.nfa.now in
    let x = search_of c.args.input in
    let y = search_of c.loop-half.input in
    let z = search_of c.set_start.new.self in
    let found = option_map half_found_of c.loop-half.half in
    let split : FindsSplit nfa c.args.kind x.earliest y =
    split-of nfa c.args.kind x.earliest y found c.loop-half.invariant.found
    (λ whole. absurd (cc (c.loop-half-test.true, c.is_whole_half.ensures.1 whole))) in
    let moved : z ≡ record y { start = y.start + 1 } = search rules in
    let skipping = Skipping-more nfa c.args.kind x.earliest x y z c.loop-half.invariant.skipping split moved in
    let earlier : z.earliest ≡ x.earliest = ap (λ (w : Search). w.earliest) skipping.raises in
    record {
      skipping = skipping;
      found = c.in_ok-half-2.ensures.steps ∙ ap (λ (e : Bool). scan_half nfa z c.args.kind e) earlier;
    }

pub returns : goal.returns
returns c =
    let x = search_of c.args.input in
    Skipping-end c.args.nfa.now c.args.kind x.earliest x (search_of c.loop-half.input)
    (option_map half_found_of c.loop-half.half) c.loop-half.invariant.skipping c.loop-half.invariant.found
    (c.is_whole_half.ensures.0 c.loop-half-test.false)
