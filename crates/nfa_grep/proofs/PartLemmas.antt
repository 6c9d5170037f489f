-- Bytes that are in bytes, in all matches of a pattern, and so in a text with a hit.
use Rattle.std.proofs.Common.{◌≡◌, ◌∙◌, ℕ, ◌+◌, ◌-◌, ◌≤◌, All, List, [], length, get_or, ap, sym, arith, Option, None, Some, Vec, is_some, slice_range, true, ◌<◌, Bool}
use Rattle.std.specs.declared.alloc.Global.{Global}
use Rattle.std.proofs.lemmas.List.Edits.{get_or-between, length-between}
use Rattle.std.proofs.lemmas.List.Elements.{All-map}
use Rattle.memchr.specs.Find.{FindsNeedle}
use Rattle.regex_extract.specs.Needles.{ContainsNeedle, needles_of}
use Rattle.nfa_grep.specs.Required.{IsRequired, OccursIn, AreRequired}
use Rattle.nfa_compiler.specs.Common.{Matches, Re, PatternHit, expected}
use Rattle.regex_hir.proofs.OptionLemmas.{value_of_IsSome}
use Rattle.regex_search_core.specs.Search.{Search}
use Rattle.nfa_compiler.proofs.EachLemmas.{hit-each, pick-each, pick_one-each}

-- no bytes are in any text
pub occurs-none : (text : List ℕ) → OccursIn text []
occurs-none text = (0, record { fits = omega arith; reads = λ j less. absurd (omega arith) })

-- bytes are in themselves
pub occurs-self : (text : List ℕ) → OccursIn text text
occurs-self text = (
  0,
  record {
    fits = omega arith;
    reads = λ j less. let e : 0 + j ≡ j = omega arith in ap (λ (i : ℕ). get_or text i 0) e;
  },
)

pub occurs-trans : (text part bytes : List ℕ) → OccursIn text part → OccursIn part bytes → OccursIn text bytes
occurs-trans text part bytes (k, outer) (l, inner) =
    let far : k + length part ≤ length text = outer.fits in
    let near : l + length bytes ≤ length part = inner.fits in (
      k + l,
      record {
        fits = omega arith;
        reads = λ j less.
            let e : k + l + j ≡ k + (l + j) = omega arith in
            ap (λ (i : ℕ). get_or text i 0) e ∙ outer.reads (l + j) (omega arith) ∙ inner.reads j less;
      },
    )

-- a part that is cut out of bytes is in them
pub occurs-between : (text : List ℕ) (from to : ℕ) → from ≤ to → to ≤ length text
    → OccursIn text (slice_range text from to)
occurs-between text from to onward within =
    let size : length (slice_range text from to) ≡ to - from = length-between text from to within in (
      from,
      record {
        fits = omega (arith, size, onward, within);
        reads = λ j less. sym (get_or-between text from to j 0 (omega (arith, size, less)));
      },
    )

-- bytes that are in all needles are in each match that has a needle
pub required-of-needles : (re : Re) (bytes : List ℕ) (needles : Vec (Vec ℕ Global) Global)
    → ContainsNeedle re (needles_of needles)
    → All (λ (needle : Vec ℕ Global). OccursIn needle.items bytes) needles.items → IsRequired bytes re
required-of-needles re bytes needles contains each = λ text small i j match.
    let found = contains text small i j match in
    let needle = get_or (needles_of needles) found.0 [] in
    let inside : OccursIn needle bytes =
    All-map (λ (n : List ℕ). OccursIn n bytes) (λ (n : Vec ℕ Global). n.items) needles.items each found.0 []
    found.2.numbered in
    let here : OccursIn text needle =
    (found.1, record { fits = found.2.occurs.fits; reads = found.2.occurs.reads }) in
    occurs-trans text needle bytes here inside

-- a part of bytes that are required is required
pub required-part : (re : Re) (bytes part : List ℕ) → OccursIn bytes part → IsRequired bytes re → IsRequired part re
required-part re bytes part inside required = λ text small i j match.
    occurs-trans text bytes part (required text small i j match) inside

-- what a search finds is there
pub occurs-found : (text bytes : List ℕ) (found : Option ℕ) → is_some found ≡ true → FindsNeedle text bytes 0 found
    → OccursIn text bytes
occurs-found text bytes None some found = absurd (cc)
occurs-found text bytes (Some k) some found = (k, found.1)

module _ (res : List Re) (bytes : List ℕ) (required : AreRequired res bytes) (bound : Bool) (x : Search)
    (small : All (λ b. b < 256) x.haystack) where
  abbrev Has : PatternHit → Type 0
  Has h = OccursIn x.haystack bytes

  makes : (i : ℕ) (re : Re) → IsRequired bytes re → (h : PatternHit) → h.start ≡ i → Matches x.haystack re i h.trace.end
      → Has h
  makes i re is h start m = is x.haystack small i h.trace.end m

  pub hits-have-bytes : is_some (expected res bound x) ≡ true → OccursIn x.haystack bytes
  hits-have-bytes some =
      let hit = value_of_IsSome (expected res bound x) some in
      hit-each Has res bound x (λ i from to. pick-each x.haystack i (IsRequired bytes) Has (makes i) res required 0)
      (λ inside k. pick_one-each x.haystack x.start (IsRequired bytes) Has (makes x.start) res required k k) hit.0 hit.1
