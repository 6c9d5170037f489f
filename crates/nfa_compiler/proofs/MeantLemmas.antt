-- Patterns that a caller cannot tell apart have hits that a caller cannot tell apart.
use Rattle.nfa_paths.proofs.Common.{◌≡◌, ℕ, zero, suc, ◌+◌, ◌*◌, ◌-◌, ◌≤◌, ◌<◌, Bool, List, [], ◌∷◌, map, length, refl, ap, ◌∙◌, arith, Option, None, Some, IsSomeAnd, All, option_and_then, slice_get, if◌then◌else◌, chars, AllZip, le-ltb, nat_tests, nat_lt, Search}
use Rattle.nfa_compiler.specs.Common.{Re, Trace, accept, attempt, last_write, meaning, Hir, Nested, outcome, SameCaptures, Names, read as read_text, Reads, Config, Parsed, IsTreeOf, IsMeant, res_of, PatternHit, hit_of, pick, first_hit, expected, explicit_slot, place_of, writes_of}
use Rattle.nfa_compiler.proofs.EachLemmas.{Both, both-or, in-each-mode}
use Rattle.nfa_paths.proofs.MemberLemmas.{same_some}

-- hits that a caller cannot tell apart
pub record Alike (h g : PatternHit) : Type 0 where
  pub pattern : h.pattern ≡ g.pattern
  pub start : h.start ≡ g.start
  pub end : h.trace.end ≡ g.trace.end
  pub writes : (slot : ℕ) → last_write h.trace.writes slot ≡ last_write g.trace.writes slot

abbrev pub AreAlike : Option PatternHit → Option PatternHit → Type 0
AreAlike = Both Alike

alike-hit : (k i : ℕ) (o u : Option Trace) → outcome o ≡ outcome u → AreAlike (hit_of k i o) (hit_of k i u)
unfolding outcome
alike-hit k i None None e = tt
alike-hit k i None (Some u) e = absurd (cc)
alike-hit k i (Some t) None e = absurd (cc)
alike-hit k i (Some t) (Some u) e =
    let same : (t.end, last_write t.writes) ≡ (u.end, last_write u.writes) = same_some _ _ e in
    record {
      pattern = refl;
      start = refl;
      end = ap (λ (x : ℕ × (ℕ → Option ℕ)). x.0) same;
      writes = λ slot. ap (λ (x : ℕ × (ℕ → Option ℕ)). x.1 slot) same;
    }

module _ (hay : List ℕ) (bytes : All (λ b. b < 256) hay) where
  pub pick-alike : (res others : List Re) (k i : ℕ) → AllZip SameCaptures res others
      → AreAlike (pick hay res k i) (pick hay others k i)
  pick-alike [] [] k i same = tt
  pick-alike (a ∷ res) (b ∷ others) k i same =
      both-or Alike (hit_of k i (attempt hay a accept i)) (pick hay res (k + 1) i)
      (hit_of k i (attempt hay b accept i)) (pick hay others (k + 1) i)
      (alike-hit k i (attempt hay a accept i) (attempt hay b accept i) (same.0.at hay bytes accept i))
      (pick-alike res others (k + 1) i same.1)
  pick-alike _ _ k i same = absurd same

  pub first-alike : (at other : ℕ → Option PatternHit) → ((i : ℕ) → AreAlike (at i) (other i)) → (n i : ℕ)
      → AreAlike (first_hit at n i) (first_hit other n i)
  first-alike at other alike zero i = tt
  first-alike at other alike (suc n) i =
      both-or Alike (at i) (first_hit at n (i + 1)) (other i) (first_hit other n (i + 1)) (alike i)
      (first-alike at other alike n (i + 1))

  -- the pattern of this number
  pub one-alike : (res others : List Re) (place k i : ℕ) → AllZip SameCaptures res others
      → AreAlike (option_and_then (λ re. hit_of k i (attempt hay re accept i)) (slice_get res place))
      (option_and_then (λ re. hit_of k i (attempt hay re accept i)) (slice_get others place))
  one-alike [] [] place k i same = tt
  one-alike (a ∷ res) (b ∷ others) zero k i same =
      alike-hit k i (attempt hay a accept i) (attempt hay b accept i) (same.0.at hay bytes accept i)
  one-alike (a ∷ res) (b ∷ others) (suc place) k i same = one-alike res others place k i same.1
  one-alike _ _ place k i same = absurd same

-- what is to be found
pub expected-alike : (x : Search) → All (λ b. b < 256) x.haystack → (res others : List Re) (bound : Bool)
    → AllZip SameCaptures res others → AreAlike (expected res bound x) (expected others bound x)
unfolding expected
expected-alike x bytes res others bound same =
    in-each-mode x AreAlike tt
    (λ inside free. first-alike x.haystack bytes (pick x.haystack res 0) (pick x.haystack others 0)
    (λ i. pick-alike x.haystack bytes res others 0 i same) (if bound then 1 else (x.end - x.start + 1)) x.start)
    (λ inside. pick-alike x.haystack bytes res others 0 x.start same)
    (λ inside k. one-alike x.haystack bytes res others k k x.start same)

-- the slots of alike hits, which have other numbers among those of all patterns

module _ (groups : List (List (Option (List ℕ)))) (p : ℕ) (known : p < length groups) where
  pub place-high : (s : ℕ) → 2 ≤ s → place_of groups p s ≡ explicit_slot groups p + (s - 2)
  place-high s le = rw (le-ltb s 2 le) refl

  abbrev placed : List (ℕ × ℕ) → List (ℕ × ℕ)
  placed ws = map (λ w. (place_of groups p w.0, w.1)) ws

  -- the slot of the pattern whose place this is
  abbrev slot_at_place : ℕ → Option ℕ
  slot_at_place k =
      if nat_lt k (2 * p) then None else if nat_lt k (2 * p + 2) then Some (k - 2 * p)
      else if nat_lt k (explicit_slot groups p) then None else Some (k - explicit_slot groups p + 2)

  -- what was last written at a place, and at that of a slot
  placed-is : (ws : List (ℕ × ℕ)) (k : ℕ) → last_write (placed ws) k ≡ option_and_then (last_write ws) (slot_at_place k)
  placed-is [] k = grind (arith, nat_tests)
  placed-is (w ∷ ws) k = grind (arith, nat_tests, placed-is ws k)

  pub written-at : (ws : List (ℕ × ℕ)) (s : ℕ) → last_write (placed ws) (place_of groups p s) ≡ last_write ws s
  written-at ws s = grind (arith, nat_tests, placed-is ws (place_of groups p s))

  placed-alike : (ws vs : List (ℕ × ℕ)) → ((s : ℕ) → last_write ws s ≡ last_write vs s) → (k : ℕ)
      → last_write (placed ws) k ≡ last_write (placed vs) k
  placed-alike ws vs same k = grind (arith, nat_tests, placed-is)

  -- of alike hits of the pattern
  writes-alike : (start end : ℕ) (ws vs : List (ℕ × ℕ)) → ((s : ℕ) → last_write ws s ≡ last_write vs s) → (k : ℕ)
      → last_write ((2 * p, start) ∷ (2 * p + 1, end) ∷ placed ws) k
      ≡ last_write ((2 * p, start) ∷ (2 * p + 1, end) ∷ placed vs) k
  writes-alike start end ws vs same k = grind (arith, nat_tests, placed-alike)

pub hit-writes : (groups : List (List (Option (List ℕ)))) (h g : PatternHit) → h.pattern < length groups → Alike h g
    → (k : ℕ)
    → last_write (writes_of groups h) k ≡ last_write (writes_of groups g) k
hit-writes groups h g known a k =
    writes-alike groups h.pattern known h.start h.trace.end h.trace.writes g.trace.writes a.writes k
    ∙ (λ i. last_write ((2 * a.pattern i, a.start i) ∷ (2 * a.pattern i + 1, a.end i)
    ∷ map {B = ℕ × ℕ} (λ w. (place_of groups (a.pattern i) w.0, w.1)) g.trace.writes) k)

-- what texts mean

-- the grammar reads a pattern in the text that a caller cannot tell from the tree, with the tree's names
pub reads-give : (syntax : Config) (text : List ℕ) (hir : Hir) (own : Names) → Reads syntax text hir own
    → (Q : Nested Re × Names → Type 0) → IsSomeAnd (read_text syntax (chars text)) Q
    → (found : Nested Re × Names) × SameCaptures (meaning hir) found.0.value × (own ≡ found.1) × Q found
unfolding Reads
reads-give syntax text hir own reads Q is = grind (arith, nat_tests)

pub meant : (syntax : Config) (text : List ℕ) (tree : Parsed) (re : Re) → IsTreeOf syntax text tree
    → IsMeant syntax text re → SameCaptures (meaning tree.hir) re
meant syntax text tree re read is = grind (arith, nat_tests, reads-give)

-- the trees that are read from texts, and what the texts mean
pub all-meant : (syntax : Config) (texts : List (List ℕ)) (trees : List Parsed) (res : List Re)
    → AllZip (IsTreeOf syntax) texts trees → AllZip (IsMeant syntax) texts res → AllZip SameCaptures (res_of trees) res
all-meant syntax [] [] [] read is = tt
all-meant syntax (text ∷ texts) (tree ∷ trees) (re ∷ res) read is =
    (meant syntax text tree re read.0 is.0, all-meant syntax texts trees res read.1 is.1)
all-meant syntax _ _ _ read is = absurd (search)
