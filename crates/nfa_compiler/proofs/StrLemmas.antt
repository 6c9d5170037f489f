-- In a `str`, the hits of patterns that match whole characters end on a boundary exactly if they start on one. So a
-- search in UTF-8 mode finds in it what the texts of patterns mean.
use Rattle.regex_hir.proofs.Utf8Lemmas.{encode_two, encode_three, encode_four}
use Rattle.nfa_compiler.proofs.BoundarySearchLemmas.{boundary-true, boundary-answered}
use Rattle.nfa_compiler.proofs.CharacterLemmas.{reads-on, tree-matches-characters}
use Rattle.nfa_compiler.proofs.EachLemmas.{Each, in-each-mode, pick-each, pick_one-each}
use Rattle.nfa_paths.proofs.MemberLemmas.{is_plain}
use Rattle.nfa_paths.proofs.Common.{IsScalar, all_scalars, list_all-append, encode_ascii, ◌≡◌, ℕ, ◌+◌, ◌-◌, ◌<◌, Bool, true, false, List, [], ◌∷◌, refl, ◌∙◌, subst, arith, IsUtf8, encode_utf8_all, Option, None, All, IsTrue, encode_utf8, if◌then◌else◌, ltb-true, nat_lt, list_all, and_from, and_parts, nat_tests, AllPass-from_list_all, IsBoundary, Search, No, length, sym, ◌==◌, AllZip, All-nil, All-cons, All-map, Automaton, is_utf8_empty}
use Rattle.nfa_compiler.proofs.SearchLemmas.{IsAnsweredBy, answered-alike, hit-answered}
use Rattle.nfa_compiler.proofs.MeantLemmas.{AreAlike, all-meant, first-alike, one-alike, pick-alike}
use Rattle.nfa_compiler.proofs.UnboundLemmas.{boundary-unbound, hit-unbound, loses-none, str-unbound, texts-lose-none}
use Rattle.nfa_compiler.specs.Common.{Matches, Re, always_reads, is_boundary, ends_on_boundary, expected_on_boundary, on_boundary, PatternHit, expected, pick, pick_one, MatchesCharacters, at_boundary, expected_in_str, meaning, SameCaptures, Config, Parsed, FindsFromAnyStart, LosesNoHit, boundary_hit, AreMeant, IsCompiled, IsTreeOf, res_of, hit, StartsOnBoundary, str_hit}

-- the bytes of a `str`

abbrev is_byte : ℕ → Bool
is_byte b = nat_lt b 256

character-bytes : (c : ℕ) → IsScalar c → list_all is_byte (encode_utf8 c) ≡ true
character-bytes c scalar =
    grind (arith, nat_tests, encode_ascii c, encode_two c, encode_three c, encode_four c)

characters-bytes : (cs : List ℕ) → all_scalars cs ≡ true → list_all is_byte (encode_utf8_all cs) ≡ true
characters-bytes [] scalars = refl
characters-bytes (c ∷ cs) scalars =
    let both = and_parts _ _ scalars in
    list_all-append is_byte (encode_utf8 c) (encode_utf8_all cs)
    ∙ and_from _ _ (character-bytes c both.0) (characters-bytes cs both.1)

pub text-bytes : (haystack : List ℕ) → IsUtf8 haystack → All (λ b. b < 256) haystack
text-bytes haystack text = λ k d less.
    ltb-true _ 256 (AllPass-from_list_all is_byte haystack
    (subst (λ bs. list_all is_byte bs ≡ true) text.1.1 (characters-bytes text.0 text.1.0)) k d less)

-- hits of one start

module _ (haystack : List ℕ) (text : IsUtf8 haystack) where
  -- the hit ends on a boundary exactly if the position is one
  abbrev EndsAs : ℕ → Option PatternHit → Type 0
  EndsAs i = Each (λ h. ends_on_boundary haystack h ≡ is_boundary haystack i)

  ends-same : (i : ℕ) (re : Re) → MatchesCharacters re → (h : PatternHit) → h.start ≡ i
      → Matches haystack re i h.trace.end → ends_on_boundary haystack h ≡ is_boundary haystack i
  ends-same i re chars h start m =
      grind (arith, chars.whole haystack i h.trace.end text m, chars.split haystack i h.trace.end text m)

  pick-ends : (res : List Re) → All MatchesCharacters res → (k i : ℕ) → EndsAs i (pick haystack res k i)
  pick-ends res all k i = pick-each haystack i MatchesCharacters _ (ends-same i) res all k

  pick_one-ends : (res : List Re) → All MatchesCharacters res → (k i : ℕ) → EndsAs i (pick_one haystack res k i)
  pick_one-ends res all k i = pick_one-each haystack i MatchesCharacters _ (ends-same i) res all k k

  -- a hit that ends on a boundary is one at a boundary
  kept-at : (at : ℕ → Option PatternHit) (i : ℕ) → EndsAs i (at i) → on_boundary haystack (at i)
      ≡ at_boundary haystack at i
  kept-at at i ends = grind (arith, ends)

  -- inside a codepoint no pattern that always reads a byte has a hit

  none-of : (o : Option PatternHit) → Each (λ h. ⊥) o → o ≡ None
  none-of o never = grind (arith, never)

  module _ (res : List Re) (all : All MatchesCharacters res) (reads : All (λ re. IsTrue (always_reads re)) res)
      (i : ℕ) (off : is_boundary haystack i ≡ false) where
    abbrev ReadsOn : Re → Type 0
    ReadsOn re = MatchesCharacters re × IsTrue (always_reads re)

    both : All ReadsOn res
    both = λ j d less. (all j d less, reads j d less)

    never : (re : Re) → ReadsOn re → (h : PatternHit) → h.start ≡ i → Matches haystack re i h.trace.end → ⊥
    never re q h start m = grind (arith, nat_tests, reads-on)

    pick-none : (k : ℕ) → pick haystack res k i ≡ None
    pick-none k = none-of (pick haystack res k i) (pick-each haystack i ReadsOn (λ h. ⊥) never res both k)

    pick_one-none : (k : ℕ) → pick_one haystack res k i ≡ None
    pick_one-none k =
        none-of (pick_one haystack res k i) (pick_one-each haystack i ReadsOn (λ h. ⊥) never res both k k)

  every-at : (at : ℕ → Option PatternHit) (i : ℕ) → (is_boundary haystack i ≡ false → at i ≡ None)
      → at i ≡ at_boundary haystack at i
  every-at at i none = grind arith

-- hits of a search

module _ (res : List Re) (all : All MatchesCharacters res) (bound : Bool) (x : Search) (text : IsUtf8 x.haystack) where
  -- what ends on a boundary is what starts on one
  pub boundary-is-str : (bound ≡ true → x.anchored ≡ No → IsBoundary x.haystack x.start)
      → expected_on_boundary res bound x ≡ expected_in_str res bound x
  unfolding expected_on_boundary expected_in_str
  boundary-is-str starts = grind (arith, nat_tests, in-each-mode, kept-at, pick_one-ends, pick-ends, boundary-true)

  -- if each pattern always reads a byte, every hit starts on a boundary
  pub hit-is-str : All (λ re. IsTrue (always_reads re)) res → expected res bound x ≡ expected_in_str res bound x
  unfolding expected expected_in_str
  hit-is-str reads = grind (arith, nat_tests, in-each-mode, every-at, pick_one-none, pick-none)

-- Patterns that a caller cannot tell apart have hits in a `str` that a caller cannot tell apart.
str-alike : (x : Search) (bytes : All (λ b. b < 256) x.haystack) (res others : List Re) (bound : Bool)
    → AllZip SameCaptures res others → AreAlike (expected_in_str res bound x) (expected_in_str others bound x)
unfolding expected_in_str
str-alike x bytes res others bound same =
    in-each-mode x AreAlike tt {one = λ k. at_boundary x.haystack (pick_one x.haystack res k) x.start}
    {two = λ k. at_boundary x.haystack (pick_one x.haystack others k) x.start}
    (λ inside free. first-alike x.haystack bytes (at_boundary x.haystack (pick x.haystack res 0))
    (at_boundary x.haystack (pick x.haystack others 0)) picks (if bound then 1 else (x.end - x.start + 1)) x.start)
    (λ inside. picks x.start)
    (λ inside k. grind (arith, one-alike x.haystack bytes res others k k x.start same))
  where
    picks : (i : ℕ) → AreAlike (at_boundary x.haystack (pick x.haystack res 0) i)
        (at_boundary x.haystack (pick x.haystack others 0) i)
    picks i = grind (arith, pick-alike x.haystack bytes res others 0 i same)

-- the trees that are read under `utf8`
trees-match : (syntax : Config) → syntax.utf8 ≡ true → (texts : List (List ℕ)) (trees : List Parsed)
    → AllZip (IsTreeOf syntax) texts trees → All MatchesCharacters (res_of trees)
trees-match syntax mode [] [] read = All-nil MatchesCharacters
trees-match syntax mode (text ∷ texts) (tree ∷ trees) read =
    All-cons MatchesCharacters (meaning tree.hir) (res_of trees)
    (tree-matches-characters tree.hir (rw mode at read.0.formed))
    (trees-match syntax mode texts trees read.1)
trees-match syntax mode _ _ read = absurd read

-- if the NFA does not match the empty string, each tree always reads a byte
trees-read : (syntax : Config) (texts : List (List ℕ)) (nfa : Automaton) (compiled : IsCompiled syntax texts nfa)
    → nfa.utf8 ≡ true → is_utf8_empty nfa ≡ false → All (λ re. IsTrue (always_reads re)) (res_of compiled.trees)
trees-read syntax texts nfa compiled mode anywhere =
    All-map (λ re. IsTrue (always_reads re)) (λ (t : Parsed). meaning t.hir) compiled.trees
    (compiled.always_read (grind arith))

module _ (syntax : Config) (texts : List (List ℕ)) (nfa : Automaton) (compiled : IsCompiled syntax texts nfa)
    (mode : nfa.utf8 ≡ true) (x : Search) (whole : x.end ≡ length x.haystack) (text : IsUtf8 x.haystack) where
  abbrev own : List Re
  own = res_of compiled.trees

  own-match : All MatchesCharacters own
  own-match = trees-match syntax (sym compiled.mode ∙ mode) texts compiled.trees compiled.read

  -- the hit of a search, which is that of one that is bound to its start exactly if `b` is true
  module _ (b : Bool) (plain-is : hit own nfa x ≡ expected own b x)
      (boundary-is : boundary_hit own nfa x ≡ expected_on_boundary own b x)
      (starts : b ≡ true → x.anchored ≡ No → IsBoundary x.haystack x.start) where
    own-answered : IsAnsweredBy nfa x (expected_in_str own b x)
    own-answered = of (is_utf8_empty nfa) refl
      where
        of : (empty : Bool) → is_utf8_empty nfa ≡ empty → IsAnsweredBy nfa x (expected_in_str own b x)
        of true is =
            subst (IsAnsweredBy nfa x) (boundary-is ∙ boundary-is-str own own-match b x text starts)
            (boundary-answered own nfa compiled.made is x whole)
        of false is =
            subst (IsAnsweredBy nfa x)
            (plain-is ∙ hit-is-str own own-match b x text (trees-read syntax texts nfa compiled mode is))
            (hit-answered own nfa compiled.made x whole is)

  -- what the texts mean has hits that a caller cannot tell from those of the trees
  module _ (res : List Re) (meant : AreMeant syntax texts res) where
    own-alike : (b : Bool) → AreAlike (expected_in_str own b x) (expected_in_str res b x)
    own-alike b = str-alike x (text-bytes x.haystack text) own res b
        (all-meant syntax texts compiled.trees res compiled.read meant)

    pub str-answered : StartsOnBoundary nfa x → IsAnsweredBy nfa x (str_hit res nfa x)
    str-answered starts =
        let bound = nfa.anchored == nfa.unanchored in
        answered-alike (own-answered bound refl refl starts) (str_hit res nfa x) (own-alike bound)

  -- those of an NFA that finds matches from any start
  module _ (free : FindsFromAnyStart nfa) where
    pub own-free : IsAnsweredBy nfa x (expected_in_str own false x)
    own-free =
        let kept = loses-none own nfa compiled.made free x.haystack in
        own-answered false (hit-unbound own nfa x whole kept) (boundary-unbound own nfa x whole kept)
        (λ is. absurd (is_plain false refl is))

    module _ (res : List Re) (meant : AreMeant syntax texts res) where
      pub str-kept : LosesNoHit res nfa x.haystack
      str-kept = texts-lose-none syntax texts res nfa x.haystack compiled meant free (text-bytes x.haystack text)

      pub free-str-answered : IsAnsweredBy nfa x (str_hit res nfa x)
      free-str-answered =
          answered-alike own-free (str_hit res nfa x)
          (subst (AreAlike (expected_in_str own false x)) (sym (str-unbound res nfa x whole str-kept))
          (own-alike res meant false))
