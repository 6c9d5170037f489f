-- What a search of a whole haystack finds of one text, and what its captures and groups are in the words of the
-- grammar.
use Rattle.std.proofs.lemmas.List.Quantifiers.{position-Some}
use Rattle.nfa_compiler.proofs.BlockLemmas.{offset-at}
use Rattle.nfa_paths.proofs.MemberLemmas.{option_or-None}
use Rattle.nfa_paths.proofs.Common.{◌≡◌, ℕ, List, [], ◌∷◌, map, refl, ap₂, ◌∙◌, Option, drop, AllZip, ◌+◌, ◌*◌, ◌-◌, ◌≤◌, ◌<◌, length, sym, ap, arith, None, Some, option_and_then, nat_tests, sum_by_more, sum_by-take-le, group_named, groups_at, slot_at, slot_count, group_span, named_span, offset_at, span_at, Automaton, is_named, true, false, subst, IsUtf8, All, option_map, slice_index_or, get_or_default, Found, Search, whole, is_utf8_empty, IsFindAnswer, Captured, LeftmostFirst}
use Rattle.nfa_search_base.specs.Common.{AreMatches}
use Rattle.nfa_compiler.proofs.AllSearchLemmas.{all-matches, all-of-one, strs-answered, texts-answered, one-hit, one-str-hit, text-answered}
use Rattle.nfa_compiler.proofs.SearchLemmas.{IsAnsweredBy, match-is}
use Rattle.nfa_compiler.proofs.StrLemmas.{free-str-answered, str-kept}
use Rattle.nfa_compiler.proofs.UnboundLemmas.{texts-lose-none}
use Rattle.nfa_compiler.specs.Common.{Hir, Config, Parsed, Names, Reads, IsTreeOf, groups_of, AreNamed, IsNamed, last_write, captures_of, span_between, PatternHit, place_of, slots_of, writes_of, explicit_slot, Match, find, find_all, find_all_str, find_str, Re, FindsFromAnyStart, LosesNoHit, IsCompiled, IsMeant, found_at, found_by, found_of_hit, hit_by, AreOfHit, written_span, hit, str_hit}
use Rattle.nfa_compiler.proofs.MeantLemmas.{reads-give, place-high, written-at}

-- of one text
pub names-read : (syntax : Config) (text : List ℕ) (hir : Hir) (own names : Names) → Reads syntax text hir own
    → IsNamed syntax text names → own ≡ names
names-read syntax text hir own names reads named =
    let r = reads-give syntax text hir own reads (λ (_, found). found ≡ names) named in r.2 ∙ r.3

-- of all texts
pub groups-named : (syntax : Config) (texts : List (List ℕ)) (trees : List Parsed)
    (names : List (List (Option (List ℕ)))) → AllZip (IsTreeOf syntax) texts trees → AreNamed syntax texts names
    → groups_of trees ≡ map (drop 1) names
groups-named syntax [] [] [] read is = refl
groups-named syntax (text ∷ texts) (tree ∷ trees) (n ∷ names) read is =
    ap₂ (λ g gs. drop 1 g ∷ gs) (names-read syntax text tree.hir _ n read.0.reads is.0)
    (groups-named syntax texts trees names read.1 is.1)
groups-named syntax _ _ _ read is = absurd (search)

module _ (groups : List (List (Option (List ℕ)))) (h : PatternHit) (known : h.pattern < length groups) where
  -- the slots of the pattern's groups are among all slots
  room : (group : ℕ) → group ≤ length (groups_at groups h.pattern)
      → explicit_slot groups h.pattern + 2 * group ≤ slot_count groups
  room group high =
      omega (arith, sum_by_more length groups h.pattern [] known, sum_by-take-le length groups (h.pattern + 1))

  -- what all slots of the hit hold at the place of a slot of an explicit group
  holds : (k slot : ℕ) → 2 ≤ slot → k ≡ explicit_slot groups h.pattern + (slot - 2) → k < slot_count groups
      → offset_at (slots_of groups (slot_count groups) (Some h)) k ≡ last_write h.trace.writes slot
  unfolding slots_of
  holds k slot high at less =
      let place : k ≡ place_of groups h.pattern slot = at ∙ sym (place-high groups h.pattern known slot high) in
      offset-at (last_write (writes_of groups h)) (slot_count groups) k less
      ∙ ap (last_write (writes_of groups h)) place
      ∙ grind (arith, nat_tests, written-at groups h.pattern known h.trace.writes slot, option_or-None)

  slot-is : (group : ℕ) → 1 ≤ group → group ≤ length (groups_at groups h.pattern)
      → slot_at groups h.pattern group ≡ Some (explicit_slot groups h.pattern + 2 * (group - 1))
  slot-is group low high = grind (arith, nat_tests)

pub group-written : (nfa : Automaton) (h : PatternHit) (group : ℕ) → h.pattern < length nfa.groups → 1 ≤ group
    → group ≤ length (groups_at nfa.groups h.pattern)
    → group_span (captures_of nfa h) group
    ≡ span_between (last_write h.trace.writes (2 * group)) (last_write h.trace.writes (2 * group + 1))
group-written nfa h group known low high =
    let groups = nfa.groups in
    let first = explicit_slot groups h.pattern + 2 * (group - 1) in
    let fits = room groups h known group high in
    ap (option_and_then (span_at (captures_of nfa h).slots)) (slot-is groups h known group low high)
    ∙ ap₂ span_between
    (holds groups h known first (2 * group) (omega arith) (omega arith) (omega arith))
    (holds groups h known (first + 1) (2 * group + 1) (omega arith) (omega arith) (omega arith))

-- names

group-known : (groups : List (List (Option (List ℕ)))) (pattern : ℕ) (name : List ℕ) (group : ℕ)
    → group_named groups pattern name ≡ Some group → (1 ≤ group) × (group ≤ length (groups_at groups pattern))
group-known groups pattern name group e =
    grind (arith, λ (k : ℕ). position-Some (is_named name) (groups_at groups pattern) k None)

pub name-written : (nfa : Automaton) (h : PatternHit) (name : List ℕ) (group : ℕ) → h.pattern < length nfa.groups
    → group_named nfa.groups h.pattern name ≡ Some group
    → named_span (captures_of nfa h) name
    ≡ span_between (last_write h.trace.writes (2 * group)) (last_write h.trace.writes (2 * group + 1))
name-written nfa h name group known named = grind (arith, nat_tests, group-known, group-written)

-- the bytes of a slice
pub bytes-of : (haystack : List ℕ) → ((k : ℕ) → slice_index_or haystack k 0 < 256) → All (λ b. b < 256) haystack
bytes-of haystack each = λ k d less. omega (arith, each k, get_or_default haystack k 0 d less)

-- the match of the hit of pattern 0
pub hit-found : (o : Option Match) → found_of_hit (option_map (hit_by 0) o) ≡ option_map found_by o
hit-found o = grind arith

pub hits-found : (ms : List Match) → map found_at (map (hit_by 0) ms) ≡ map found_by ms
hits-found [] = refl
hits-found (m ∷ ms) = ap (λ fs. found_by m ∷ fs) (hits-found ms)

-- the match of a search that has the hit of this match
pub match-found : {nfa : Automaton} {x : Search} (m : Option Match) → IsAnsweredBy nfa x (option_map (hit_by 0) m)
    → (found : Option Found) → IsFindAnswer nfa LeftmostFirst false x found → found ≡ option_map found_by m
match-found m by found answer = match-is by found answer ∙ hit-found m

module _ (syntax : Config) (text : List ℕ) (nfa : Automaton) (haystack : List ℕ)
    (compiled : IsCompiled syntax (text ∷ []) nfa) where
  -- in bytes
  module _ (anywhere : is_utf8_empty nfa ≡ false) (free : FindsFromAnyStart nfa) (bytes : All (λ b. b < 256) haystack)
      (re : Re) (meant : IsMeant syntax text re) where
    kept : LosesNoHit (re ∷ []) nfa haystack
    kept = texts-lose-none syntax (text ∷ []) (re ∷ []) nfa haystack compiled (meant, tt) free bytes

    pub call-answered : IsAnsweredBy nfa (whole haystack) (option_map (hit_by 0) (find re haystack 0))
    call-answered =
        subst (IsAnsweredBy nfa (whole haystack)) (one-hit re nfa (whole haystack) kept refl refl)
        (text-answered syntax (text ∷ []) (re ∷ []) nfa (whole haystack) compiled (meant, tt) anywhere refl bytes)

    pub call-matches : (ms : List Found) → AreMatches nfa LeftmostFirst false (whole haystack) ms
        → ms ≡ map found_by (find_all re haystack)
    call-matches ms are =
        all-matches
        (texts-answered (re ∷ []) nfa (whole haystack) refl syntax (text ∷ []) compiled (meant, tt) anywhere bytes) ms
        are
        ∙ ap (map found_at) (all-of-one hit find one-hit re nfa (whole haystack) kept refl refl refl)
        ∙ hits-found (find_all re haystack)

  -- in a `str`
  module _ (mode : nfa.utf8 ≡ true) (free : FindsFromAnyStart nfa) (valid : IsUtf8 haystack) (re : Re)
      (meant : IsMeant syntax text re) where
    kept-in-str : LosesNoHit (re ∷ []) nfa haystack
    kept-in-str =
        str-kept syntax (text ∷ []) nfa compiled mode (whole haystack) refl valid free (re ∷ []) (meant, tt)

    pub call-answered-in-str : IsAnsweredBy nfa (whole haystack) (option_map (hit_by 0) (find_str re haystack 0))
    call-answered-in-str =
        subst (IsAnsweredBy nfa (whole haystack)) (one-str-hit re nfa (whole haystack) kept-in-str refl refl)
        (free-str-answered syntax (text ∷ []) nfa compiled mode (whole haystack) refl valid free (re ∷ []) (meant, tt))

    pub call-matches-in-str : (ms : List Found) → AreMatches nfa LeftmostFirst false (whole haystack) ms
        → ms ≡ map found_by (find_all_str re haystack)
    call-matches-in-str ms are =
        all-matches
        (strs-answered (re ∷ []) nfa (whole haystack) refl syntax (text ∷ []) compiled (meant, tt) mode free valid) ms
        are
        ∙ ap (map found_at) (all-of-one str_hit find_str one-str-hit re nfa (whole haystack) kept-in-str refl refl refl)
        ∙ hits-found (find_all_str re haystack)

-- captures

module _ (syntax : Config) (text : List ℕ) (nfa : Automaton) (compiled : IsCompiled syntax (text ∷ []) nfa)
    (names : List (Option (List ℕ))) (named : IsNamed syntax text names) where
  -- the groups of an NFA of one text are those that are read in it
  pub groups-of-one : nfa.groups ≡ drop 1 names ∷ []
  groups-of-one =
      compiled.groups ∙ groups-named syntax (text ∷ []) compiled.trees (names ∷ []) compiled.read (named, tt)

  -- the captures of the hit of the only pattern, at a name
  pub call-name : (captures : Captured) (name : List ℕ) (group : ℕ) (o : Option Match)
      → captures.groups ≡ nfa.groups → length captures.slots ≡ slot_count nfa.groups
      → group_named (drop 1 names ∷ []) 0 name ≡ Some group
      → AreOfHit nfa.groups (option_map (hit_by 0) o) captures.pattern captures.slots
      → named_span captures name ≡ option_and_then (written_span group) o
  call-name captures name group None same room is hit = grind arith
  call-name captures name group (Some m) same room is hit =
      let slots = hit.1 ∙ ap (λ n. slots_of nfa.groups n (Some (hit_by 0 m))) room in
      let all : captures ≡ captures_of nfa (hit_by 0 m) =
      λ i. record { groups = same i; pattern = hit.0 i; slots = slots i } in
      let one = ap (λ gs. length gs) groups-of-one in
      ap (λ c. named_span c name) all
      ∙ name-written nfa (hit_by 0 m) name group (omega (arith, one))
      (ap (λ gs. group_named gs 0 name) groups-of-one ∙ is)
