-- From the laws on searches of texts to the fields of a line, and the groups that are named.
use Rattle.std.specs.declared.alloc.Global.{Global}
use Rattle.nfa_paths.proofs.Common.{String, ◌≡◌, ◌∙◌, ℕ, ◌+◌, ◌≤◌, List, [], ◌∷◌, map, length, drop, refl, ap, arith, Option, None, Some, option_map, option_or, groups_at, slot_count, Captured, group_span, le-ltb, ◌++◌, sym, string_bytes, slice_get, AllZip, common_steps, ◌<◌, All, true, false, is_some, IsAnswer, LeftmostFirst, is_utf8_empty}
use Rattle.nfa_engines.specs.Automaton.{Automaton}
use Rattle.nfa_compiler.proofs.CallLemmas.{names-read}
use Rattle.nfa_compiler.specs.Common.{Match, Trace, accept, attempt, hit, captures_of, written_span, PatternHit, expected, hit_by, hit_of, slots_of, Parsed, Names, read, Reads, IsCompiled, IsTreeOf, groups_of, IsNamed, byte_syntax, IsLeftmostToTheEnd}
use Rattle.nfa_compiler.specs.Laws.{GroupsAreNamed, GroupsAreWritten, InBytes, TextsAreAnswered}
use Rattle.log_extractor.specs.declared.pattern.Column.{Column}
use Rattle.log_extractor.specs.Fields.{IsLinePattern, LinePattern, NamedGroup, columns_of, cut, fields_of, from_start, group_of, match_at_start, named_groups, row, columns_in}
use Rattle.nfa_meta.proofs.NamesLemmas.{names-named}

-- the hit of a search of a line from its start
pub start-hit : (p : LinePattern) (nfa : Automaton) (line : List ℕ)
    → hit (p.tree ∷ []) nfa (from_start line) ≡ option_map (hit_by 0) (match_at_start p line)
unfolding expected
start-hit p nfa line = rw (le-ltb (length line) 0 (omega arith)) (same (attempt line p.tree accept 0))
  where
    same : (o : Option Trace) → option_or (hit_of 0 0 o) None
        ≡ option_map (hit_by 0) (option_map (λ t. record { start = 0; trace = t }) o)
    same None = refl
    same (Some t) = refl

-- the numbers of named groups are those of explicit groups
between : (names : List (Option (List ℕ))) (n : ℕ) (f g : ℕ → Option (List ℕ))
    → ((k : ℕ) → n ≤ k → k < n + length names → f k ≡ g k)
    → map (λ (group : NamedGroup). f group.number) (named_groups n names)
    ≡ map (λ (group : NamedGroup). g group.number) (named_groups n names)
between [] n f g same = refl
between (name ∷ names) n f g same =
    grind (arith, same n, between names (n + 1) f g (λ k low high. same k (omega arith) (omega arith)))

module _ (p : LinePattern) (nfa : Automaton) (line : List ℕ) (captures : Captured)
    (groups : nfa.groups ≡ drop 1 p.names ∷ [])
    (same : captures.groups ≡ nfa.groups)
    (pattern : captures.pattern ≡ option_map (λ (h : PatternHit). h.pattern) (hit (p.tree ∷ []) nfa (from_start line)))
    (slots : captures.slots ≡ slots_of nfa.groups (slot_count nfa.groups) (hit (p.tree ∷ []) nfa (from_start line)))
  where
    -- what the captures give for the columns, if a pattern was captured, is the row
    pub row-is : GroupsAreWritten hit
        → option_map (λ (k : ℕ). map (λ (group : NamedGroup). cut line (group_span captures group.number))
        (columns_of p)) captures.pattern ≡ row p line
    row-is law = of (match_at_start p line) (start-hit p nfa line)
      where
        cuts : List (Option (List ℕ))
        cuts = map (λ (group : NamedGroup). cut line (group_span captures group.number)) (columns_of p)

        of : (o : Option Match) → hit (p.tree ∷ []) nfa (from_start line) ≡ option_map (hit_by 0) o
            → option_map (λ (k : ℕ). cuts) captures.pattern ≡ option_map (fields_of p line) o
        of None h = ap (option_map (λ (k : ℕ). cuts)) (pattern ∙ ap (option_map (λ (one : PatternHit). one.pattern)) h)
        of (Some m) h =
            let is : captures.pattern ≡ Some 0 = pattern ∙ ap (option_map (λ (one : PatternHit). one.pattern)) h in
            let are : captures.slots ≡ slots_of nfa.groups (slot_count nfa.groups) (Some (hit_by 0 m)) =
            slots ∙ ap (slots_of nfa.groups (slot_count nfa.groups)) h in
            let all : captures ≡ captures_of nfa (hit_by 0 m) =
            λ i. record { groups = same i; pattern = is i; slots = are i } in
            let counted : length nfa.groups ≡ 1 = ap length groups in
            let explicit : groups_at nfa.groups 0 ≡ drop 1 p.names = ap (λ gs. groups_at gs 0) groups in
            ap (option_map (λ (k : ℕ). cuts)) is
            ∙ ap Some (between (drop 1 p.names) 1 (λ k. cut line (group_span captures k))
            (λ k. cut line (written_span k m))
            (λ k low high. ap (cut line) (ap (λ c. group_span c k) all
            ∙ law (p.tree ∷ []) nfa (from_start line) (hit_by 0 m) k counted h low
            (omega (arith, ap length explicit, high)))))

-- a search of a line by the NFA of the text of this pattern
module _ (text : List ℕ) (p : LinePattern) (nfa : Automaton) (line : List ℕ)
    (compiled : IsCompiled byte_syntax (text ∷ []) nfa) (anywhere : is_utf8_empty nfa ≡ false)
    (bytes : All (λ b. b < 256) line) (is : IsLinePattern text p)
  where
    mode : IsLeftmostToTheEnd LeftmostFirst false (from_start line)
    mode = record { leftmost = refl; latest = refl; whole = refl }

    groups-are : GroupsAreNamed → nfa.groups ≡ drop 1 p.names ∷ []
    groups-are law = law byte_syntax _ (p.names ∷ []) nfa compiled (is.names, tt)

    -- the columns are those of the pattern
    pub line-columns : GroupsAreNamed → (columns : List NamedGroup)
        → columns ≡ named_groups 1 (groups_at nfa.groups 0) → columns ≡ columns_of p
    line-columns law columns are = are ∙ ap (λ gs. named_groups 1 (groups_at gs 0)) (groups-are law)

    -- what its captures give is the row
    pub line-row : GroupsAreNamed → TextsAreAnswered InBytes hit → GroupsAreWritten hit → (captures : Captured)
        → captures.groups ≡ nfa.groups → length captures.slots ≡ slot_count nfa.groups
        → IsAnswer nfa LeftmostFirst false (from_start line) captures.pattern captures.slots
        → option_map (λ (k : ℕ). map (λ (group : NamedGroup). cut line (group_span captures group.number))
        (columns_of p)) captures.pattern ≡ row p line
    line-row names answers spans captures groups count answer =
        let hits = answers byte_syntax _ (p.tree ∷ []) nfa _ _ (from_start line) _ _ compiled (is.tree, tt) anywhere
        mode bytes answer in
        row-is p nfa line captures (groups-are names) groups hits.0
        (hits.1 ∙ ap (λ n. slots_of nfa.groups n (hit (p.tree ∷ []) nfa (from_start line))) count) spans

-- a function of the fields of a row, if there is one
pub some-of-row : {A : Type 0} (f : List (Option (List ℕ)) → A) (pattern : Option ℕ) (fields : List (Option (List ℕ)))
    (found : Option (List (Option (List ℕ)))) → option_map (λ (k : ℕ). fields) pattern ≡ found → is_some pattern ≡ true
    → Some (f fields) ≡ option_map f found
some-of-row f None fields found is some = absurd (cc)
some-of-row f (Some k) fields found is some = ap (option_map f) is

pub none-of-row : {A : Type 0} (f : List (Option (List ℕ)) → A) (pattern : Option ℕ) (fields : List (Option (List ℕ)))
    (found : Option (List (Option (List ℕ)))) → option_map (λ (k : ℕ). fields) pattern ≡ found
    → is_some pattern ≡ false → None ≡ option_map f found
none-of-row f None fields found is none = ap (option_map f) is
none-of-row f (Some k) fields found is none = absurd (cc)

-- a function of the numbers of columns
pub of-groups : {A : Type 0} (f : ℕ → A) (columns : List Column)
    → map (λ (column : Column). f column.group) columns ≡ map (λ (g : NamedGroup). f g.number) (map group_of columns)
of-groups f [] = refl
of-groups f (column ∷ columns) = grind (arith, of-groups f columns)

abbrev bytes_of : Option (String Global) → Option (List ℕ)
bytes_of name = option_map string_bytes name

pub named-more : (n m : ℕ) (names : List (Option (String Global))) (x : Option (String Global)) → m ≡ n + length names
    → named_groups n (map bytes_of names) ++ named_groups m (bytes_of x ∷ [])
    ≡ named_groups n (map bytes_of (names ++ x ∷ []))
named-more n m [] x e = grind (arith, e)
named-more n m (name ∷ names) x e = grind (arith, e, named-more (n + 1) m names x)

first-none : (own : List (Option (String Global))) → slice_get own 0 ≡ Some None
    → named_groups 0 (map bytes_of own) ≡ named_groups 1 (drop 1 (map bytes_of own))
first-none [] h = cc
first-none (None ∷ own) h = refl
first-none (Some name ∷ own) h = cc

-- the named groups of a tree, from group 0 on, are the columns
pub columns-read : (text : List ℕ) (tree : Parsed) (names : Names)
    → Reads byte_syntax text tree.hir (map bytes_of tree.names.items)
    → slice_get tree.names.items 0 ≡ Some None → IsNamed byte_syntax text names
    → named_groups 0 (map bytes_of tree.names.items) ≡ columns_in names
columns-read text tree names reads zero named =
    first-none tree.names.items zero
    ∙ ap (λ (ns : Names). named_groups 1 (drop 1 ns))
    (names-read byte_syntax text tree.hir (map bytes_of tree.names.items) names reads named)

tree-named : (text : List ℕ) (tree : Parsed) → IsTreeOf byte_syntax text tree
    → IsNamed byte_syntax text (map bytes_of tree.names.items)
tree-named text tree is = names-named byte_syntax text tree.hir (map bytes_of tree.names.items) is.reads

-- the columns are the named groups of the NFA
pub compiled-columns : (text : List ℕ) (nfa : Automaton) (columns : List NamedGroup)
    → IsCompiled byte_syntax (text ∷ []) nfa
    → ((names : Names) → IsNamed byte_syntax text names → columns ≡ columns_in names)
    → columns ≡ named_groups 1 (groups_at nfa.groups 0)
compiled-columns text nfa columns compiled each = of compiled.trees compiled.read compiled.groups
  where
    of : (trees : List Parsed) → AllZip (IsTreeOf byte_syntax) (text ∷ []) trees → nfa.groups ≡ groups_of trees
        → columns ≡ named_groups 1 (groups_at nfa.groups 0)
    of [] are groups = absurd are
    of (tree ∷ trees) are groups =
        each (map bytes_of tree.names.items) (tree-named text tree are.0)
        ∙ ap (λ gs. named_groups 1 (groups_at gs 0)) (sym groups)

pub empty-columns : (columns : List Column) → length columns ≡ 0 → map group_of columns ≡ []
empty-columns columns none = grind (arith, common_steps)
