-- How an NFA of patterns comes about, pattern by pattern, and which pattern an error names.
use Rattle.nfa_paths.proofs.Common.{all_zipped_more, ◌≡◌, ℕ, ◌+◌, ◌*◌, ◌≤◌, ◌<◌, List, [], ◌∷◌, ◌++◌, map, take, length, sym, ap, ◌∙◌, subst, arith, slice_index_or, All, AllZip, get_or-map, length-map, map-append, take_more, All-push, sum_by_more, Automaton, Node, get_or_default}
use Rattle.nfa_compiler.specs.Common.{empty, meaning, Parsed, Adds, IsPatternAt, ArePatterns, Chooses, IsNfaOf, explicit_names, explicit_slot, groups_of, res_of, FitsIn, IsFirstTooBig, IsOfPattern, NamesPattern}
use Rattle.nfa_compiler.proofs.AddLemmas.{chooses-kept, patterns-kept, patterns-more, adds-trans}
use Rattle.nfa_compiler.specs.declared.error.CompileError.{CompileError}
use Rattle.nfa_compiler.specs.declared.error.CompileError.TheVariants.{TooBig, Tree}

-- the slots of one pattern more
pub slots-more : (patterns : List Parsed) (i : ℕ) (p : Parsed) → i < length patterns → p ≡ slice_index_or patterns i p
    → explicit_slot (groups_of patterns) (i + 1) ≡ explicit_slot (groups_of patterns) i + 2 * length (explicit_names p)
slots-more patterns i p inside is =
    let inside' : i < length (groups_of patterns) = omega (arith, length-map patterns explicit_names) in
    let own : slice_index_or (groups_of patterns) i [] ≡ explicit_names p =
    get_or-map explicit_names patterns i p [] inside ∙ ap explicit_names (sym is) in
    let more = sum_by_more length (groups_of patterns) i [] inside' in
    omega (arith, more, ap length own)

-- what the pattern means
pub re-at : (patterns : List Parsed) (i : ℕ) (p : Parsed) → i < length patterns → p ≡ slice_index_or patterns i p
    → slice_index_or (res_of patterns) i empty ≡ meaning p.hir
re-at patterns i p inside is =
    get_or-map (λ q. meaning q.hir) patterns i p empty inside ∙ ap (λ q. meaning q.hir) (sym is)

-- one more pattern is there
pub made-more : (old new : List Node) (patterns : List Parsed) (starts more : List ℕ) (slots i start : ℕ) (p : Parsed)
    → i < length patterns → p ≡ slice_index_or patterns i p → Adds old new
    → ArePatterns old (groups_of patterns) starts (res_of patterns) i → length starts ≡ i → more ≡ starts ++ start ∷ []
    → slots ≡ explicit_slot (groups_of patterns) i → IsPatternAt new slots i start (meaning p.hir)
    → ArePatterns new (groups_of patterns) more (res_of patterns) (i + 1)
made-more old new patterns starts more slots i start p inside is adds made long e slots_are here =
    patterns-more old new (groups_of patterns) starts more start (res_of patterns) i adds made long e
    (subst (λ s. IsPatternAt new s i start (slice_index_or (res_of patterns) i empty)) slots_are
    (subst (λ re. IsPatternAt new slots i start re) (sym (re-at patterns i p inside is)) here))

-- the starts are states
pub inside-more : (n m : ℕ) (starts more : List ℕ) (start : ℕ) → n ≤ m → All (λ s. s < n) starts → start < m
    → more ≡ starts ++ start ∷ [] → All (λ s. s < m) more
inside-more n m starts more start le all less e =
    subst (All (λ s. s < m)) (sym e)
    (All-push (λ s. s < m) starts start
    (λ i d h. let small : slice_index_or starts i d < n = all i d h in omega arith) less)

-- the NFA has the states of the patterns, their choice and the prefix
pub nfa-made : (one two : List Node) (patterns : List Parsed) (nfa : Automaton)
    → length nfa.patterns ≡ length patterns → nfa.groups ≡ groups_of patterns
    → ArePatterns one (groups_of patterns) nfa.patterns (res_of patterns) (length patterns)
    → Adds one two → Chooses two nfa.anchored nfa.patterns → nfa.anchored < length two → Adds two nfa.states
    → IsNfaOf (res_of patterns) nfa
nfa-made one two patterns nfa long are made adds chooses inside more =
    let count : length (res_of patterns) ≡ length patterns = length-map patterns (λ p. meaning p.hir) in
    record {
      patterns = long ∙ sym count;
      groups = ap length are ∙ length-map patterns explicit_names ∙ sym count;
      each = rw (are, count)
          (patterns-kept one nfa.states (groups_of patterns) nfa.patterns (res_of patterns) (length patterns)
          (adds-trans one two nfa.states adds more) made);
      chooses = chooses-kept two nfa.states nfa.anchored nfa.patterns more inside chooses;
    }

-- one text more is read
pub read-more : {A : Type 0} (R : List ℕ → Parsed → Type 0) (f : A → List ℕ) (xs : List A) (i : ℕ) (d : A)
    (trees more : List Parsed) (tree : Parsed) → i < length xs → AllZip R (map f (take i xs)) trees
    → R (f (slice_index_or xs i d)) tree → more ≡ trees ++ tree ∷ [] → AllZip R (map f (take (i + 1) xs)) more
read-more R f xs i d trees more tree inside so_far here e =
    let one : map f (take (i + 1) xs) ≡ map f (take i xs) ++ f (slice_index_or xs i d) ∷ [] =
    ap (map f) (take_more xs i d inside) ∙ map-append f (take i xs) (slice_index_or xs i d ∷ []) in
    subst (λ ts. AllZip R ts more) (sym one)
    (subst (AllZip R (map f (take i xs) ++ f (slice_index_or xs i d) ∷ [])) (sym e)
    (all_zipped_more R (map f (take i xs)) trees (f (slice_index_or xs i d)) tree so_far here))

-- one pattern more fits
pub fit-more : (limit : ℕ) (patterns : List Parsed) (i : ℕ) (p : Parsed) → i < length patterns
    → p ≡ slice_index_or patterns i p → ((k : ℕ) → k < i → FitsIn limit (slice_index_or (res_of patterns) k empty))
    → FitsIn limit (meaning p.hir) → (k : ℕ) → k < i + 1 → FitsIn limit (slice_index_or (res_of patterns) k empty)
fit-more limit patterns i p inside is so_far here = grind (arith, re-at)

-- all patterns fit
pub fit-all : (limit : ℕ) (patterns : List Parsed)
    → ((k : ℕ) → k < length patterns → FitsIn limit (slice_index_or (res_of patterns) k empty))
    → All (FitsIn limit) (res_of patterns)
fit-all limit patterns each k d inside =
    subst (FitsIn limit) (get_or_default (res_of patterns) k empty d inside)
    (each k (omega (arith, length-map patterns (λ p. meaning p.hir))))

-- if the patterns before i fit, it may be the first that does not
first : (limit : ℕ) (patterns : List Parsed) (i : ℕ) → i < length patterns
    → ((k : ℕ) → k < i → FitsIn limit (slice_index_or (res_of patterns) k empty))
    → IsFirstTooBig limit (res_of patterns) i
first limit patterns i inside fit = grind (arith, length-map)

-- an error of the pattern at i names it
pub named-at : (limit : ℕ) (patterns : List Parsed) (i : ℕ) (e : CompileError) → i < length patterns
    → ((k : ℕ) → k < i → FitsIn limit (slice_index_or (res_of patterns) k empty))
    → IsOfPattern limit i e → NamesPattern limit (res_of patterns) e
named-at limit patterns i (TooBig pattern found) inside fit (of, at) =
    (of, subst (IsFirstTooBig limit (res_of patterns)) (sym at) (first limit patterns i inside fit))
named-at limit patterns i (Tree pattern) inside fit at =
    subst (IsFirstTooBig limit (res_of patterns)) (sym at) (first limit patterns i inside fit)
named-at limit patterns i _ inside fit of = tt
