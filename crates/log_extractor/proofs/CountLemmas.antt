-- How values are counted, and how the counts are listed.
use Rattle.std.specs.Global.{Vec}
use Rattle.nfa_paths.proofs.Common.{String, Bor, AllAdjacentBelow, Contains, bytes_eq, cond-true, Contains-append_right, ◌≡◌, ◌∙◌, ℕ, ◌+◌, ◌<◌, Bool, true, false, cond, List, [], ◌∷◌, ◌++◌, All, length, map, refl, sym, ap, subst, arith, inl, inr, get_or, ◌⊎◌, Option, Some, option_map, slice_get, string_bytes, unwrap_or, AllByRecursion, cases_Bool, cond-false, get_or-map, length-map, All-map, sum_by_push, slice_get-map, slice_get_read, nat_tests}
use Rattle.std.specs.BTreeMap.{BTreeMap, IsOrdered, UpdatesBy, is_at}
use Rattle.std.specs.Cmp.Lexicographic.{slice_cmp, bytes_decides, nat_list_cmp_total, nat_list_eq_equiv}
use Rattle.std.specs.Cmp.{eq_by_cmp_equiv}
use Rattle.std.specs.List.{IsDistinct}
use Rattle.std.specs.List.Sorted.{IsPermutation, IsSorted, IsStrictlySortedBy}
use Rattle.std.specs.Map.{KeepsOthers, AreApart, IsKeyTest, keys_of, lookup}
use Rattle.std.specs.Ordering.{is_eq, is_lt, nat_cmp, ordering_then}
use Rattle.std.specs.declared.alloc.Global.{Global}
use Rattle.std.specs.declared.cmp.Ordering.{Ordering}
use Rattle.std.specs.declared.cmp.Ordering.TheVariants.{Less}
use Rattle.std.specs.declared.cmp.Reverse.{Reverse}
use Rattle.std.proofs.lemmas.List.Sorted.{All-permutation, Contains-permutation, IsPermutation-map}
use Rattle.std.proofs.lemmas.Map.Keys.{IsDistinct-IsPermutation, sorted_head, sorted_tail}
use Rattle.std.proofs.lemmas.Map.Text.{is_eq-slice_cmp}
use Rattle.log_extractor.specs.Counts.{IsCountList, IsFound, IsTally, MayPrecede, count_in, count_of, counted, entry_counted, key_cmp, occurrences, positive}

-- One more value is counted.

apart-in-order : (bs cs ks : List ℕ) → bytes_eq bs cs ≡ false → is_eq (slice_cmp nat_cmp bs ks) ≡ true
    → is_eq (slice_cmp nat_cmp cs ks) ≡ false
apart-in-order bs cs ks n y = grind (arith, is_eq-slice_cmp, bytes_decides, n, y)

module _ (eq : Vec ℕ → Vec ℕ → Bool) (test : Vec ℕ → Bool) where
  other-entries : (old new : List (Vec ℕ × ℕ)) → KeepsOthers eq test old new → (other : Vec ℕ → Bool)
      → IsKeyTest eq other → AreApart test other → lookup other new ≡ lookup other old
  unfolding KeepsOthers
  other-entries old new h = h

-- what a map has after a change at these bytes
updated : (bs : List ℕ) (m n : BTreeMap (Vec ℕ) ℕ) (w : Option ℕ)
    → UpdatesBy key_cmp (λ k. slice_cmp nat_cmp bs k.items) m n w → (cs : List ℕ)
    → count_in n cs ≡ cond (bytes_eq bs cs) w (count_in m cs)
updated bs m n w h cs = elim (cases_Bool (bytes_eq bs cs)) [
  | inl y ↦
      subst (λ (l : List ℕ). count_in n l ≡ w) ((bytes_decides bs cs).0 y) h.1
      ∙ sym (cond-true (bytes_eq bs cs) w (count_in m cs) y)
  | inr differs ↦
      other-entries _ _ _ _ h.3 _
      (λ x y. (eq_by_cmp_equiv nat_list_cmp_total).congr cs x.items y.items)
      (λ k. apart-in-order bs cs k.items differs)
      ∙ sym (cond-false (bytes_eq bs cs) w (count_in m cs) differs)
]

positive-more : (n : ℕ) → positive (n + 1) ≡ Some (n + 1)
positive-more n = grind arith

number-of : (n : ℕ) → unwrap_or (positive n) 0 ≡ n
number-of n = grind arith

one-more : (v : List ℕ) (values : List (List ℕ)) (w : List ℕ)
    → occurrences v (values ++ w ∷ []) ≡ occurrences v values + cond (bytes_eq v w) 1 0
one-more v values w = sum_by_push _ values w

pub tally-more : (values : List (List ℕ)) (value key : List ℕ) (m n : BTreeMap (Vec ℕ) ℕ) (next : ℕ)
    → IsTally values m → key ≡ value → next ≡ count_of m value + 1
    → UpdatesBy key_cmp (λ k. slice_cmp nat_cmp key k.items) m n (Some next) → IsTally (values ++ value ∷ []) n
tally-more values value key m n next tally same next-is updates = λ v.
    let now = updated key m n (Some next) updates v in
    elim (cases_Bool (bytes_eq value v)) [
      | inl y ↦
          let is : value ≡ v = (bytes_decides value v).0 y in
          let count : next ≡ occurrences v values + 1 =
          next-is ∙ ap (λ o. unwrap_or o 0 + 1) (tally value)
          ∙ ap (λ k. k + 1) (number-of (occurrences value values))
          ∙ ap (λ u. occurrences u values + 1) is in
          let more : occurrences v (values ++ value ∷ []) ≡ occurrences v values + 1 =
          one-more v values value ∙ rw (nat_list_eq_equiv.symm v value, y) refl in
          now ∙ rw (same, y) (ap Some count) ∙ sym (ap positive more ∙ positive-more (occurrences v values))
      | inr differs ↦
          let more : occurrences v (values ++ value ∷ []) ≡ occurrences v values =
          one-more v values value ∙ rw (nat_list_eq_equiv.symm v value, differs) (omega arith) in
          now ∙ rw (same, differs) (tally v) ∙ sym (ap positive more)
    ]

-- The list of the counts.

abbrev Pair : Type 0
Pair = Reverse ℕ × Bor (List ℕ)

abbrev second : ℕ × List ℕ → List ℕ
second c = c.1

positive-is : (n k : ℕ) → positive n ≡ Some k → (k ≡ n) × (0 < k)
positive-is n k h = grind arith

abbrev IsCounted : List (List ℕ) → ℕ × List ℕ → Type 0
IsCounted values c = (c.0 ≡ occurrences c.1 values) × (0 < c.0)

list-counts : (values : List (List ℕ)) (m : BTreeMap (Vec ℕ) ℕ) → IsTally values m → IsFound m
    → All (IsCounted values) (map entry_counted m.entries)
list-counts values m tally found =
    All-map (IsCounted values) entry_counted m.entries
    (λ k d inside. positive-is _ _ (sym (tally (get_or m.entries k d).0.items) ∙ found k d inside))

has-value : (v : List ℕ) (es : List (Vec ℕ × ℕ)) (n : ℕ)
    → lookup (is_at (λ (k : Vec ℕ). slice_cmp nat_cmp v k.items)) es ≡ Some n
    → Contains (map second (map entry_counted es)) v
has-value v [] n there = absurd (cc)
has-value v (e ∷ es) n there = elim (cases_Bool (is_eq (slice_cmp nat_cmp v e.0.items))) [
  | inl y ↦ (0, omega arith, sym ((bytes_decides v e.0.items).0 (sym (is_eq-slice_cmp v e.0.items) ∙ y)))
  | inr differs ↦
      Contains-append_right (e.0.items ∷ []) (map second (map entry_counted es)) v
      (has-value v es n (rw differs at there))
]

positive-some : (n : ℕ) → 0 < n → positive n ≡ Some n
positive-some n some = grind arith

all-apart : (k : Vec ℕ) (es : List (Vec ℕ × ℕ)) → AllByRecursion (λ y. key_cmp k y ≡ Less) (keys_of es)
    → AllByRecursion (λ y. bytes_eq k.items y ≡ false) (map second (map entry_counted es))
all-apart k [] less = tt
all-apart k (e ∷ es) less = (
  sym (is_eq-slice_cmp k.items e.0.items) ∙ ap is_eq less.0,
  all-apart k es less.1,
)

distinct-values : (es : List (Vec ℕ × ℕ)) → IsStrictlySortedBy key_cmp (keys_of es)
    → IsDistinct bytes_eq (map second (map entry_counted es))
unfolding IsDistinct
distinct-values [] sorted = tt
distinct-values (e ∷ es) sorted = (
  all-apart e.0 es (sorted_head key_cmp e.0 (keys_of es) sorted),
  distinct-values es (sorted_tail key_cmp e.0 (keys_of es) sorted),
)

abbrev pub pair_cmp : Pair → Pair → Ordering
pair_cmp x y = ordering_then (nat_cmp y.0.0 x.0.0) (slice_cmp nat_cmp x.1.now y.1.now)

order-of : (x y : ℕ) (o : Ordering) → is_lt (ordering_then (nat_cmp x y) o) ≡ false
    → (y < x) ⊎ ((x ≡ y) × (is_lt o ≡ false))
order-of x y o h = grind (arith, nat_tests, h)

may-precede : (a b : Pair) → is_lt (pair_cmp b a) ≡ false → MayPrecede (counted a) (counted b)
may-precede a b h = order-of a.0.0 b.0.0 (slice_cmp nat_cmp b.1.now a.1.now) h

abbrev pair_of : ℕ × List ℕ → Pair
pair_of c = (record { 0 = c.0 }, record { ref_ptr = (0, 0); now = c.1 })

sorted-counts : (xs : List Pair) → IsSorted pair_cmp xs
    → AllAdjacentBelow MayPrecede (map counted xs) (length (map counted xs))
sorted-counts xs sorted = λ k d below.
    let inside : k + 1 < length xs = omega (arith, below, length-map xs counted) in
    let step = may-precede (get_or xs k (pair_of d)) (get_or xs (k + 1) (pair_of d))
    (sorted k (pair_of d) (omega arith) inside) in
    rw (
      get_or-map counted xs k (pair_of d) d (omega (arith, inside)),
      get_or-map counted xs (k + 1) (pair_of d) d inside,
    ) step

pub count-list : (values : List (List ℕ)) (m : BTreeMap (Vec ℕ) ℕ) (xs ys : List Pair) → IsTally values m
    → IsOrdered key_cmp m → IsFound m → map counted xs ≡ map entry_counted m.entries → IsPermutation xs ys
    → IsSorted pair_cmp ys → IsCountList values (map counted ys)
count-list values m xs ys tally ordered found same moved sorted =
    let pairs = IsPermutation-map counted xs ys moved in
    let texts = IsPermutation-map second (map counted xs) (map counted ys) pairs in
    record {
      counts = All-permutation (IsCounted values) (map counted xs) (map counted ys) pairs
          (subst (All (IsCounted values)) (sym same) (list-counts values m tally found));
      all = λ value some.
          Contains-permutation (map second (map counted xs)) (map second (map counted ys)) value texts
          (subst (λ (cs : List (ℕ × List ℕ)). Contains (map second cs) value) (sym same)
          (has-value value m.entries _ (tally value ∙ positive-some (occurrences value values) some)));
      once = IsDistinct-IsPermutation bytes_eq (λ x y. nat_list_eq_equiv.symm x y) (map second (map counted xs))
          (map second (map counted ys)) texts
          (subst (λ (cs : List (ℕ × List ℕ)). IsDistinct bytes_eq (map second cs)) (sym same)
          (distinct-values m.entries ordered));
      sorted = sorted-counts ys sorted;
    }

-- The column of a name.

pub names-at : (names : List (String Global)) (k : ℕ) (other : String Global) → k < length names
    → other ≡ get_or names k other → slice_get (map string_bytes names) k ≡ Some (string_bytes other)
names-at names k other inside at =
    slice_get-map string_bytes names k ∙ ap (option_map string_bytes) (slice_get_read names _ k other refl inside at)
