-- If all slots are in a span, so is each span that they give.
use Rattle.nfa_paths.proofs.Common.{ℕ, ◌+◌, ◌*◌, inl, inr, List, Option, None, Some, sym, subst, All, IfSome, cond, nat_le, option_and_then, option_map, All-get_or, slice_get_cases, slot_at, Search, Captured, group_span, match_of, named_span, offset_at, span_at, Span, arith}
use Rattle.nfa_search_base.specs.Common.{IsInside, IsSlotInside, IsSpanInside, SpansInside}

module _ (x : Search) where
  -- an offset
  offset-inside : (slots : List (Option ℕ)) → All (IsSlotInside x) slots → (k : ℕ) → IsSlotInside x (offset_at slots k)
  offset-inside slots inside k =
      let P : Option (Option ℕ) → Type 0 = λ o. IsSlotInside x (option_and_then (λ offset. offset) o) in
      elim (slice_get_cases slots k).1 [
        | inl (slot, below, is, same) ↦
            subst P (sym is) (subst (λ (o : Option ℕ). IsSlotInside x o) same
            (All-get_or (IsSlotInside x) slots k slot below inside))
        | inr (past, is) ↦ subst P (sym is) tt
      ]

  -- what two offsets give
  two-inside : (a b : Option ℕ) → IsSlotInside x a → IsSlotInside x b
      → IfSome (option_and_then (λ start. option_and_then
      (λ end. cond (nat_le start end) (Some (record { start = start; end = end })) None) b) a) (IsSpanInside x)
  two-inside None b ha hb = tt
  two-inside (Some start) None ha hb = tt
  two-inside (Some start) (Some end) ha hb = grind (arith)

  -- what two slots give
  span-inside : (slots : List (Option ℕ)) → All (IsSlotInside x) slots → (k : ℕ)
      → IfSome (span_at slots k) (IsSpanInside x)
  span-inside slots inside k =
      two-inside (offset_at slots k) (offset_at slots (k + 1)) (offset-inside slots inside k)
      (offset-inside slots inside (k + 1))

  -- the match
  found-inside : (p : ℕ) (o : Option Span) → IfSome o (IsSpanInside x)
      → IfSome (option_map (λ (s : Span). record { pattern = p; start = s.start; end = s.end }) o) (IsInside x)
  found-inside p None h = tt
  found-inside p (Some s) h = record { from = h.from; ordered = h.ordered; to = h.to }

  match-inside : (pattern : Option ℕ) (slots : List (Option ℕ)) → All (IsSlotInside x) slots
      → IfSome (match_of pattern slots) (IsInside x)
  match-inside None slots inside = tt
  match-inside (Some p) slots inside = found-inside p (span_at slots (2 * p)) (span-inside slots inside (2 * p))

  -- what a number that may be there gives
  of-some : (f : ℕ → Option Span) → ((k : ℕ) → IfSome (f k) (IsSpanInside x)) → (o : Option ℕ)
      → IfSome (option_and_then f o) (IsSpanInside x)
  of-some f each None = tt
  of-some f each (Some k) = each k

  group-inside : (c : Captured) → All (IsSlotInside x) c.slots → (k : ℕ) → IfSome (group_span c k) (IsSpanInside x)
  group-inside c inside k =
      of-some (λ pattern. option_and_then (λ slot. span_at c.slots slot) (slot_at c.groups pattern k))
      (λ pattern. of-some (λ slot. span_at c.slots slot) (span-inside c.slots inside) (slot_at c.groups pattern k))
      c.pattern

  named-inside : (c : Captured) → All (IsSlotInside x) c.slots → (name : List ℕ)
      → IfSome (named_span c name) (IsSpanInside x)
  named-inside c inside name = grind (arith, of-some, group-inside)

  pub spans-inside : (c : Captured) → All (IsSlotInside x) c.slots → SpansInside x c
  spans-inside c inside = grind (arith, match-inside, group-inside, named-inside)
