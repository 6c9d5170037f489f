-- Assertions hold alike wherever the bytes on both sides of a position are alike. Those of Unicode words do so only
-- between bytes below 128.
use Rattle.thompson_nfa.specs.declared.look.Look as looks
use Rattle.thompson_nfa.proofs.BetweenLemmas.{ascii_look, look_holds-ascii, before-some, holds_between, holds-between}
use Rattle.nfa_paths.proofs.Common.{◌≡◌, ◌∙◌, ℕ, ◌==◌, ◌||◌, ◌≤◌, ◌<◌, ◌⊎◌, inl, inr, Bool, true, ◌++◌, false, List, length, slice_index_or, refl, sym, ap, subst, arith, lit<, Option, None, Some, option_to_list, slice_get, cases_Bool, eqb_tells, slice_get-get_or, Automaton, Node, look_holds, node_at, Look, is_word_byte, Start, End, StartLF, EndLF, StartLine, EndLine, StartCRLF, EndCRLF, WordAscii, WordAsciiNegate, WordUnicode, WordUnicodeNegate, WordStartAscii, WordEndAscii, WordStartUnicode, WordEndUnicode, WordStartHalfAscii, WordEndHalfAscii, WordStartHalfUnicode, WordEndHalfUnicode, Holding, holding_at, byte_before}
use Rattle.nfa_lazy_dfa.specs.Assertions.{AreTerminators, HasNoLook, HasNoUnicodeWord, IsLookMarked, IsRead, SameLooks, is_look, like, may_follow, plain_like, reads_bytes, sees}

-- between two bytes there are these two

local-before : (b a : Option ℕ) → byte_before (option_to_list b ++ option_to_list a) (length (option_to_list b)) ≡ b
local-before None a = refl
local-before (Some x) a = refl

local-after : (b a : Option ℕ) → slice_get (option_to_list b ++ option_to_list a) (length (option_to_list b)) ≡ a
local-after None None = refl
local-after None (Some y) = refl
local-after (Some x) None = refl
local-after (Some x) (Some y) = refl

local-within : (b a : Option ℕ) → length (option_to_list b) ≤ length (option_to_list b ++ option_to_list a)
local-within None a = omega arith
local-within (Some x) None = omega arith
local-within (Some x) (Some y) = omega arith

-- the byte is below 128, or there is none
abbrev IsAscii : Option ℕ → Type 0
IsAscii None = Unit {0}
IsAscii (Some b) = b < 128

-- the assertion reads bytes, or both bytes are below 128
abbrev IsKnown : looks.Look → Option ℕ → Option ℕ → Type 0
IsKnown look before after = (reads_bytes look ≡ true) ⊎ (IsAscii before × IsAscii after)

ascii-same : (look : looks.Look) → reads_bytes look ≡ true → ascii_look look ≡ look
ascii-same WordUnicode r = absurd (cc r)
ascii-same WordUnicodeNegate r = absurd (cc r)
ascii-same WordStartUnicode r = absurd (cc r)
ascii-same WordEndUnicode r = absurd (cc r)
ascii-same WordStartHalfUnicode r = absurd (cc r)
ascii-same WordEndHalfUnicode r = absurd (cc r)
ascii-same _ r = refl

-- an assertion that is known holds exactly if it holds between the bytes on both sides
holds-known : (h : List ℕ) (at : ℕ) → at ≤ length h → (look : looks.Look)
    → IsKnown look (byte_before h at) (slice_get h at)
    → look_holds look h at ≡ holds_between look (byte_before h at) (slice_get h at)
holds-known h at within look (inl r) =
    ap (λ (l : looks.Look). look_holds l h at) (sym (ascii-same look r)) ∙ holds-between h at within look
holds-known h at within look (inr ascii) =
    look_holds-ascii h at within (λ past. subst IsAscii (before-some h at past within) ascii.0)
    (λ less. subst IsAscii (slice_get-get_or h at 0 less) ascii.1) look
    ∙ holds-between h at within look

sees-between : (b a : Option ℕ) (look : looks.Look) → IsKnown look b a
    → sees b a look ≡ holds_between look b a
sees-between b a look known =
    let h : List ℕ = option_to_list b ++ option_to_list a in
    let at : ℕ = length (option_to_list b) in
    holds-known h at (local-within b a) look
    (subst (λ (o : Option ℕ). IsKnown look o (slice_get h at)) (sym (local-before b a))
    (subst (IsKnown look b) (sym (local-after b a)) known))
    ∙ ap (λ (o : Option ℕ). holds_between look o (slice_get h at)) (local-before b a)
    ∙ ap (holds_between look b) (local-after b a)

sees-at : (h : List ℕ) (at : ℕ) → at ≤ length h → (look : looks.Look)
    → IsKnown look (byte_before h at) (slice_get h at)
    → sees (byte_before h at) (slice_get h at) look ≡ holding_at h at look
sees-at h at within look known =
    sees-between (byte_before h at) (slice_get h at) look known ∙ sym (holds-known h at within look known)

-- a byte like another one reads alike

plain-tells : (b : ℕ)
    → ((plain_like b == 10) ≡ (b == 10)) × ((plain_like b == 13) ≡ (b == 13))
    × (is_word_byte (plain_like b) ≡ is_word_byte b)
plain-tells b =
    elim (eqb_tells b 10) [
      | inl e ↦ rw e.1 (refl, refl, refl)
      | inr e ↦
          elim (eqb_tells b 13) [
            | inl f ↦ rw f.1 (refl, refl, refl)
            | inr f ↦
                elim (cases_Bool (is_word_byte b)) [
                  | inl w ↦ rw (w, e.0, f.0) (refl, refl, refl)
                  | inr w ↦ rw (w, e.0, f.0) (refl, refl, refl)
                ]
          ]
    ]

-- a byte that is one of two is below 128
small : (b : ℕ) → (b == 10 || b == 13) ≡ true → b < 128
small b e =
    elim (eqb_tells b 10) [
      | inl ten ↦ rw ten.1 (lit< tt)
      | inr other ↦
          elim (eqb_tells b 13) [
            | inl thirteen ↦ rw thirteen.1 (lit< tt)
            | inr none ↦ let never : false ≡ true = rw (other.0, none.0) at e in absurd (cc never)
          ]
    ]

plain-small : (b : ℕ) → plain_like b < 128
plain-small b =
    elim (cases_Bool (is_word_byte b)) [
      | inl w ↦ rw w (lit< tt)
      | inr w ↦
          elim (cases_Bool (b == 10 || b == 13)) [
            | inl e ↦ rw (w, e) (small b e)
            | inr e ↦ rw (w, e) (lit< tt)
          ]
    ]

module _ (marks : List Bool) (b : ℕ) where
  -- it is the byte itself, or one of four, and neither is a line terminator
  abbrev IsPlain : Type 0
  IsPlain =
      (like marks b ≡ plain_like b)
      × (slice_index_or marks b false ≡ false)
      × (slice_index_or marks (plain_like b) false ≡ false)

  like-cases : (like marks b ≡ b) ⊎ IsPlain
  like-cases =
      elim (cases_Bool (slice_index_or marks b false)) [
        | inl own ↦ inl (rw own refl)
        | inr none ↦
            elim (cases_Bool (slice_index_or marks (plain_like b) false)) [
              | inl taken ↦ inl (rw (none, taken) refl)
              | inr free ↦ inr (rw (none, free) refl, none, free)
            ]
      ]

  -- a byte that is no line terminator is none that is marked
  differs : (x : ℕ) → slice_index_or marks x false ≡ false → (t : ℕ) → slice_index_or marks t false ≡ true
      → (x == t) ≡ false
  differs x none t marked =
      elim (eqb_tells x t) [
        | inl e ↦ absurd (cc (none, marked, e.1))
        | inr e ↦ e.0
      ]

  -- a test that reads no line terminator
  like-tells : (test : ℕ → Bool) → test (plain_like b) ≡ test b → test (like marks b) ≡ test b
  like-tells test plain =
      elim like-cases [
        | inl same ↦ ap test same
        | inr other ↦ ap test other.0 ∙ plain
      ]

  -- and one that reads a marked one
  like-marked : (t : ℕ) → slice_index_or marks t false ≡ true → (like marks b == t) ≡ (b == t)
  like-marked t marked =
      elim like-cases [
        | inl same ↦ ap (λ x. x == t) same
        | inr other ↦
            ap (λ x. x == t) other.0 ∙ differs (plain_like b) other.2 t marked ∙ sym (differs b other.1 t marked)
      ]

  like-feed : (like marks b == 10) ≡ (b == 10)
  like-feed = like-tells (λ x. x == 10) (plain-tells b).0

  like-return : (like marks b == 13) ≡ (b == 13)
  like-return = like-tells (λ x. x == 13) (plain-tells b).1

  like-word : is_word_byte (like marks b) ≡ is_word_byte b
  like-word = like-tells is_word_byte (plain-tells b).2

  like-between : (after : Option ℕ) (look : looks.Look) → IsLookMarked marks look
      → holds_between look (Some (like marks b)) after ≡ holds_between look (Some b) after
  like-between after Start marked = refl
  like-between after End marked = refl
  like-between after StartLF marked = like-feed
  like-between after EndLF marked = refl
  like-between after (StartLine t) marked = like-marked t marked
  like-between after (EndLine t) marked = refl
  like-between after StartCRLF marked = rw (like-feed, like-return) refl
  like-between after EndCRLF marked = rw like-return refl
  like-between after WordAscii marked = rw like-word refl
  like-between after WordAsciiNegate marked = rw like-word refl
  like-between after WordUnicode marked = rw like-word refl
  like-between after WordUnicodeNegate marked = rw like-word refl
  like-between after WordStartAscii marked = rw like-word refl
  like-between after WordEndAscii marked = rw like-word refl
  like-between after WordStartUnicode marked = rw like-word refl
  like-between after WordEndUnicode marked = rw like-word refl
  like-between after WordStartHalfAscii marked = rw like-word refl
  like-between after WordEndHalfAscii marked = refl
  like-between after WordStartHalfUnicode marked = rw like-word refl
  like-between after WordEndHalfUnicode marked = refl

module _ (nfa : Automaton) where
  pub same-none : HasNoLook nfa → (a b : Holding) → SameLooks nfa a b
  same-none none a b = record { same = λ s look next e. absurd (cc (none.all s, ap is_look e)) }

  -- without assertions there are none of Unicode words
  pub reads-none : HasNoLook nfa → HasNoUnicodeWord nfa
  reads-none none = record { all = λ s. of (node_at nfa s) (none.all s) }
    where
      of : (node : Node) → is_look node ≡ false → may_follow node ≡ true
      of (Look look next) e = absurd (cc e)
      of _ e = refl

  reads-look : HasNoUnicodeWord nfa → (s : ℕ) (look : looks.Look) (next : ℕ) → node_at nfa s ≡ Look look next
      → reads_bytes look ≡ true
  reads-look reads s look next e = sym (ap may_follow e) ∙ reads.all s

  -- a byte that a search may read is below 128 unless assertions read bytes
  read-ascii : (byte : Option ℕ) → IsRead nfa byte → HasNoUnicodeWord nfa ⊎ IsAscii byte
  read-ascii None read = inr tt
  read-ascii (Some b) (inl reads) = inl reads
  read-ascii (Some b) (inr low) = inr low

  known-look : (before after : Option ℕ) → IsRead nfa before → IsRead nfa after → (s : ℕ) (look : looks.Look)
      (next : ℕ) → node_at nfa s ≡ Look look next → IsKnown look before after
  known-look before after b a s look next e =
      elim (read-ascii before b) [
        | inl reads ↦ inl (reads-look reads s look next e)
        | inr low ↦
            elim (read-ascii after a) [
              | inl reads ↦ inl (reads-look reads s look next e)
              | inr less ↦ inr (low, less)
            ]
      ]

  -- a byte like this one may be read
  read-like : (marks : List Bool) (b : ℕ) → IsRead nfa (Some b) → IsRead nfa (Some (like marks b))
  read-like marks b read =
      elim (like-cases marks b) [
        | inl same ↦ subst (λ (x : ℕ). IsRead nfa (Some x)) (sym same) read
        | inr other ↦ inr (subst (λ (x : ℕ). x < 128) (sym other.0) (plain-small b))
      ]

  marked-look : (marks : List Bool) → AreTerminators nfa marks → (s : ℕ) (look : looks.Look) (next : ℕ)
      → node_at nfa s ≡ Look look next → IsLookMarked marks look
  marked-look marks are s (StartLine t) next e = are.marked s t next e
  marked-look marks are s _ next e = tt

  pub same-like : (marks : List Bool) → AreTerminators nfa marks → (b : ℕ) (after : Option ℕ)
      → IsRead nfa (Some b) → IsRead nfa after
      → SameLooks nfa (sees (Some (like marks b)) after) (sees (Some b) after)
  same-like marks are b after read next_read = record {
    same = λ s look next e.
        let read_like = read-like marks b read in
        let known = known-look (Some (like marks b)) after read_like next_read s look next e in
        sees-between (Some (like marks b)) after look known
        ∙ like-between marks b after look (marked-look marks are s look next e)
        ∙ sym (sees-between (Some b) after look (known-look (Some b) after read next_read s look next e));
  }

  -- what is seen at a position
  pub same-at : (h : List ℕ) (at : ℕ) → at ≤ length h → (before : Option ℕ) → IsRead nfa (byte_before h at)
      → IsRead nfa (slice_get h at)
      → SameLooks nfa (sees before (slice_get h at)) (sees (byte_before h at) (slice_get h at))
      → SameLooks nfa (sees before (slice_get h at)) (holding_at h at)
  same-at h at within before b a like = record {
    same = λ s look next e.
        like.same s look next e
        ∙ sees-at h at within look (known-look (byte_before h at) (slice_get h at) b a s look next e);
  }
