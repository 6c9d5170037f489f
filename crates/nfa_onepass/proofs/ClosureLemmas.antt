-- The search for the only way from a state: each way was found, or goes on from a thread that waits.
use Rattle.std.specs.Global.{Vec}
use Rattle.nfa_paths.proofs.Common.{◌≡◌, ◌∙◌, ℕ, ◌≤◌, ◌<◌, ◌⊎◌, inl, inr, List, [], ◌∷◌, ◌++◌, length, refl, sym, ap, subst, arith, append-nil, append_assoc, IfSome, Option, None, Some, Bool, true, false, none-some, Automaton, Node, LeadsBelow, In, node_at, pattern_of, Look, Union, BinaryUnion, Capture, ByteRange, Sparse, Dense, Fail}
use Rattle.thompson_nfa.specs.Automaton.Node.{Match}
use Rattle.nfa_paths.proofs.MemberLemmas.{In-append, In-append_left, In-append_right, In-map, All-In, same_some, In-mapped}
use Rattle.nfa_onepass.specs.Ways.{IsDead, IsSure, Way, free_states, goal_of, here, over, written}
use Rattle.nfa_onepass.specs.Lists.{HasEmptyList, Keeps, list_at}
use Rattle.nfa_onepass.specs.Tables.{GoesOn, IsReached, threads_at}
use Rattle.nfa_onepass.specs.declared.way.WayEnd.{WayEnd}
use Rattle.nfa_onepass.specs.declared.way.Thread.{Thread}

-- a state that leads to a goal leads to none without a byte
goal-free : (looks : Bool) (byte : Option ℕ) (node : Node) (k s : ℕ) → goal_of byte node ≡ Some k
    → In s (free_states looks node) → ⊥
goal-free looks None (Match pattern) k s g i = i
goal-free looks None (ByteRange trans) k s g i = i
goal-free looks None (Sparse transitions) k s g i = i
goal-free looks None (Dense targets) k s g i = i
goal-free looks None Fail k s g i = i
goal-free looks None (Look look next) k s g i = cc
goal-free looks None (Union alternates) k s g i = cc
goal-free looks None (BinaryUnion alt1 alt2) k s g i = cc
goal-free looks None (Capture next slot) k s g i = cc
goal-free looks (Some b) (Match pattern) k s g i = i
goal-free looks (Some b) (ByteRange trans) k s g i = i
goal-free looks (Some b) (Sparse transitions) k s g i = i
goal-free looks (Some b) (Dense targets) k s g i = i
goal-free looks (Some b) Fail k s g i = i
goal-free looks (Some b) (Look look next) k s g i = cc
goal-free looks (Some b) (Union alternates) k s g i = cc
goal-free looks (Some b) (BinaryUnion alt1 alt2) k s g i = cc
goal-free looks (Some b) (Capture next slot) k s g i = cc

-- it is no Match if it reads the byte
goal-match : (b : ℕ) (node : Node) (k j : ℕ) → goal_of (Some b) node ≡ Some k → pattern_of node ≡ Some j → ⊥
goal-match b (Match pattern) k j g m = cc
goal-match b (ByteRange trans) k j g m = cc
goal-match b (Sparse transitions) k j g m = cc
goal-match b (Dense targets) k j g m = cc
goal-match b Fail k j g m = cc
goal-match b (Look look next) k j g m = cc
goal-match b (Union alternates) k j g m = cc
goal-match b (BinaryUnion alt1 alt2) k j g m = cc
goal-match b (Capture next slot) k j g m = cc

-- the states that a state leads to without a byte are states of the NFA
free-below : (looks : Bool) (n : ℕ) (node : Node) → LeadsBelow n node → (s : ℕ) → In s (free_states looks node) → s < n
free-below true n (Look look next) below s i = grind arith
free-below false n (Look look next) below s i = absurd i
free-below looks n (Union alternates) below s i = All-In (λ s. s < n) alternates below s i
free-below looks n (BinaryUnion alt1 alt2) below s i = grind arith
free-below looks n (Capture next slot) below s i = grind arith
free-below looks n (ByteRange trans) below s i = absurd i
free-below looks n (Sparse transitions) below s i = absurd i
free-below looks n (Dense targets) below s i = absurd i
free-below looks n Fail below s i = absurd i
free-below looks n (Match pattern) below s i = absurd i

module _ (nfa : Automaton) (looks : Bool) where
  -- a way that goes on from its first state
  record IsOver (s r : ℕ) (ws : List ℕ) : Type 0 where
    next : ℕ
    rest : List ℕ
    among : In next (free_states looks (node_at nfa s))
    way : Way nfa looks next rest r
    slots : ws ≡ written (node_at nfa s) ++ rest

  way-cases : {s r : ℕ} {ws : List ℕ} → Way nfa looks s ws r → ((s ≡ r) × (ws ≡ [])) ⊎ IsOver s r ws
  way-cases here = inl (refl, refl)
  way-cases (over {s = s} {t = t} {r = r} {ws = ws} i w) =
      inr record { next = t; rest = ws; among = i; way = w; slots = refl }

  -- a way that is taken on by one more state
  way-on : {s r : ℕ} {ws : List ℕ} (t : ℕ) → Way nfa looks s ws r → In t (free_states looks (node_at nfa r))
      → Way nfa looks s (ws ++ written (node_at nfa r)) t
  way-on t (here {s = s}) i =
      subst (λ (l : List ℕ). Way nfa looks s l t) (append-nil (written (node_at nfa s))) (over i here)
  way-on t (over {s = s} {r = r} {ws = ws} j w) i =
      subst (λ (l : List ℕ). Way nfa looks s l t)
      (sym (append_assoc (written (node_at nfa s)) ws (written (node_at nfa r)))) (over j (way-on t w i))

  module _ (s : ℕ) (byte : Option ℕ) where
    -- a way with this goal and these slots was found
    pub record IsFound (lists : List (Vec ℕ)) (found : Option WayEnd) (k : ℕ) (ws : List ℕ) : Type 0 where
      pub it : WayEnd
      pub is : found ≡ Some it
      pub goal : k ≡ it.goal
      pub slots : ws ≡ list_at lists it.list

    -- a way to the state with these slots goes on from a thread that waits
    pub record IsWaiting (lists : List (Vec ℕ)) (stack : List Thread) (r : ℕ) (ws : List ℕ) : Type 0 where
      pub thread : Thread
      pub among : In thread stack
      pub rest : List ℕ
      pub way : Way nfa looks thread.sid rest r
      pub slots : ws ≡ list_at lists thread.list ++ rest

    -- a way from the state with this goal and these slots
    pub record HasWay (lists : List (Vec ℕ)) (it : WayEnd) : Type 0 where
      pub last : ℕ
      pub way : Way nfa looks s (list_at lists it.list) last
      pub has : goal_of byte (node_at nfa last) ≡ Some it.goal

    -- a thread's numbers are in range
    abbrev pub IsThread : List (Vec ℕ) → Thread → Type 0
    IsThread lists t = (t.sid < length nfa.states) × (t.list < length lists)

    -- Each way from the state to a goal was found, or goes on from a thread that waits.
    pub record IsUnderWay (lists : List (Vec ℕ)) (stack : List Thread) (found : Option WayEnd) : Type 0 where
      pub covers : (r k : ℕ) (ws : List ℕ) → Way nfa looks s ws r → goal_of byte (node_at nfa r) ≡ Some k
          → IsFound lists found k ws ⊎ IsWaiting lists stack r ws
      pub threads : (t : Thread) → In t stack → IsThread lists t
      pub kept : (it : WayEnd) → found ≡ Some it → (it.list < length lists) × (it.goal ≤ 2147483646)
      pub comes : (t : Thread) → In t stack → Way nfa looks s (list_at lists t.list) t.sid
      pub has : (it : WayEnd) → found ≡ Some it → HasWay lists it
      pub shut : looks ≡ false → (b : ℕ) → byte ≡ Some b → (r k : ℕ) (ws : List ℕ) → Way nfa looks s ws r
          → pattern_of (node_at nfa r) ≡ Some k → IsWaiting lists stack r ws

    -- at first the state waits
    pub IsUnderWay-begin : (lists : List (Vec ℕ)) → HasEmptyList lists → s < length nfa.states
        → IsUnderWay lists (threads_at 0 (s ∷ [])) None
    IsUnderWay-begin lists first inside = record {
      covers = λ r k ws w g. inr record {
        thread = record { sid = s; list = 0 };
        among = inl refl;
        rest = ws;
        way = w;
        slots = ap (λ (l : List ℕ). l ++ ws) (sym first.empty);
      };
      threads = λ t i. elim i [
        | inl e ↦ subst (IsThread lists) (sym e) (inside, first.some)
        | inr never ↦ absurd never
      ];
      kept = λ it e. elim (none-some it e) [ ];
      comes = λ t i. elim i [
        | inl e ↦ subst (λ (u : Thread). Way nfa looks s (list_at lists u.list) u.sid) (sym e)
            (subst (λ (l : List ℕ). Way nfa looks s l s) (sym first.empty) here)
        | inr never ↦ absurd never
      ];
      has = λ it e. elim (none-some it e) [ ];
      shut = λ plain b is r k ws w m. record {
        thread = record { sid = s; list = 0 };
        among = inl refl;
        rest = ws;
        way = w;
        slots = ap (λ (l : List ℕ). l ++ ws) (sym first.empty);
      };
    }

    -- a thread whose state has the goal is found
    pub IsUnderWay-found : (lists : List (Vec ℕ)) (rest stack : List Thread) (t : Thread) (k : ℕ)
        → stack ≡ rest ++ t ∷ [] → IsUnderWay lists stack None → goal_of byte (node_at nfa t.sid) ≡ Some k
        → k ≤ 2147483646 → IsUnderWay lists rest (Some (record { goal = k; list = t.list }))
    IsUnderWay-found lists rest stack t k is h g small = record {
      covers = λ r j ws w e. elim (h.covers r j ws w e) [
        | inl f ↦ elim (none-some f.it f.is) [ ]
        | inr v ↦ elim (In-append v.thread rest (t ∷ []) (subst (In v.thread) is v.among)) [
          | inl i ↦ inr record { thread = v.thread; among = i; rest = v.rest; way = v.way; slots = v.slots }
          | inr i ↦ inl (ends r j ws e v (elim i [ inl same ↦ same | inr never ↦ absurd never ]))
        ]
      ];
      threads = λ u i. h.threads u (subst (In u) (sym is) (In-append_left u rest (t ∷ []) i));
      kept = λ it e. let same = same_some (record { goal = k; list = t.list }) it e in
          subst (λ (z : WayEnd). (z.list < length lists) × (z.goal ≤ 2147483646)) same
          ((h.threads t (subst (In t) (sym is) (In-append_right t rest (t ∷ []) (inl refl)))).1, small);
      comes = λ u i. h.comes u (subst (In u) (sym is) (In-append_left u rest (t ∷ []) i));
      has = λ it e. subst (HasWay lists) (same_some (record { goal = k; list = t.list }) it e) (record {
        last = t.sid;
        way = h.comes t (subst (In t) (sym is) (In-append_right t rest (t ∷ []) (inl refl)));
        has = g;
      });
      shut = λ plain b reads r j ws w m.
          let v = h.shut plain b reads r j ws w m in
          elim (In-append v.thread rest (t ∷ []) (subst (In v.thread) is v.among)) [
            | inl i ↦ record { thread = v.thread; among = i; rest = v.rest; way = v.way; slots = v.slots }
            | inr i ↦ absurd (matched b reads r j ws m v (elim i [ inl same ↦ same | inr never ↦ absurd never ]))
          ];
    }
      where
        matched : (b : ℕ) → byte ≡ Some b → (r j : ℕ) (ws : List ℕ) → pattern_of (node_at nfa r) ≡ Some j
            → (v : IsWaiting lists stack r ws) → v.thread ≡ t → ⊥
        matched b reads r j ws m v same =
            elim (way-cases v.way) [
              | inl last ↦
                  let at : t.sid ≡ r = ap (λ (u : Thread). u.sid) (sym same) ∙ last.0 in
                  goal-match b (node_at nfa t.sid) k j
                  (subst (λ (o : Option ℕ). goal_of o (node_at nfa t.sid) ≡ Some k) reads g)
                  (ap (λ (z : ℕ). pattern_of (node_at nfa z)) at ∙ m)
              | inr more ↦ goal-free looks byte (node_at nfa t.sid) k more.next g
                  (subst (λ (u : Thread). In more.next (free_states looks (node_at nfa u.sid))) same more.among)
            ]

        ends : (r j : ℕ) (ws : List ℕ) → goal_of byte (node_at nfa r) ≡ Some j → (v : IsWaiting lists stack r ws)
            → v.thread ≡ t → IsFound lists (Some (record { goal = k; list = t.list })) j ws
        ends r j ws e v same =
            elim (way-cases v.way) [
              | inl last ↦
                  let at : t.sid ≡ r = ap (λ (u : Thread). u.sid) (sym same) ∙ last.0 in
                  record {
                    it = record { goal = k; list = t.list };
                    is = refl;
                    goal = same_some j k (sym e ∙ ap (λ (z : ℕ). goal_of byte (node_at nfa z)) (sym at) ∙ g);
                    slots = v.slots ∙ ap (λ (l : List ℕ). list_at lists v.thread.list ++ l) last.1
                        ∙ append-nil (list_at lists v.thread.list)
                        ∙ ap (λ (u : Thread). list_at lists u.list) same;
                  }
              | inr more ↦ absurd (goal-free looks byte (node_at nfa t.sid) k more.next g
                  (subst (λ (u : Thread). In more.next (free_states looks (node_at nfa u.sid))) same more.among))
            ]

    -- a thread whose state has no goal gives way to those that it leads to
    pub IsUnderWay-on : (lists new : List (Vec ℕ)) (rest stack pushed : List Thread) (found : Option WayEnd)
        (t : Thread)
        → stack ≡ rest ++ t ∷ [] → IsUnderWay lists stack found → goal_of byte (node_at nfa t.sid) ≡ None
        → (looks ≡ false → pattern_of (node_at nfa t.sid) ≡ None)
        → LeadsBelow (length nfa.states) (node_at nfa t.sid) → Keeps lists new
        → GoesOn nfa looks lists new rest pushed t → IsUnderWay new pushed found
    IsUnderWay-on lists new rest stack pushed found t is h g unmatched leads keeps on = record {
      covers = λ r j ws w e. elim (h.covers r j ws w e) [
        | inl f ↦ inl record {
          it = f.it;
          is = f.is;
          goal = f.goal;
          slots = f.slots ∙ sym (keeps.same f.it.list (h.kept f.it f.is).0);
        }
        | inr v ↦ elim (In-append v.thread rest (t ∷ []) (subst (In v.thread) is v.among)) [
          | inl i ↦ inr (stays r ws v i)
          | inr i ↦ inr (goes r ws v (elim i [ inl same ↦ same | inr never ↦ absurd never ]) (λ at.
              elim (none-some j (sym g ∙ ap (λ (z : ℕ). goal_of byte (node_at nfa z)) at ∙ e)) [ ]))
        ]
      ];
      threads = λ u i. elim (In-append u rest (threads_at on.list (free_states looks (node_at nfa t.sid)))
          (subst (In u) on.are i)) [
            | inl j ↦
                let k = h.threads u (subst (In u) (sym is) (In-append_left u rest (t ∷ []) j)) in
                (k.0, (let l = keeps.longer in let m = k.1 in omega arith))
            | inr j ↦
                let m =
                In-mapped (λ (z : ℕ). record { sid = z; list = on.list }) u (free_states looks (node_at nfa t.sid)) j in
                subst (IsThread new) (sym m.2)
                (free-below looks (length nfa.states) (node_at nfa t.sid) leads m.0 m.1, on.inside)
          ];
      kept = λ it e. let k = h.kept it e in ((let l = keeps.longer in let m = k.0 in omega arith), k.1);
      comes = λ u i. elim (In-append u rest (threads_at on.list (free_states looks (node_at nfa t.sid)))
          (subst (In u) on.are i)) [
            | inl j ↦
                let old : In u stack = subst (In u) (sym is) (In-append_left u rest (t ∷ []) j) in
                subst (λ (l : List ℕ). Way nfa looks s l u.sid) (sym (keeps.same u.list (h.threads u old).1))
                (h.comes u old)
            | inr j ↦
                let m =
                In-mapped (λ (z : ℕ). record { sid = z; list = on.list }) u (free_states looks (node_at nfa t.sid)) j in
                let old : In t stack = subst (In t) (sym is) (In-append_right t rest (t ∷ []) (inl refl)) in
                subst (λ (w : Thread). Way nfa looks s (list_at new w.list) w.sid) (sym m.2)
                (subst (λ (l : List ℕ). Way nfa looks s l m.0) (sym on.after) (way-on m.0 (h.comes t old) m.1))
          ];
      has = λ it e.
          let w = h.has it e in record {
            last = w.last;
            way = subst (λ (l : List ℕ). Way nfa looks s l w.last) (sym (keeps.same it.list (h.kept it e).0)) w.way;
            has = w.has;
          };
      shut = λ plain b reads r j ws w m.
          let v = h.shut plain b reads r j ws w m in
          elim (In-append v.thread rest (t ∷ []) (subst (In v.thread) is v.among)) [
            | inl i ↦ stays r ws v i
            | inr i ↦ goes r ws v (elim i [ inl same ↦ same | inr never ↦ absurd never ]) (λ at.
                elim (none-some j (sym (unmatched plain) ∙ ap (λ (z : ℕ). pattern_of (node_at nfa z)) at ∙ m)) [ ])
          ];
    }
      where
        stays : (r : ℕ) (ws : List ℕ) → (v : IsWaiting lists stack r ws) → In v.thread rest
            → IsWaiting new pushed r ws
        stays r ws v i = record {
          thread = v.thread;
          among = subst (In v.thread) (sym on.are)
              (In-append_left v.thread rest (threads_at on.list (free_states looks (node_at nfa t.sid))) i);
          rest = v.rest;
          way = v.way;
          slots = v.slots ∙ ap (λ (l : List ℕ). l ++ v.rest)
              (sym (keeps.same v.thread.list (h.threads v.thread v.among).1));
        }

        goes : (r : ℕ) (ws : List ℕ) → (v : IsWaiting lists stack r ws) → v.thread ≡ t → (t.sid ≡ r → ⊥)
            → IsWaiting new pushed r ws
        goes r ws v same further =
            elim (way-cases v.way) [
              | inl last ↦ absurd (further (ap (λ (u : Thread). u.sid) (sym same) ∙ last.0))
              | inr more ↦
                  let among : In more.next (free_states looks (node_at nfa t.sid)) =
                  subst (λ (u : Thread). In more.next (free_states looks (node_at nfa u.sid))) same more.among in
                  record {
                    thread = record { sid = more.next; list = on.list };
                    among = subst (In (record { sid = more.next; list = on.list })) (sym on.are)
                        (In-append_right (record { sid = more.next; list = on.list }) rest
                        (threads_at on.list (free_states looks (node_at nfa t.sid)))
                        (In-map (λ (z : ℕ). record { sid = z; list = on.list }) more.next
                        (free_states looks (node_at nfa t.sid)) among));
                    rest = more.rest;
                    way = more.way;
                    slots = v.slots ∙ ap (λ (l : List ℕ). list_at lists v.thread.list ++ l) more.slots
                        ∙ ap (λ (u : Thread). list_at lists u.list ++ (written (node_at nfa u.sid) ++ more.rest)) same
                        ∙ sym (append_assoc (list_at lists t.list) (written (node_at nfa t.sid)) more.rest)
                        ∙ ap (λ (l : List ℕ). l ++ more.rest) (sym on.after);
                  }
            ]

    -- once no thread waits, what was found is the only way
    pub IsUnderWay-done : (lists : List (Vec ℕ)) (it : WayEnd) → IsUnderWay lists [] (Some it)
        → IsSure nfa looks s byte it.goal (list_at lists it.list)
    IsUnderWay-done lists it h = record {
      last = (h.has it refl).last;
      way = (h.has it refl).way;
      has = (h.has it refl).has;
      only = λ r k ws w g. elim (h.covers r k ws w g) [
        | inl f ↦
            let same = same_some it f.it f.is in (
              f.goal ∙ ap (λ (z : WayEnd). z.goal) (sym same),
              f.slots ∙ ap (λ (z : WayEnd). list_at lists z.list) (sym same),
            )
        | inr v ↦ absurd v.among
      ];
    }

    -- or none is there
    pub IsUnderWay-dead : (lists : List (Vec ℕ)) → IsUnderWay lists [] None → IsDead nfa looks s byte
    IsUnderWay-dead lists h = record {
      none = λ r k ws w g. elim (h.covers r k ws w g) [
        | inl f ↦ elim (none-some f.it f.is) [ ]
        | inr v ↦ absurd v.among
      ];
      shut = λ plain b reads r k ws w m. (h.shut plain b reads r k ws
          (subst (λ (z : Bool). Way nfa z s ws r) (sym plain) w) m).among;
    }

    -- the thread on top is one of the stack
    pub IsUnderWay-top : (lists : List (Vec ℕ)) (rest stack : List Thread) (found : Option WayEnd) (t : Thread)
        → stack ≡ rest ++ t ∷ [] → IsUnderWay lists stack found → IsThread lists t
    IsUnderWay-top lists rest stack found t is h =
        h.threads t (subst (In t) (sym is) (In-append_right t rest (t ∷ []) (inl refl)))

    -- the end, whether a way was found or not
    pub IsUnderWay-ends : (lists : List (Vec ℕ)) (found : Option WayEnd) → IsUnderWay lists [] found
        → IfSome found (IsReached nfa lists looks s byte)
    IsUnderWay-ends lists None h = tt
    IsUnderWay-ends lists (Some it) h = record {
      inside = (h.kept it refl).0;
      small = (h.kept it refl).1;
      sure = IsUnderWay-done lists it h;
      shut = λ plain b reads r k ws w m. (h.shut plain b reads r k ws
          (subst (λ (z : Bool). Way nfa z s ws r) (sym plain) w) m).among;
    }
