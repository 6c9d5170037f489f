-- The kept states of a position, followed one after the other.
use Rattle.nfa_pikevm_scan.proofs.Common.{Active, All, All-cons, All-head, All-nil, All-tail, Automaton, Bool, ClosureContext, ClosureGives, ClosureOutput, ClosuresGive, ClosuresLeadTo, Explore, FollowEpsilon, Follows, Frontier, HasRoom, IsClosureContext, KeepsRoom, List, Load, Marks, MayCross, MayFollow, Moment, Parts, PatternID, Search, Slots, StatesGive, Task, Threads, [], ap, arith, between, drop, drop-drop, drop_all, drop_more, edges, false, get_or, held, items_of, length, length-drop, length-replicate, length-take, length-take-le, moment_of, moves, none, refl, search_of, sym, take, tasks, unmarked, work_onto, ℕ, ◌*◌, ◌++◌, ◌+◌, ◌<◌, ◌∙◌, ◌∷◌, ◌≡◌, ◌≤◌}
use Rattle.std.specs.Global.{Vec}
use Rattle.std.specs.Vec.{with_items}
use Rattle.std.proofs.Math.Nat.{mul-le-mul_right}
use Rattle.std.proofs.lemmas.Slice.{drop-put_mid}
use borrow.Rule.Slice.PartMut.{put_mid}
use Rattle.nfa_pikevm_scan.proofs.ClosureLemmas.{Follows-load, Follows-none, Follows-then, HasRoom-paid, moves-append}
use Rattle.nfa_pikevm_scan.proofs.FrontierLemmas.{Formed-none}
use Rattle.nfa_pikevm_scan.proofs.RowLemmas.{active_of, drop-items_of, length-items_of}
use Rattle.nfa_pikevm_scan.proofs.SinkLemmas.{Takes-then}

-- rows

-- the i-th item, and those after it, if the rows from the i-th on did not change
pub items-next : (width i n : ℕ) (kept : List ℕ) (cells rows : Slots) (k : ℕ) → i < length kept → k ≡ get_or kept i k
    → n ≡ width → drop (i * width) rows ≡ drop (i * width) cells
    → drop i (items_of width kept cells) ≡ (k, take n (drop (i * width) rows))
    ∷ drop (i + 1) (items_of width kept cells)
items-next width i n kept cells rows k h is wide same = grind (arith, drop-items_of, drop_more, drop-drop)

-- no item is after the last
pub items-over : (width i : ℕ) (kept : List ℕ) (cells : Slots) → length kept ≤ i
    → drop i (items_of width kept cells) ≡ []
items-over width i kept cells over = grind (arith, drop_all, length-items_of)

-- the only item
pub items-one : (width n : ℕ) (kept : List ℕ) (cells : Slots) (k : ℕ) → length kept ≡ 1 → k ≡ get_or kept 0 k
    → n ≡ width → items_of width kept cells ≡ (k, take n cells) ∷ []
items-one width n [] cells k one is wide = absurd (omega (arith, one))
items-one width n (s ∷ []) cells k one is wide = cc
items-one width n (s ∷ t ∷ kept) cells k one is wide = absurd (omega (arith, one))

-- the i-th row is within all rows
row-fits : (width i count cells : ℕ) → i < count → count * width ≤ cells → i * width + width ≤ cells
row-fits width i count cells h fits = grind (arith, mul-le-mul_right)

-- and has its width
pub row-long : (width i count n : ℕ) (rows cells : Slots) → i < count → count * width ≤ length cells
    → length rows ≡ length cells → n ≡ width → length (take n (drop (i * width) rows)) ≡ width
row-long width i count n rows cells h fits long wide =
    let inside = row-fits width i count (length cells) h fits in
    length-take-le n (drop (i * width) rows) (omega (arith, length-drop (i * width) rows)) ∙ wide

-- writing a row keeps those after it
pub rows-behind : (width i count n : ℕ) (cells rows row : Slots) → i < count → count * width ≤ length cells
    → length rows ≡ length cells → n ≡ width
    → length row ≡ length (take n (drop (i * width) rows)) → drop (i * width) rows ≡ drop (i * width) cells
    → drop ((i + 1) * width) (put_mid (i * width) n rows row) ≡ drop ((i + 1) * width) cells
rows-behind width i count n cells rows row h fits long wide whole same =
    let inside = row-fits width i count (length cells) h fits in
    let more : (i + 1) * width ≡ i * width + width = omega arith in
    drop-put_mid (i * width) n rows row ((i + 1) * width) (omega arith) (omega arith)
    (whole ∙ row-long width i count n rows cells h fits long wide ∙ sym wide)
    ∙ ap (λ k. drop k rows) more ∙ sym (drop-drop width (i * width) rows) ∙ ap (drop width) same
    ∙ drop-drop width (i * width) cells ∙ ap (λ k. drop k cells) (sym more)

-- each item's state is below `count`
states-below : (count width : ℕ) (states : List ℕ) (cells : Slots)
    → All (λ i. i.0 < count) (items_of width states cells) → All (λ s. s < count) states
states-below count width [] cells all = All-nil (λ s. s < count)
states-below count width (s ∷ states) cells all =
    All-cons (λ s. s < count) s states
    (All-head (λ (i : ℕ × Slots). i.0 < count) (s, take width cells) (items_of width states (drop width cells)) all)
    (states-below count width states (drop width cells)
    (All-tail (λ (i : ℕ × Slots). i.0 < count) (s, take width cells) (items_of width states (drop width cells)) all))

-- the states of a position may be followed if all marks were cleared
pub MayFollow-cleared : {here : ClosureContext} {states : List ℕ} {old : ClosureOutput} {frames width : ℕ} {t : Threads}
    → MayCross here.nfa.now (search_of here.input.now) here.at width t → IsClosureContext here → (wide : ℕ)
    (cells : Slots) → items_of wide states cells ≡ t.curr.items → old.seen ≡ unmarked t.reached.seen
    → old.next ≡ t.reached.next → frames ≡ length t.frames.items → MayFollow here states old frames width
MayFollow-cleared {here} {states} {old} {t = t} may context wide cells is seen next long =
    let none : old.next.items ≡ [] = rw next may.empty in
    let size = length-replicate (length t.reached.seen.bits) false in
    let room = may.room.room in
    record {
      context = context;
      below = states-below (length here.nfa.now.states) wide states cells (rw is may.states);
      room = grind (arith, seen, size, next, none, t.same_capacity, room);
      clear = rw (seen, size) refl;
      empty = none;
      width_is = sym (ap (λ (a : Active). a.width) next ∙ t.same_width ∙ may.room.width_is);
    }

-- each row has at most `width` slots
pub rows-within : (width : ℕ) (states : List ℕ) (cells : Slots)
    → All (λ i. length i.1 ≤ width) (items_of width states cells)
rows-within width [] cells = All-nil (λ (i : ℕ × Slots). length i.1 ≤ width)
rows-within width (s ∷ states) cells =
    grind (arith, All-cons, length-take, rows-within width states (drop width cells))

-- what is left to do

-- a state is followed, above those that wait
Follows-tasks : {nfa : Automaton} {x : Search} {at : ℕ} {m n : Marks} {f g : Frontier} {s : ℕ} {row written : Slots}
    (stack : List FollowEpsilon) → ((old : Slots) (work : List Task)
    → Follows nfa x at m f (Explore (s, at) ∷ Load old ∷ work) row n g (work_onto at stack (Load old ∷ work)) written)
    → (items : List (ℕ × Slots)) (old : Slots) (waiting : List Task)
    → Follows nfa x at m f (Explore (s, at) ∷ tasks at items (Load old ∷ waiting)) row n g
    (work_onto at stack (tasks at items (Load old ∷ waiting))) written
Follows-tasks stack follows [] old waiting = follows old waiting
Follows-tasks {at = at} stack follows (i ∷ items) old waiting =
    follows i.1 (Explore (i.0, at) ∷ tasks at items (Load old ∷ waiting))

module _ {V : Type 0} {nfa : Automaton} {x : Search} {takes : V → PatternID → Slots → Bool → V → Type 0} {at : ℕ}
    {begun : Moment} {old : V} where
  -- all are left
  pub Closures-begin : {met : Marks} {kept : List (ℕ × Slots)} → kept ≡ [] → met ≡ unmarked begun.met
      → ClosuresLeadTo nfa x takes at begun old false begun.kept (record begun { met = met; kept = kept }) old
  Closures-begin empty clear = rw (empty, clear) (record {
    front = [];
    gives = record {
      added = refl;
      formed = Formed-none nfa at (unmarked begun.met).bits;
      paid = grind arith;
      leads = λ current below waiting.
          let work = tasks at begun.kept (Load below ∷ waiting) in
          record {
            left = work;
            written = current;
            follows = Follows-none nfa x at (unmarked begun.met) [] work current;
            whole = λ _. refl;
          };
    };
    takes_all = none;
  })

  -- the next one is followed
  pub Closures-next : {left rest : List (ℕ × Slots)} {b then : Moment} {mid new : V} {k : ℕ} {row : Slots}
      {ended : Bool} → left ≡ (k, row) ∷ rest → ClosuresLeadTo nfa x takes at begun old false left b mid
      → ClosureGives nfa x takes at k (between b.met b.kept row) mid ended then new
      → ClosuresLeadTo nfa x takes at begun old ended rest then new
  Closures-next {rest = rest} {b} {row = row} next c a =
      let g = a.gives in
      let one_less = ap length next in
      record {
        front = c.front ++ g.front;
        gives = record {
          added =
              g.added ∙ ap (λ l. l ++ moves (edges nfa x) g.front) c.gives.added
              ∙ sym (moves-append (edges nfa x) c.front g.front);
          formed = g.formed c.front c.gives.formed;
          paid = grind (arith, c.gives.paid, g.paid);
          leads = λ current below waiting.
              let l = c.gives.leads current below waiting in
              record {
                left = work_onto at a.stack (tasks at rest (Load below ∷ waiting));
                written = a.slots;
                follows =
                    Follows-then nfa x at (rw (l.whole refl, next) at l.follows)
                    (Follows-then nfa x at (Follows-load nfa x at b.met c.front _ l.written row)
                    (Follows-tasks a.stack (g.follows c.front) rest below waiting));
                whole = λ on. rw (a.whole on) refl;
              };
        };
        takes_all = Takes-then c.takes_all g.holds;
      }

-- the only state of a position gives what the position gives
pub ClosuresGive-one : {V : Type 0} {nfa : Automaton} {x : Search} {takes : V → PatternID → Slots → Bool → V → Type 0}
    {at : ℕ} {begun : Moment} {old : V} {met : Marks} {kept : List (ℕ × Slots)} {k : ℕ} {row : Slots} {ended : Bool}
    {then : Moment} {new : V} → kept ≡ [] → met ≡ unmarked begun.met → begun.kept ≡ (k, row) ∷ []
    → ClosureGives nfa x takes at k (between met kept row) old ended then new
    → ClosuresGive nfa x takes at begun old then new
ClosuresGive-one {ended = ended} empty clear one a = record {
  ended = ended;
  left = [];
  leads = Closures-next one (Closures-begin empty clear) a;
  whole = λ _. refl;
}

-- the marks of a position are cleared before its states are followed
module _ {nfa : Automaton} {x : Search} {at : ℕ} where
  StatesGive-marked : {a b new : Moment} {goes : Type 0} {left : List (ℕ × Slots)} {front : Frontier}
      → unmarked a.met ≡ unmarked b.met → a.kept ≡ b.kept → StatesGive nfa x at a goes left front new
      → StatesGive nfa x at b goes left front new
  StatesGive-marked marks kept g = record {
    added = g.added;
    formed = g.formed;
    paid = rw (← marks, ← kept) g.paid;
    leads = λ current below waiting. rw (← marks, ← kept) (g.leads current below waiting);
  }

  pub ClosuresGive-cleared : {V : Type 0} {takes : V → PatternID → Slots → Bool → V → Type 0} {width : ℕ} {met : Marks}
      {old new : V} {then : Moment} (wide : ℕ) (states : List ℕ) (cells : Slots) (t : Threads)
      → met ≡ unmarked t.reached.seen → wide ≡ width → items_of wide states cells ≡ t.curr.items
      → ClosuresGive nfa x takes at (between met (items_of width states cells) []) old then new
      → ClosuresGive nfa x takes at (held t []) old then new
  ClosuresGive-cleared wide states cells t seen same is g =
      let twice : unmarked (unmarked t.reached.seen) ≡ unmarked t.reached.seen =
      rw (length-replicate (length t.reached.seen.bits) false) refl in
      record {
        ended = g.ended;
        left = g.left;
        leads = record {
          front = g.leads.front;
          gives = StatesGive-marked (rw seen twice) (rw (← same) is) g.leads.gives;
          takes_all = g.leads.takes_all;
        };
        whole = g.whole;
      }

-- slots that were written into a vector keep its length
length-written : {X : Type 0} (v : Vec X) (ws : List X) → length (with_items v ws).items ≡ length v.items
length-written v ws = sym (with_items v ws).ok.0 ∙ v.ok.0

-- the threads after the states in the parts `p` were followed, which wrote `rows`
module _ (t : Threads) (p : Parts) (view : active_of p.width p.kept.items p.rows.items p.len ≡ t.curr) (rows : Slots)
  where
    pub width-followed : p.width ≡ t.curr.width
    width-followed = ap (λ (a : Active). a.width) view

    pub cells-followed : length (with_items p.rows rows).items ≡ t.curr.cells
    cells-followed = length-written p.rows rows ∙ ap (λ (a : Active). a.cells) view

    pub inside-followed : (p.len ≤ length p.kept.items) × (length p.kept.items * p.width ≤ length p.rows.items)
        → (p.len ≤ length p.kept.items) × (length p.kept.items * p.width ≤ length (with_items p.rows rows).items)
    inside-followed inside = (inside.0, rw (length-written p.rows rows) inside.1)

    module _ {met : Marks} {new : ClosureOutput} (keeps : KeepsRoom (record { seen = met; next = t.reached.next }) new)
      where
        pub capacity-next : new.next.capacity ≡ length p.kept.items
        capacity-next =
            ap (λ (a : Active). a.capacity) keeps.same ∙ t.same_capacity ∙ sym (ap (λ (a : Active). a.capacity) view)

        pub cells-next : new.next.cells ≡ length (with_items p.rows rows).items
        cells-next = ap (λ (a : Active). a.cells) keeps.same ∙ t.same_cells ∙ sym cells-followed

        pub width-next : new.next.width ≡ p.width
        width-next = ap (λ (a : Active). a.width) keeps.same ∙ t.same_width ∙ sym width-followed

        pub marks-followed : met ≡ unmarked t.reached.seen → length new.seen.bits ≡ length t.reached.seen.bits
        marks-followed cleared =
            keeps.size ∙ ap (λ (m : Marks). length m.bits) cleared ∙ length-replicate (length t.reached.seen.bits) false

        pub frames-followed : (frames : List FollowEpsilon)
            → length (with_items t.frames frames).items ≡ length t.frames.items
        frames-followed frames = length-written t.frames frames

-- there is room for what the next state leads to
pub HasRoom-next : {V : Type 0} {here : ClosureContext} {x : Search} {takes : V → PatternID → Slots → Bool → V → Type 0}
    {at : ℕ} {states : List ℕ} {old new : ClosureOutput} {frames width f : ℕ} {items left : List (ℕ × Slots)} {v w : V}
    → MayFollow here states old frames width → KeepsRoom old new → f ≡ frames
    → ClosuresLeadTo here.nfa.now x takes at (between old.seen items []) v false left (moment_of new [] []) w
    → HasRoom here.nfa.now new 0 f
HasRoom-next may keeps same c = grind (arith, HasRoom-paid)
