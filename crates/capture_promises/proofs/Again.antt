-- A dump that is replayed where its lines are wired so is dumped again as it is.
use Prim.Native.Nat.{ℕ, zero, suc, ◌<◌}
use mathlib.Core.Path.{◌≡◌, refl, sym, ap, ap₂, ◌∙◌}
use mathlib.Core.Bool.{Bool, true, false, cond, ◌||◌}
use mathlib.Core.List.{List, [], ◌∷◌, ◌++◌, append-nil, append_assoc}
use native.Mathlib.Omega.{arith}
use borrow.Author.Tests.{lt-ltb, ltb-true}
use borrow.Table.Steps.{cases}
use lib.Dec.{ltb}
use Rattle.bits.specs.Bits.{bit}
use Rattle.access.specs.declared.Refusal.{Refusal}
use Rattle.access.specs.Refusal.{first_of}
use Rattle.admission.specs.Refusals.{input_refusals}
use Rattle.cores.specs.Core.{line_of}
use Rattle.tree.specs.declared.Change.TheVariants as change
use Rattle.device.specs.declared.Device.{Device}
use Rattle.device.specs.declared.Stepped.{Stepped}
use Rattle.device.specs.Device.{answered_of}
use Rattle.device.specs.Step.{next_of, step_of}
use Rattle.steps.specs.Decide.{decide_of, input_plan, planned}
use Rattle.steps.specs.declared.Plan.TheVariants.{ChangeTree}
use Rattle.steps.specs.declared.Step.TheVariants.{Input}
use Rattle.capture_ids.proofs.Bools.{never}
use Rattle.capture_commands.specs.declared.Event.{Event}
use Rattle.capture_commands.specs.declared.Event.TheVariants.{Nothing, Mark, Change}
use Rattle.capture_dump.specs.declared.Lines.{Lines}
use Rattle.capture_dump.specs.declared.Time.{Time}
use Rattle.capture_dump.specs.Dump.{differs, some_differs, mark_text, end_text}
use Rattle.std.specs.Prelude.{Option, Some, None, Result, Ok, Err, ⊤}
use Rattle.capture_times.specs.Times.{ended_at, ended_of, new_time, marked_of, times_of}
use Rattle.capture_run.specs.Run.{step_one, driven_from, begin_of, acted_of, lines_of, last_of, dump_from}
use Rattle.capture_promises.specs.Promises.{inputs0to3, line_events, lines_events, mark_events, shown_from, level_of, lines, Follows}

-- ---- input steps leave the IPI lines

cores_stay : (d : Device) (i : ℕ) (level : Bool) → ((step_of d (Input i level)).device.core0 ≡ d.core0) × ((step_of d (Input i level)).device.core1 ≡ d.core1)
unfolding step_of answered_of decide_of input_plan next_of
cores_stay d i level = by (first_of (input_refusals i))
  where
    by : (v : Result ⊤ Refusal) → ((next_of d (planned v (ChangeTree (change.Input level i)))).core0 ≡ d.core0) × ((next_of d (planned v (ChangeTree (change.Input level i)))).core1 ≡ d.core1)
    by (Ok u) = (refl, refl)
    by (Err reason) = (refl, refl)

-- What an answer shows is what the cores give.
pub record Ipi (a b : Bool) (now : Stepped) : Type 0 where
  pub shown0 : now.answer.ipi0 ≡ a
  pub shown1 : now.answer.ipi1 ≡ b
  pub core0 : line_of now.device.core0 ≡ a
  pub core1 : line_of now.device.core1 ≡ b

module _ {a b : Bool} where
  one_ipi : (on : Bool) (i : ℕ) (level : Bool) (now : Stepped) → Ipi a b now → Ipi a b (step_one on i level now)
  unfolding step_one step_of answered_of
  one_ipi true i level now k =
      let c = cores_stay now.device i level in
      let p = ap line_of c.0 ∙ k.core0 in
      let q = ap line_of c.1 ∙ k.core1 in
      record { shown0 = p; shown1 = q; core0 = p; core1 = q }
  one_ipi false i level now k = k

  pub driven_ipi : (n i : ℕ) (f : ℕ → Bool) (level : Bool) (now : Stepped) → Ipi a b now → Ipi a b (driven_from i n f level now)
  unfolding driven_from
  driven_ipi zero i f level now k = k
  driven_ipi (suc n) i f level now k = driven_ipi n (suc i) f level (step_one (f i) i level now) (one_ipi (f i) i level now k)

  acted_ipi : (e : Event) (now : Stepped) → Ipi a b now → Ipi a b (acted_of e now)
  unfolding acted_of
  acted_ipi Nothing now k = k
  acted_ipi (Mark n) now k = k
  acted_ipi (Change inputs level) now k = driven_ipi 64 0 (bit inputs) level now k

pub begin_ipi : (d : Device) → Ipi (lines_of (begin_of d)).ipi0 (lines_of (begin_of d)).ipi1 (begin_of d)
unfolding answered_of
begin_ipi d =
    let k = driven_ipi {a = line_of d.core0} {b = line_of d.core1} 64 0 (bit 0xffffffffffffffff) false (answered_of d (Ok 0) 0) (record { shown0 = refl; shown1 = refl; core0 = refl; core1 = refl }) in
    record { shown0 = refl; shown1 = refl; core0 = k.core0 ∙ sym k.shown0; core1 = k.core1 ∙ sym k.shown1 }

-- ---- events in a row

last_more : (es fs : List Event) (now : Stepped) → last_of (es ++ fs) now ≡ last_of fs (last_of es now)
unfolding last_of
last_more [] fs now = refl
last_more (e ∷ es) fs now = last_more es fs (acted_of e now)

module _ (i : ℕ) where
  level_more : (l : Bool) (es fs : List Event) → level_of i l (es ++ fs) ≡ level_of i (level_of i l es) fs
  unfolding level_of
  level_more l [] fs = refl
  level_more l (Nothing ∷ es) fs = level_more l es fs
  level_more l (Mark n ∷ es) fs = level_more l es fs
  level_more l (Change inputs level ∷ es) fs = level_more (cond (bit inputs i) level l) es fs

  -- A line that is wired to the input, and one that is not.
  own : (w : ℕ) → bit w i ≡ true → (l s now : Bool) → level_of i l (line_events s now w) ≡ cond s now l
  unfolding level_of line_events
  own w e l true now = rw e
  own w e l false now = refl

  other : (w : ℕ) → bit w i ≡ false → (l s now : Bool) → level_of i l (line_events s now w) ≡ l
  unfolding level_of line_events
  other w e l true now = rw e
  other w e l false now = refl

-- Events that add nothing to a dump.
abbrev Silent : List Event → Type 0
Silent es = (rest : List Event) (u : Option Time) (now : Stepped) → dump_from (es ++ rest) u now ≡ dump_from rest u (last_of es now)

line_silent : (s on : Bool) (w : ℕ) → Silent (line_events s on w)
unfolding line_events dump_from end_text ended_of times_of last_of
line_silent true on w rest u now = refl
line_silent false on w rest u now = refl

silent_more : (es fs : List Event) → Silent es → Silent fs → Silent (es ++ fs)
silent_more es fs x y rest u now =
    ap (λ (l : List Event). dump_from l u now) (append_assoc es fs rest)
    ∙ x (fs ++ rest) u now
    ∙ y rest u (last_of es now)
    ∙ ap (dump_from rest u) (sym (last_more es fs now))

module _ (first : Bool) (before now : Lines) where
  abbrev da : Bool
  da = differs first before.ipi0 now.ipi0

  abbrev db : Bool
  db = differs first before.ipi1 now.ipi1

  abbrev dc : Bool
  dc = differs first before.br0 now.br0

  abbrev dd : Bool
  dd = differs first before.br1 now.br1

  abbrev la : List Event
  la = line_events da now.ipi0 1

  abbrev lb : List Event
  lb = line_events db now.ipi1 2

  abbrev lc : List Event
  lc = line_events dc now.br0 4

  abbrev ld : List Event
  ld = line_events dd now.br1 8

  abbrev changes : List Event
  changes = lines_events inputs0to3 first before now

  lines_silent : Silent changes
  lines_silent =
      silent_more la (lb ++ (lc ++ ld)) (line_silent da now.ipi0 1)
      (silent_more lb (lc ++ ld) (line_silent db now.ipi1 2) (silent_more lc ld (line_silent dc now.br0 4) (line_silent dd now.br1 8)))

  level_of_four : (i : ℕ) (l : Bool) → level_of i l changes ≡ level_of i (level_of i (level_of i (level_of i l la) lb) lc) ld
  level_of_four i l = level_more i l la (lb ++ (lc ++ ld)) ∙ level_more i (level_of i l la) lb (lc ++ ld) ∙ level_more i (level_of i (level_of i l la) lb) lc ld

  level_2 : (l : Bool) → level_of 2 l changes ≡ cond dc now.br0 l
  unfolding bit
  level_2 l =
      level_of_four 2 l
      ∙ other 2 8 refl (level_of 2 (level_of 2 (level_of 2 l la) lb) lc) dd now.br1
      ∙ own 2 4 refl (level_of 2 (level_of 2 l la) lb) dc now.br0
      ∙ ap (cond dc now.br0) (other 2 2 refl (level_of 2 l la) db now.ipi1 ∙ other 2 1 refl l da now.ipi0)

  level_3 : (l : Bool) → level_of 3 l changes ≡ cond dd now.br1 l
  unfolding bit
  level_3 l =
      level_of_four 3 l
      ∙ own 3 8 refl (level_of 3 (level_of 3 (level_of 3 l la) lb) lc) dd now.br1
      ∙ ap (cond dd now.br1) (other 3 4 refl (level_of 3 (level_of 3 l la) lb) dc now.br0 ∙ other 3 2 refl (level_of 3 l la) db now.ipi1 ∙ other 3 1 refl l da now.ipi0)

-- ---- lines that differ, and lines that do not

-- A line that is held where it does not differ.
settles : (first before now held : Bool) → (first ≡ false → held ≡ before) → cond (differs first before now) now held ≡ now
unfolding differs
settles true before now held q = refl
settles false true true held q = q refl
settles false true false held q = refl
settles false false true held q = refl
settles false false false held q = q refl

same_line : (before now : Bool) → differs false before now ≡ false → before ≡ now
unfolding differs
same_line true true e = refl
same_line true false e = absurd (never (sym e))
same_line false true e = absurd (never (sym e))
same_line false false e = refl

neither : (x y : Bool) → (x || y) ≡ false → (x ≡ false) × (y ≡ false)
neither true y e = absurd (never (sym e))
neither false y e = (refl, e)

pub ap_lines : {a b c d e f g h : Bool} → a ≡ e → b ≡ f → c ≡ g → d ≡ h → lines a b c d ≡ lines e f g h
ap_lines p q r s = λ i. lines (p i) (q i) (r i) (s i)

same_lines : (before now : Lines) → some_differs false before now ≡ false → before ≡ now
unfolding some_differs
same_lines before now e =
    let p = neither (differs false before.ipi0 now.ipi0) _ e in
    let q = neither (differs false before.ipi1 now.ipi1) _ p.1 in
    let r = neither (differs false before.br0 now.br0) _ q.1 in
    ap_lines (same_line before.ipi0 now.ipi0 p.0) (same_line before.ipi1 now.ipi1 q.0) (same_line before.br0 now.br0 r.0) (same_line before.br1 now.br1 r.1)

-- All lines are shown at the end of the first time, whatever stood before.
abbrev time : ℕ → Bool → Lines → Time
time n first before = record { time = n; first = first; before = before }

mark_same : (n : ℕ) (first : Bool) (before held now : Lines) → (first ≡ false → held ≡ before) → mark_text (time n first held) now ≡ mark_text (time n first before) now
unfolding mark_text some_differs differs
mark_same n true before held now q = refl
mark_same n false before held now q = ap (λ (l : Lines). mark_text (time n false l) now) (q refl)

mark_none : (t : Time) (now : Lines) → some_differs t.first t.before now ≡ false → mark_text t now ≡ []
unfolding mark_text
mark_none t now e = rw e

-- ---- the second run behind the first

-- The first run has the time t under way. The second has that of the last mark that was shown, u, if one was, and holds the lines as they stood at its end.
abbrev Later : Time → Option Time → Lines → Type 0
Later t None held = ⊥
Later t (Some u) held = (held ≡ t.before) × (u.time < t.time)

pub record BehindAt (t : Time) (u : Option Time) (held : Lines) : Type 0 where
  pub fresh : t.first ≡ true → u ≡ None
  pub later : t.first ≡ false → Later t u held

abbrev pub Behind : Option Time → Option Time → Lines → Type 0
Behind None u held = u ≡ None
Behind (Some t) u held = BehindAt t u held

some_none : {u : Time} → Some u ≡ None → ⊥
some_none q = let z : ⊥ = cc in z

-- The next mark that is shown ends the time under way, if there is one.
ends_same : (t : Time) (u : Option Time) (held : Lines) → BehindAt t u held → ended_of u (Mark t.time) ≡ u
unfolding ended_of ended_at
ends_same t None held i = refl
ends_same t (Some u) held i = cases t.first (λ e. absurd (some_none (i.fresh e))) (λ e. rw (lt-ltb u.time t.time (i.later e).1))

times_same : (t : Time) (u : Option Time) (held : Lines) → BehindAt t u held → times_of u held (Mark t.time) ≡ Some (new_time t.time t.first held)
unfolding times_of marked_of
times_same t None held i = cases t.first (λ e. rw e) (λ e. absurd (i.later e))
times_same t (Some u) held i = cases t.first (λ e. absurd (some_none (i.fresh e))) (λ e. rw (lt-ltb u.time t.time (i.later e).1, e))

-- The lines that are held are those at the end of the time before, if there was one.
held_before : (t : Time) (u : Option Time) (held : Lines) → BehindAt t u held → t.first ≡ false → held ≡ t.before
held_before t None held i e = absurd (i.later e)
held_before t (Some u) held i e = (i.later e).0

-- A time that ends and is shown; one that ends and is not.
behind_shown : (t : Time) (held now : Lines) (n : ℕ) → t.time < n → BehindAt (new_time n false now) (Some (new_time t.time t.first held)) now
behind_shown t held now n h = record { fresh = λ q. absurd (never q); later = λ q. (refl, h) }

behind_kept : (t : Time) (u : Option Time) (held now : Lines) (n : ℕ) → t.time < n → some_differs t.first t.before now ≡ false → BehindAt t u held → BehindAt (new_time n false now) u held
unfolding some_differs differs
behind_kept t u held now n h s i = cases t.first (λ e. absurd (never (sym (rw e at s)))) (λ e. record { fresh = λ q. absurd (never q); later = λ q. by u (rw e at s) (i.later e) })
  where
    by : (u : Option Time) → some_differs false t.before now ≡ false → Later t u held → Later (new_time n false now) u held
    by None s k = k
    by (Some u) s k = (k.0 ∙ same_lines t.before now s, omega arith)

-- ---- the two dumps

module _ (dev : Device) {a b : Bool} (f : Follows dev a b) where
  -- The second run after some events.
  abbrev at : List Event → Stepped
  at hist = last_of hist (begin_of dev)

  abbrev held : List Event → Lines
  held hist = lines_of (at hist)

  -- What is still to be written of it.
  abbrev pending : Option Time → List Event → List ℕ
  pending u hist = end_text u (held hist)

  module _ (t : Time) (u : Option Time) (hist : List Event) (i : BehindAt t u (held hist)) (now : Lines) (ia : now.ipi0 ≡ a) (ib : now.ipi1 ≡ b) where
    abbrev mark : List Event
    mark = Mark t.time ∷ changes t.first t.before now

    abbrev next : Option Time
    next = Some (new_time t.time t.first (held hist))

    before_held : t.first ≡ false → held hist ≡ t.before
    before_held = held_before t u (held hist) i

    -- After the changes of a mark the lines stand as they stood.
    lines_again : held (hist ++ mark) ≡ now
    unfolding level_of
    lines_again =
        f (hist ++ mark)
        ∙ ap_lines (sym ia) (sym ib)
        (level_more 2 false hist mark ∙ level_2 t.first t.before now (level_of 2 false hist) ∙ settles t.first t.before.br0 now.br0 (level_of 2 false hist) (λ e. sym (ap (λ (l : Lines). l.br0) (f hist)) ∙ ap (λ (l : Lines). l.br0) (before_held e)))
        (level_more 3 false hist mark ∙ level_3 t.first t.before now (level_of 3 false hist) ∙ settles t.first t.before.br1 now.br1 (level_of 3 false hist) (λ e. sym (ap (λ (l : Lines). l.br1) (f hist)) ∙ ap (λ (l : Lines). l.br1) (before_held e)))

    -- Its text is the same.
    text_again : pending next (hist ++ mark) ≡ mark_text t now
    unfolding end_text
    text_again =
        ap (mark_text (time t.time t.first (held hist))) lines_again
        ∙ mark_same t.time t.first t.before (held hist) now before_held

    -- A mark that is shown, then the rest.
    shown_again : (rest : List Event) → dump_from (mark ++ rest) u (at hist) ≡ pending u hist ++ dump_from rest next (at (hist ++ mark))
    unfolding dump_from acted_of last_of
    shown_again rest =
        ap₂ (λ (x v : Option Time). end_text x (held hist) ++ dump_from (changes t.first t.before now ++ rest) v (at hist)) (ends_same t u (held hist) i) (times_same t u (held hist) i)
        ∙ ap (λ (l : List ℕ). pending u hist ++ l)
        (lines_silent t.first t.before now rest next (at hist) ∙ ap (dump_from rest next) (sym (last_more hist mark (begin_of dev))))

    -- A time that ends, then the rest.
    end_again : (rest : List Event) (more : List ℕ)
        → (some_differs t.first t.before now ≡ true → dump_from rest next (at (hist ++ mark)) ≡ pending next (hist ++ mark) ++ more)
        → (some_differs t.first t.before now ≡ false → dump_from rest u (at hist) ≡ pending u hist ++ more)
        → dump_from (mark_events inputs0to3 (Some t) now ++ rest) u (at hist) ≡ pending u hist ++ (mark_text t now ++ more)
    unfolding mark_events
    end_again rest more x y =
        cases (some_differs t.first t.before now)
        (λ e. rw e (shown_again rest ∙ ap (λ (l : List ℕ). pending u hist ++ l) (x e ∙ ap (λ (l : List ℕ). l ++ more) text_again)))
        (λ e. rw (e, mark_none t now e) (y e))

  -- At the end of the file.
  again_end : (t : Option Time) (now : Stepped) (u : Option Time) (hist : List Event) → Ipi a b now → Behind t u (held hist)
      → dump_from (mark_events inputs0to3 t (lines_of now)) u (at hist) ≡ pending u hist ++ end_text t (lines_of now)
  unfolding dump_from mark_events end_text
  again_end None now u hist k i = sym (append-nil (pending u hist))
  again_end (Some t) now u hist k i =
      ap (λ (l : List Event). dump_from l u (at hist)) (sym (append-nil (mark_events inputs0to3 (Some t) (lines_of now))))
      ∙ end_again t u hist i (lines_of now) k.shown0 k.shown1 [] []
      (λ e. sym (append-nil (pending (Some (new_time t.time t.first (held hist))) (hist ++ mark t u hist i (lines_of now) k.shown0 k.shown1))))
      (λ e. sym (append-nil (pending u hist)))
      ∙ ap (λ (l : List ℕ). pending u hist ++ l) (append-nil (mark_text t (lines_of now)))

  pub again : (es : List Event) (t : Option Time) (now : Stepped) (u : Option Time) (hist : List Event) → Ipi a b now → Behind t u (held hist)
      → dump_from (shown_from inputs0to3 es t now) u (at hist) ≡ pending u hist ++ dump_from es t now
  unfolding dump_from shown_from mark_events end_text ended_of ended_at times_of marked_of acted_of
  again [] t now u hist k i = again_end t now u hist k i
  again (Nothing ∷ es) t now u hist k i = again es t now u hist k i
  again (Change inputs level ∷ es) t now u hist k i = again es t (acted_of (Change inputs level) now) u hist (acted_ipi (Change inputs level) now k) i
  again (Mark n ∷ es) None now u hist k i = again es (Some (new_time n true (lines_of now))) now u hist k (record { fresh = λ q. i; later = λ q. absurd (never (sym q)) })
  again (Mark n ∷ es) (Some t) now u hist k i = by (ltb t.time n) refl (again es)
    where
      then : Option Time
      then = Some (new_time n false (lines_of now))

      by : (c : Bool) → ltb t.time n ≡ c
          → ((t : Option Time) (now : Stepped) (u : Option Time) (hist : List Event) → Ipi a b now → Behind t u (held hist) → dump_from (shown_from inputs0to3 es t now) u (at hist) ≡ pending u hist ++ dump_from es t now)
          → dump_from (mark_events inputs0to3 (cond c (Some t) None) (lines_of now) ++ shown_from inputs0to3 es (Some (cond c (new_time n false (lines_of now)) t)) now) u (at hist)
          ≡ pending u hist ++ (end_text (cond c (Some t) None) (lines_of now) ++ dump_from es (Some (cond c (new_time n false (lines_of now)) t)) now)
      by false e more = more (Some t) now u hist k i
      by true e more =
          let h = ltb-true t.time n e in
          end_again t u hist i (lines_of now) k.shown0 k.shown1 (shown_from inputs0to3 es then now) (dump_from es then now)
          (λ s. more then now (Some (new_time t.time t.first (held hist))) (hist ++ mark t u hist i (lines_of now) k.shown0 k.shown1) k
          (rw (lines_again t u hist i (lines_of now) k.shown0 k.shown1) (behind_shown t (held hist) (lines_of now) n h)))
          (λ s. more then now u hist k (behind_kept t u (held hist) (lines_of now) n h s i))
