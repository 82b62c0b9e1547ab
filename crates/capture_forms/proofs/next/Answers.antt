-- The table's rule is computed at its 425 entries.
use Rattle.std.proofs.Common.{◌≡◌, ℕ, ◌+◌, ◌*◌, ◌-◌, ◌/◌, ◌%◌, ◌<◌, ◌≤◌, true, List, [], refl, ap, ap₂, ◌∙◌, arith, rules}
use Rattle.std.specs.Prelude.{leb}
use borrow.Author.Tests.{leb-true}
use lib.ListN.{get_or-eq_default}
use Rattle.bits.proofs.Below.{agree_below}
use Rattle.capture_forms.specs.Forms.{Rule, class_of, rules as rows, pick, step_of, next_of}
use Rattle.capture_forms.proofs.Table.{entry}
use Rattle.capture_forms.proofs.next.Goals as goal

class_small : (c : ℕ) → c < 256 → class_of c ≤ 16
unfolding class_of
class_small c h = leb-true (class_of c) 16 (agree_below 256 (λ c. leb (class_of c) 16) (λ c. true) refl c h)

none : (state c : ℕ) → 24 < state → 0 ≡ next_of state c
unfolding next_of step_of rows pick
none state c h = rw (get_or-eq_default {A = List Rule} rows [] {n = state} (omega arith))

cell : ℕ → ℕ
cell k = step_of (k / 17) (k % 17)

at_cell : (state class : ℕ) → class ≤ 16 → 64 + cell (state * 17 + class) - 64 ≡ step_of state class
unfolding cell
at_cell state class h =
    let p : (state * 17 + class) / 17 ≡ state = omega arith in
    let q : (state * 17 + class) % 17 ≡ class = omega arith in
    omega (arith, ap₂ step_of p q)

small : (c class : ℕ) → c < 256 → class ≡ class_of c → class ≤ 16
small c class h e = omega (arith, class_small c h, e)

pub returns-then-state-gt24 : goal.returns-then-state-gt24
returns-then-state-gt24 c = none c.args.state c.args.c c.if-state-gt24.true

pub bounds-state : goal.bounds-state
bounds-state c = omega (arith, small c.args.c c.class.result (search rules) c.class.ensures)

pub overflow_sub-result : goal.overflow_sub-result
unfolding cell step_of rows pick
overflow_sub-result c =
    let s = small c.args.c c.class.result (search rules) c.class.ensures in
    let h : c.args.state * 17 + c.class.result < 425 = omega arith in
    rw (entry (λ k. 64 + cell k), h) (omega arith)

pub returns : goal.returns
unfolding cell next_of step_of rows pick
returns c =
    let s = small c.args.c c.class.result (search rules) c.class.ensures in
    let h : c.args.state * 17 + c.class.result < 425 = omega arith in
    rw (entry (λ k. 64 + cell k), h) (at_cell c.args.state c.class.result s ∙ ap (step_of c.args.state) c.class.ensures)
