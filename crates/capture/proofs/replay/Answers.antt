use Rattle.std.proofs.Common.{arith, sym, ◌∙◌, length}
use mathlib.Core.Logic.{⊎_elim}
use Rattle.capture_ids.proofs.Table.{table_look}
use Rattle.capture.proofs.Whole.{same_command, same_bad, replay_bad, replay_good, used_fits}
use Rattle.capture.proofs.replay.Goals as goal

pub overflow_add-result : goal.overflow_add-result
overflow_add-result c =
    let a = c.args in
    let n = c.index-headed in
    ⊎_elim (λ f. omega (arith, c.well_formed)) (λ z. omega (arith, c.ranges))
    (used_fits a.d a.s.now a.out.now a.used n.result n.ensures.value (sym (same_command n.result.head.field) ∙ sym c.eq.ensures ∙ c.if-eq.true) c.min-start.result c.min-start.ensures
    _ (λ x. table_look a.s.now x _ _ n.ensures.inputs_after n.ensures.known_after) _ n.ensures.at_value c.replay_rest-rest.result _ c.replay_rest-rest.ensures)

pub returns-then-eq : goal.returns-then-eq
returns-then-eq c =
    let a = c.args in
    let n = c.index-headed in
    let g = replay_good a.d a.s.now a.out.now a.used n.result n.ensures.value (sym (same_command n.result.head.field) ∙ sym c.eq.ensures ∙ c.if-eq.true) c.min-start.result c.min-start.ensures
    _ (λ x. table_look a.s.now x _ _ n.ensures.inputs_after n.ensures.known_after) _ n.ensures.at_value c.replay_rest-rest.result _ c.replay_rest-rest.ensures in
    record { value = g.0; out_after = g.1 }

pub returns-then-eq-2 : goal.returns-then-eq-2
returns-then-eq-2 c =
    let a = c.args in
    let n = c.index-headed in
    let f = n.result.head.field in
    let g = replay_bad a.d a.s.now a.out.now a.used n.result n.ensures.value (sym (same_command f) ∙ sym c.eq.ensures ∙ c.if-eq.false) n.result.head.place
    (rw (sym (same_bad f) ∙ sym c.eq-2.ensures ∙ c.if-eq-2.true)) in
    record { value = g.0; out_after = g.1 }

pub returns-else-eq-2 : goal.returns-else-eq-2
returns-else-eq-2 c =
    let a = c.args in
    let n = c.index-headed in
    let f = n.result.head.field in
    let g = replay_bad a.d a.s.now a.out.now a.used n.result n.ensures.value (sym (same_command f) ∙ sym c.eq.ensures ∙ c.if-eq.false) (length a.s.now)
    (rw (sym (same_bad f) ∙ sym c.eq-2.ensures ∙ c.if-eq-2.false)) in
    record { value = g.0; out_after = g.1 }
