use Rattle.std.proofs.Common.{◌≡◌, cond, length, sym, ap₂, ◌∙◌}
use Rattle.capture_commands.specs.Commands.{with_room, refused}
use Rattle.capture.proofs.Resting.{rests_refused, rests_done, accepted_err, accepted_ok}
use Rattle.capture.proofs.replay_rest.Goals as goal
use Rattle.capture.proofs.replay_rest.Goals.{then-refused, else-refused}

pub returns-then-is_err : goal.returns-then-is_err
returns-then-is_err c =
    let r = c.walk_all-tried in
    let n = length c.args.ids.text.now in
    let place : c.if-refused.place ≡ cond (refused r.result.state.mode) r.result.state.place n =
    elim c.if-refused.branch [ then-refused w ↦ rw (sym c.refused.ensures ∙ w.if-refused.true) w.place-is | else-refused w ↦ rw (sym c.refused.ensures ∙ w.if-refused.false) w.place-is ] in
    rests_refused _ _ _ c.args.d _ c.begin-first.result c.begin-first.ensures r.result _ r.ensures c.with_room-outcome.result
    (c.with_room-outcome.ensures ∙ ap₂ with_room c.judged.ensures c.is_some.ensures)
    c.if-refused.place place
    (accepted_err c.with_room-outcome.result (sym c.is_err.ensures.value ∙ c.if-is_err.true))

pub returns : goal.returns
returns c =
    let r = c.walk_all-tried in
    let n = length c.args.ids.text.now in
    let place : c.if-refused.place ≡ cond (refused r.result.state.mode) r.result.state.place n =
    elim c.if-refused.branch [ then-refused w ↦ rw (sym c.refused.ensures ∙ w.if-refused.true) w.place-is | else-refused w ↦ rw (sym c.refused.ensures ∙ w.if-refused.false) w.place-is ] in
    rests_done _ _ _ c.args.d _ c.begin-first.result c.begin-first.ensures r.result _ r.ensures c.with_room-outcome.result
    (c.with_room-outcome.ensures ∙ ap₂ with_room c.judged.ensures c.is_some.ensures)
    c.if-refused.place place
    (accepted_ok c.with_room-outcome.result (sym c.is_err.ensures.value ∙ c.if-is_err.false)) c.walk_all.result _ c.walk_all.ensures _ c.unwrap_or.ensures
