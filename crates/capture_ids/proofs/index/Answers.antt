use Rattle.capture_ids.proofs.Headers.{inputs_indexed, known_indexed, indexes_more}
use Rattle.capture_ids.proofs.index.Goals as goal

pub returns-in-Ended-clause-inputs_after : goal.returns-in-Ended-clause-inputs_after
returns-in-Ended-clause-inputs_after c = inputs_indexed _ _ _ c.loop-end.invariant _ c.in-Ended.ensures

pub returns-in-Ended-clause-known_after : goal.returns-in-Ended-clause-known_after
returns-in-Ended-clause-known_after c = known_indexed _ _ _ c.loop-end.invariant _ c.in-Ended.ensures

pub loop-end-preserved : goal.loop-end-preserved
loop-end-preserved c = indexes_more _ _ _ c.loop-end.invariant _ _ c.in-Next.ensures _ _ c.note.ensures.inputs_after c.note.ensures.known_after
