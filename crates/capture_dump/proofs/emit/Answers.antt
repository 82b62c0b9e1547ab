use Rattle.capture_dump.proofs.Pieces.{emit_none, emit_over, emit_measured, emit_put, above}
use Rattle.capture_dump.proofs.emit.Goals as goal

pub returns-in_err-at : goal.returns-in_err-at
returns-in_err-at c = rw (c.from_residual.ensures, c.in_err-at.was) (emit_none _ _ _)

pub returns-in_err-end : goal.returns-in_err-end
returns-in_err-end c = rw (c.from_residual-in_err-end.ensures, c.in_ok-at.was) (emit_over _ _ _ _ (above _ _ c.in_err-end.ensures))

pub returns-then-write : goal.returns-then-write
returns-then-write c = rw (c.in_ok-at.was, c.in_ok-end.ensures.1, c.if-write.true, c.put.ensures.bytes) (emit_put _ _ _ c.in_ok-end.ensures.0)

pub returns-else-write : goal.returns-else-write
returns-else-write c = rw (c.in_ok-at.was, c.in_ok-end.ensures.1, c.if-write.false) (emit_measured _ _ _ c.in_ok-end.ensures.0)
