use Rattle.std.proofs.Common.{◌+◌, drop, sym, ap, ◌∙◌}
use Rattle.capture_forms.specs.Forms.{scan_of}
use Rattle.capture_forms.proofs.Forms.{scan_more, scan_end}
use Rattle.capture_forms.proofs.scan.Goals as goal

pub loop-c-preserved : goal.loop-c-preserved
loop-c-preserved c =
    ap (λ x. scan_of x (drop (c.loop-c.c-index + 1) c.rest-left.result.now)) c.next-at.ensures ∙ sym (scan_more c.loop-c.at c.rest-left.result.now c.loop-c.c-index c.loop-c-test.true) ∙ c.loop-c.invariant

pub returns : goal.returns
returns c = sym (scan_end c.loop-c.at c.rest-left.result.now c.loop-c.c-index c.loop-c-test.false) ∙ c.loop-c.invariant
