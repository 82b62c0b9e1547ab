use Rattle.std.proofs.Common.{◌≡◌, drop}
use Rattle.capture_forms.specs.Forms.{scan_of}
use Rattle.capture_forms.proofs.scan.Given as goal

abbrev pub invariant-loop-c : goal.invariant-loop-c
invariant-loop-c l = scan_of l.at (drop l.c-index l.left) ≡ scan_of l.state (drop l.from l.t)
