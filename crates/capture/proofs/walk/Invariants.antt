use Rattle.std.proofs.Common.{ℕ, ◌-◌, List, length}
use Rattle.capture_tokens.specs.Tokens.{tokens_from}
use Rattle.capture_ids.specs.Table.{look_in}
use Rattle.capture_commands.specs.Commands.{state_start}
use Rattle.capture_times.specs.Times.{times_start}
use Rattle.capture.specs.declared.Walked.{Walked}
use Rattle.capture.specs.Private.{Walks}
use Rattle.capture.proofs.walk.Given as goal

-- Whatever the rest of the work answers, from the states, the pen and the buffer here, the whole work answers.
abbrev pub invariant-loop-span : goal.invariant-loop-span
invariant-loop-span l =
    (r : Walked) (after : List ℕ)
    → Walks (look_in l.ids.text.now l.ids.inputs.now l.ids.known.now) (tokens_from l.ids.text.now l.at) l.state l.time l.now l.out l.write l.pen r after
    → Walks (look_in l.ids.text.now l.ids.inputs.now l.ids.known.now) (tokens_from l.ids.text.now l.from) state_start times_start l.fn.first l.fn.out l.write l.fn.pen r after

abbrev pub decreases-loop-span : goal.decreases-loop-span
decreases-loop-span l = length l.ids.text.now - l.at
