use Rattle.std.proofs.Common.{◌≡◌, ℕ, Bool, true, false, sym, ap, ap₂, ◌∙◌}
use Rattle.device.specs.declared.Stepped.{Stepped}
use Rattle.device.specs.Step.{step_of}
use Rattle.steps.specs.declared.Step.TheVariants.{Input}
use Rattle.lanes.proofs.LowestBit.{clear_less, put_lt}
use Rattle.capture_run.specs.Run.{step_one, driven_of}
use Rattle.capture_run.proofs.Inputs.{driven_next, driven_end}
use Rattle.capture_run.proofs.driven.Goals as goal

turn : (level : Bool) (now : Stepped) {k i : ℕ} {r : Stepped} → k ≡ i → r ≡ step_of now.device (Input k level) → r ≡ step_one true i level now
unfolding step_one
turn level now e p = p ∙ ap (λ (j : ℕ). step_of now.device (Input j level)) e

pub loop-left-smaller : goal.loop-left-smaller
loop-left-smaller c = rw c.clear_lowest-left.ensures (clear_less 64 c.loop-left.invariant.1 c.loop-left-test.true)

pub loop-left-preserved : goal.loop-left-preserved
loop-left-preserved c =
    let level = c.args.level in
    let l = c.loop-left in (
      ap₂ (λ (w : ℕ) (n : Stepped). driven_of w level n) c.clear_lowest-left.ensures (turn level l.now (c.from-source.ensures ∙ c.lowest.ensures) c.step-now.ensures)
          ∙ driven_next level l.now l.invariant.1 c.loop-left-test.true
          ∙ l.invariant.0,
      rw c.clear_lowest-left.ensures (put_lt 64 l.left _ false),
    )

pub returns : goal.returns
returns c = sym (driven_end c.args.level c.loop-left.now c.loop-left-test.false) ∙ c.loop-left.invariant.0
