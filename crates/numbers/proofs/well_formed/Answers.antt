use Rattle.std.proofs.Common.{get_or, sym, ◌∙◌, ap, arith}
use Rattle.std.specs.Prelude.{is_some}
use Rattle.numbers.proofs.Numbers.{formed_digit, formed_separator, formed_other, formed_end}
use Rattle.numbers.proofs.Read.{is_digit, no_digit}
use Rattle.numbers.proofs.well_formed.Goals as goal
use Rattle.numbers.proofs.well_formed.Goals.{then-is_some, else-is_some+then-separates}

pub returns-else-separates : goal.returns-else-separates
returns-else-separates c =
    let d = no_digit c.args.base (get_or c.args.s.now c.loop-c.c-index 0) (ap is_some (sym c.digit.ensures) ∙ sym c.is_some.ensures ∙ c.if-is_some.false) in
    sym (formed_other c.args.base c.args.s.now c.loop-c.c-index c.loop-c.after c.loop-c-test.true d (sym c.separates.ensures ∙ c.if-separates.false)) ∙ c.loop-c.invariant

pub loop-c-preserved : goal.loop-c-preserved
loop-c-preserved c =
    elim c.if-is_some.branch [
      | then-is_some w ↦
          let d = is_digit c.args.base (get_or c.args.s.now c.loop-c.c-index 0) (ap is_some (sym c.digit.ensures) ∙ sym c.is_some.ensures ∙ w.if-is_some.true) in
          rw w.after-is (sym (formed_digit c.args.base c.args.s.now c.loop-c.c-index c.loop-c.after c.loop-c-test.true d) ∙ c.loop-c.invariant)
      | else-is_some+then-separates w ↦
          let d = no_digit c.args.base (get_or c.args.s.now c.loop-c.c-index 0) (ap is_some (sym c.digit.ensures) ∙ sym c.is_some.ensures ∙ w.if-is_some.false) in
          rw w.after-is (sym (formed_separator c.args.base c.args.s.now c.loop-c.c-index c.loop-c.after c.loop-c-test.true d (sym w.separates.ensures ∙ w.if-separates.true)) ∙ c.loop-c.invariant)
    ]

pub returns : goal.returns
returns c = sym (formed_end c.args.base c.args.s.now c.loop-c.c-index c.loop-c.after (omega arith)) ∙ c.loop-c.invariant
