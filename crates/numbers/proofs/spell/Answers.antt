use Rattle.std.proofs.Common.{◌≡◌, suc, ◌-◌, ◌∷◌, ◌++◌, set, replicate, sym, ap, ◌∙◌, arith}
use Rattle.numbers.specs.Printed.{digits_of, ended}
use Rattle.numbers.proofs.Printed.{digits_one, before_text, more_places, fewer_places, stored, ended_at}
use Rattle.numbers.proofs.spell.Goals as goal

pub overflow_sub-start : goal.overflow_sub-start
overflow_sub-start c = more_places c.args.base c.loop-rest.rest c.loop-rest.start c.loop-rest-test.true c.loop-rest.invariant.0

pub loop-rest-smaller : goal.loop-rest-smaller
loop-rest-smaller c =
    let h = more_places c.args.base c.loop-rest.rest c.loop-rest.start c.loop-rest-test.true c.loop-rest.invariant.0 in
    omega arith

pub loop-rest-preserved : goal.loop-rest-preserved
loop-rest-preserved c =
    let l = c.loop-rest in
    let h = more_places c.args.base l.rest l.start c.loop-rest-test.true l.invariant.0 in
    let e : suc (l.start - 1) ≡ l.start = omega arith in
    let t = l.invariant.1.0 in (
      rw e (fewer_places c.args.base l.rest l.start (omega arith) l.invariant.0),
      (
        c.glyph.result ∷ t,
        ap (λ b. set b l.start c.glyph.result) l.invariant.1.1 ∙ stored l.start c.glyph.result t ∙ ap (λ k. replicate k 0 ++ (c.glyph.result ∷ t)) (sym e),
        omega arith,
        before_text c.args.base l.rest c.glyph.result t (omega arith) c.loop-rest-test.true c.glyph.ensures ∙ l.invariant.1.3,
      ),
    )

pub returns : goal.returns
returns c =
    let l = c.loop-rest in
    let t = l.invariant.1.0 in
    let g = c.glyph-2.result in
    let e : g ∷ t ≡ digits_of c.args.base c.args.n = ap (λ x. x ∷ t) c.glyph-2.ensures ∙ ap (λ s. s ++ t) (sym (digits_one c.args.base l.rest c.loop-rest-test.false)) ∙ l.invariant.1.3 in
    ended_at _ (g ∷ t) (ap (λ b. set b l.start g) l.invariant.1.1 ∙ stored l.start g t) (omega arith) ∙ ap ended e
