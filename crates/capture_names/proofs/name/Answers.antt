use Rattle.std.proofs.Common.{◌≡◌, ℕ, Option, length, ap, ◌∙◌}
use Rattle.std.specs.Option.{unwrap_or}
use borrow.Author.Tests.{ne_eqb}
use Rattle.capture_names.specs.Names.{before, name_of}
use Rattle.capture_names.proofs.Before.{begins, placed}
use Rattle.capture_names.proofs.name.Goals as goal

pub returns-then-first-eq92 : goal.returns-then-first-eq92
unfolding name_of
returns-then-first-eq92 c = rw (c.behind.ensures, ← c.first.ensures, c.if-first-eq92.true)

pub slice_bounds-result-end : goal.slice_bounds-result-end
slice_bounds-result-end c =
    let n : c.unwrap_or.result ≡ length (before 91 c.args.t.now) = c.unwrap_or.ensures ∙ ap (λ (o : Option ℕ). unwrap_or o (length c.args.t.now)) c.bracket.ensures ∙ placed 91 c.args.t.now in
    rw (n, begins)

pub returns : goal.returns
unfolding name_of
returns c =
    let n : c.unwrap_or.result ≡ length (before 91 c.args.t.now) = c.unwrap_or.ensures ∙ ap (λ (o : Option ℕ). unwrap_or o (length c.args.t.now)) c.bracket.ensures ∙ placed 91 c.args.t.now in
    rw (n, begins, ← c.first.ensures, ne_eqb _ _ c.if-first-eq92.false)
