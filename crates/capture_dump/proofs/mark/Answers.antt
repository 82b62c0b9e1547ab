use Rattle.std.proofs.Common.{◌++◌, ℕ, List, ap, ◌∙◌}
use Rattle.capture_dump.specs.Dump.{mark_text, time_text, lines_text}
use Rattle.capture_dump.proofs.mark.Goals as goal

pub returns-then-some_differs : goal.returns-then-some_differs
unfolding mark_text
returns-then-some_differs c =
    let t = c.args.t in
    rw (← c.some_differs.ensures, c.if-some_differs.true)
    (c.push_lines.ensures ∙ ap (λ (l : List ℕ). l ++ lines_text t.first t.before c.args.after) (c.push_time.ensures.text ∙ ap (λ (l : List ℕ). l ++ time_text t.time) c.new-m.ensures))

pub returns-else-some_differs : goal.returns-else-some_differs
unfolding mark_text
returns-else-some_differs c = rw (← c.some_differs.ensures, c.if-some_differs.false) c.new-m.ensures
