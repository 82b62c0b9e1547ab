-- The table's rule is computed at its 128 entries, and above them at 128 more.
use Rattle.std.proofs.Common.{◌≡◌, ℕ, ◌+◌, ◌-◌, ◌<◌, refl, arith, rules}
use Rattle.bits.proofs.Below.{agree_below}
use Rattle.capture_forms.specs.Forms.{class_of}
use Rattle.capture_forms.proofs.Table.{entry}
use Rattle.capture_forms.proofs.class.Goals as goal

above : (c : ℕ) → 127 < c → c < 256 → 0 ≡ class_of c
unfolding class_of
above c l h = let e : c ≡ 128 + (c - 128) = omega arith in rw e (agree_below 128 (λ k. 0) (λ k. class_of (128 + k)) refl (c - 128) (omega arith))

pub returns-then-c-gt127 : goal.returns-then-c-gt127
returns-then-c-gt127 c = above c.args.c c.if-c-gt127.true (search rules)

pub overflow_sub-result : goal.overflow_sub-result
unfolding class_of
overflow_sub-result c = let h : c.args.c < 128 = omega arith in rw (entry (λ k. 64 + class_of k), h) (omega arith)

pub returns : goal.returns
unfolding class_of
returns c = let h : c.args.c < 128 = omega arith in rw (entry (λ k. 64 + class_of k), h) (omega arith)
