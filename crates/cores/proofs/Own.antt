-- An effect on a mailbox that is or is not a core's own: the mailbox takes its new word or keeps the old one.
use Prim.Native.Nat.{ℕ}
use mathlib.Core.Path.{◌≡◌, ap, ◌∙◌}
use mathlib.Core.Bool.{Bool, cond}
use mathlib.Core.List.{List}
use lib.ListN.{get_or, set}
use lib.Seq.{set-get_or}
use Rattle.bits.proofs.Cond.{cond_ap}
use Rattle.cores.specs.declared.Core.{Core}

module _ (c : Core) where
  abbrev with_mail_lem : List ℕ → Core
  with_mail_lem l = record { status = c.status; enable = c.enable; mail = l }

  pub own_mail : (own : Bool) (i new : ℕ) → with_mail_lem (set c.mail i (cond own new (get_or c.mail i 0))) ≡ cond own (with_mail_lem (set c.mail i new)) c
  own_mail own i new =
      cond_ap (λ (w : ℕ). with_mail_lem (set c.mail i w)) own new (get_or c.mail i 0)
      ∙ ap (λ l. cond own (with_mail_lem (set c.mail i new)) (with_mail_lem l)) (set-get_or c.mail i 0)
