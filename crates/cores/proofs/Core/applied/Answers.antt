use Rattle.std.proofs.Common.{rules, ◌≡◌, ◌∙◌, length}
use Rattle.bits.proofs.Cond.{cond_ap}
use Rattle.ipi_registers.specs.declared.Cell.TheVariants.{Status, Enable, MailBox}
use Rattle.cores.specs.Cells.{with_enable, with_status}
use Rattle.cores.specs.Core.{applied_of}
use Rattle.cores.proofs.Moved.{taken}
use Rattle.cores.proofs.Own.{own_mail}
use Rattle.cores.proofs.Core.applied.Goals as goal
use Rattle.cores.proofs.Core.applied.Goals.{in-Status, in-Enable, in-MailBox}

pub returns : goal.returns
unfolding applied_of
returns c =
    let a = c.args in
    let k = a.self in
    let four : length k.mail ≡ 4 = search (rules, c.well_formed) in
    elim c.match-cell.branch [
      | in-Status w ↦
          rw w.in-Status.is (taken k four Status _ _ a.own (w.self-is ∙ rw (w.choose.ensures, w.merge-new.ensures) (cond_ap (with_status k) a.own _ k.status)) (rw (w.moved-is, w.merge-new.ensures)) c.choose-2.ensures)
      | in-Enable w ↦
          rw w.in-Enable.is (taken k four Enable _ _ a.own (w.self-is ∙ rw (w.choose-in-Enable.ensures, w.merge-new-in-Enable.ensures) (cond_ap (with_enable k) a.own _ k.enable)) (rw (w.moved-is, w.merge-new-in-Enable.ensures)) c.choose-2.ensures)
      | in-MailBox w ↦
          rw w.in-MailBox.is (taken k four (MailBox _) _ _ a.own (w.self-is ∙ rw (w.put_mailbox-self.ensures, w.choose-in-MailBox.ensures, w.merge-new-in-MailBox.ensures, w.mailbox-old.ensures) (own_mail k a.own _ _)) (rw (w.moved-is, w.choose-moved.ensures, w.merge-new-in-MailBox.ensures, w.mailbox-old.ensures)) c.choose-2.ensures)
    ]
