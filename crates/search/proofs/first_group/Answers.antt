use Rattle.std.proofs.Common.{◌≡◌, ℕ, Bool, true, false, rules}
use Rattle.std.proofs.lemmas.Iterator.{first_from_Range}
use Rattle.bits.specs.Bits.{bit, some}
use Rattle.bits.proofs.Tests.{tests}
use Rattle.search.specs.Groups.{in_group}
use Rattle.search.proofs.Found.{found_first}
use Rattle.search.proofs.first_group.Goals as goal

pub returns : goal.returns
returns c =
    let f : ℕ → Bool = λ g. some 8 (in_group 8 (bit c.args.w) g) in
    found_first 8 f c.find.result
    (first_from_Range _ _ _ c.find.result (λ g. f g ≡ true) (λ g. f g ≡ false) c.find.ensures.ran
    (λ x q k. search (rules, tests)) (λ x q k. search (rules, tests)))
