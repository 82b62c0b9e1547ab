use Rattle.std.proofs.Common.{◌≡◌, true, false, rules}
use Rattle.std.proofs.lemmas.Iterator.{first_from_Range}
use Rattle.bits.specs.Bits.{bit}
use Rattle.bits.proofs.Tests.{tests}
use Rattle.search.proofs.Found.{found_first}
use Rattle.search.proofs.lowest_in.Goals as goal

pub returns : goal.returns
returns c =
    let f = bit c.args.group in
    found_first 8 f c.find.result
    (first_from_Range _ _ _ c.find.result (λ j. f j ≡ true) (λ j. f j ≡ false) c.find.ensures.ran
    (λ x q k. search (rules, tests)) (λ x q k. search (rules, tests)))
