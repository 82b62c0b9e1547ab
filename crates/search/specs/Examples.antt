-- The definitions compute: examples, each closed by computation alone.
use Rattle.std.specs.Prelude.{◌≡◌, refl}
use Rattle.bits.specs.Bits.{bit, first, some}
use Rattle.search.specs.Groups.{by_groups}

-- three groups of five bits: bit 8 is bit 3 of group 1
second_group : by_groups 3 5 (bit 0x4100) ≡ 8
unfolding by_groups first some bit
second_group = refl

no_group : by_groups 3 5 (bit 0) ≡ 15
unfolding by_groups first some bit
no_group = refl
