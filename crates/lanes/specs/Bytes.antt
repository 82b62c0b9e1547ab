-- Byte masks (01, "Private window", Mail_Send) and bits of many bytes.
--   written_bytes   the bytes of a word that a byte mask lets through
--   gathered       those with one bit set, of the bytes that a word picks
--   united         the low bits that some of them have
use Rattle.std.specs.Prelude.{ℕ, ◌*◌, ◌/◌, not, ◌&&◌, List, get_or}
use Rattle.bits.specs.Bits.{bit, word, some}

-- n bytes: mask bit j set means that byte j is not written; the others have all their bits set here
unfoldable pub written_bytes : ℕ → ℕ → ℕ
written_bytes n mask = word (8 * n) (λ i. not (bit mask (i / 8)))

-- of n bytes: bit i is bit k of byte i, where `which` picks it
unfoldable pub gathered : ℕ → List ℕ → ℕ → ℕ → ℕ
gathered n bytes which k = word n (λ i. bit which i && bit (get_or bytes i 0) k)

-- the k low bits of n bytes: bit j is set where some byte that `which` picks has bit j set
unfoldable pub united : ℕ → ℕ → List ℕ → ℕ → ℕ
united k n bytes which = word k (λ j. some n (λ i. bit which i && bit (get_or bytes i 0) j))
