-- A reader of a lent text.
use Rattle.std.specs.Prelude.{ℕ, List}
use Rattle.std.specs.Borrow.{Bor}
use Rattle.capture_reader.specs.declared.Reader.{Reader}

-- The reader of a text that stands at a place.
abbrev pub reader_at : Bor (List ℕ) → ℕ → Reader
reader_at text at = record { text = text; at = at }
