-- The dump that is written (Q-7; 01, "Capture text").
--   opening    the five fixed lines     line_text   a line's value, where it is to be shown
--   mark_text   a time that ends
use Rattle.std.specs.Prelude.{ℕ, Bool, true, false, cond, not, ◌||◌, Option, Some, None, List, [], ◌∷◌, ◌++◌}
use Prim.Native.Char.{code}
use Rattle.std.specs.Bool.{beq}
use Rattle.text.specs.Ascii.{ascii}
use Rattle.numbers.specs.Printed.{decimal_of}
use Rattle.capture_dump.specs.declared.Lines.{Lines}
use Rattle.capture_dump.specs.declared.Time.{Time}

-- Four declarations and the end of definitions.
unfoldable pub opening : List ℕ
opening =
    ascii "$var wire 1 a ipi0 $end\n"
    ++ ascii "$var wire 1 b ipi1 $end\n"
    ++ ascii "$var wire 1 c br0 $end\n"
    ++ ascii "$var wire 1 d br1 $end\n"
    ++ ascii "$enddefinitions $end\n"

-- A line's value and its id.
unfoldable pub value_text : Bool → ℕ → List ℕ
value_text true id = code "1" ∷ id ∷ ascii "\n"
value_text false id = code "0" ∷ id ∷ ascii "\n"

-- Where a line is to be shown.
unfoldable pub line_text : Bool → Bool → ℕ → List ℕ
line_text shows now id = cond shows (value_text now id) []

-- A line differs from the end of the time before; at the end of the first time all four are shown.
unfoldable pub differs : Bool → Bool → Bool → Bool
differs first before now = first || not (beq before now)

abbrev pub lines_text : Bool → Lines → Lines → List ℕ
lines_text first before now =
    line_text (differs first before.ipi0 now.ipi0) now.ipi0 (code "a")
    ++ (line_text (differs first before.ipi1 now.ipi1) now.ipi1 (code "b")
    ++ (line_text (differs first before.br0 now.br0) now.br0 (code "c")
    ++ line_text (differs first before.br1 now.br1) now.br1 (code "d")))

-- One of the four differs.
unfoldable pub some_differs : Bool → Lines → Lines → Bool
some_differs first before now =
    differs first before.ipi0 now.ipi0 || (differs first before.ipi1 now.ipi1
    || (differs first before.br0 now.br0 || differs first before.br1 now.br1))

-- `#`, the time without leading zeros.
unfoldable pub time_text : ℕ → List ℕ
time_text n = ascii "#" ++ (decimal_of n ++ ascii "\n")

-- A time that ends: nothing where no line differs.
unfoldable pub mark_text : Time → Lines → List ℕ
mark_text t now =
    cond (some_differs t.first t.before now) (time_text t.time ++ lines_text t.first t.before now) []

-- What is written where a time may end.
unfoldable pub end_text : Option Time → Lines → List ℕ
end_text None now = []
end_text (Some t) now = mark_text t now
