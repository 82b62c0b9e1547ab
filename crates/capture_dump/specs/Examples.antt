-- The definitions compute: examples, each closed by computation alone.
use Rattle.std.specs.Prelude.{ℕ, ◌≡◌, refl, Some, None, Bool, true, false, [], ◌∷◌, map}
use Rattle.text.specs.Ascii.{ascii}
use Rattle.text.specs.Buffers.{fits, put_of}
use Rattle.numbers.specs.Printed.{glyph, digits_within, digits_of}
use Rattle.capture_dump.specs.declared.Lines.{Lines}
use Rattle.capture_dump.specs.declared.Time.{Time}
use Rattle.capture_dump.specs.Dump.{value_text, line_text, differs, some_differs, time_text, mark_text}
use Rattle.capture_dump.specs.Pieces.{pen_of, ink_of}

abbrev lines : Bool → Bool → Bool → Bool → Lines
lines a b c d = record { ipi0 = a; ipi1 = b; br0 = c; br1 = d }

abbrev time : ℕ → Bool → Lines → Time
time n first before = record { time = n; first = first; before = before }

-- The first time shows all four, though none differs.
first_time : mark_text (time 5 true (lines false false true false)) (lines false false true false) ≡ ascii "#5\n0a\n0b\n1c\n0d\n"
unfolding mark_text some_differs differs time_text line_text value_text digits_of digits_within glyph
first_time = refl

-- A later one shows the line that differs.
later_time : mark_text (time 7 false (lines false false true false)) (lines false false false false) ≡ ascii "#7\n0c\n"
unfolding mark_text some_differs differs time_text line_text value_text digits_of digits_within glyph
later_time = refl

-- No mark where none differs.
no_mark : mark_text (time 9 false (lines true false true false)) (lines true false true false) ≡ []
unfolding mark_text some_differs differs
no_mark = refl

-- Several digits.
several_digits : mark_text (time 1070 false (lines true false true true)) (lines false true true true) ≡ ascii "#1070\n0a\n1b\n"
unfolding mark_text some_differs differs time_text line_text value_text digits_of digits_within glyph
several_digits = refl

-- `ab` at 1 and at 2 of four bytes, the second the last place where it fits; at 3 it does not.
inks : map (λ at. ink_of (1 ∷ 2 ∷ 3 ∷ 4 ∷ []) true (Some at) (ascii "ab")) (1 ∷ 2 ∷ 3 ∷ []) ≡ (1 ∷ 97 ∷ 98 ∷ 4 ∷ []) ∷ (1 ∷ 2 ∷ 97 ∷ 98 ∷ []) ∷ (1 ∷ 2 ∷ 3 ∷ 4 ∷ []) ∷ []
unfolding ink_of pen_of put_of fits
inks = refl

-- Only measured: the buffer stays.
measures : ink_of (1 ∷ 2 ∷ 3 ∷ 4 ∷ []) false (Some 1) (ascii "ab") ≡ 1 ∷ 2 ∷ 3 ∷ 4 ∷ []
unfolding ink_of pen_of
measures = refl

-- The place after it; a pen that is full stays so.
places : map (λ at. pen_of 4 (Some at) (ascii "ab")) (1 ∷ 2 ∷ []) ≡ Some 3 ∷ Some 4 ∷ []
unfolding pen_of
places = refl

overfull : pen_of 4 (Some 3) (ascii "ab") ≡ None
unfolding pen_of
overfull = refl

stays_full : pen_of 4 None [] ≡ None
unfolding pen_of
stays_full = refl
