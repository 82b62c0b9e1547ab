-- The definitions compute: what the tokens of some texts lead to.
use Rattle.std.specs.Prelude.{ℕ, ◌≡◌, refl, List, [], ◌∷◌, map}
use Prim.Native.String.{String}
use Rattle.bits.specs.Bits.{bit, word, put}
use Rattle.text.specs.Ascii.{ascii}
use Rattle.numbers.specs.Numbers.{digit_of, formed, value_from, bounded, number_in}
use Rattle.capture_tokens.specs.Tokens.{Token, blank, attach, words, placed, tokens_from, index_of}
use Rattle.capture_forms.specs.Forms.{class_of, rules, pick, step_of, next_of, scan_of}
use Rattle.capture_names.specs.Names.{before, name_of, input_of}
use Rattle.capture_header.specs.declared.Field.{Field}
use Rattle.capture_header.specs.declared.Field.TheVariants.{Command, Text, Name, Bad}
use Rattle.capture_header.specs.declared.Head.{Head}
use Rattle.capture_header.specs.Header.{head_start, free, right, with_input, declared, opened, skipped, typed, sized_of, id_text, identified, input_in, named, referred, next_at, bad_field, head_next}

-- A text, and the field, the inputs declared and the place after its tokens.
pub record Example : Type 0 where
  pub text : String
  pub field : Field
  pub seen : ℕ
  pub place : ℕ

abbrev example : String → Field → ℕ → ℕ → Example
example text field seen place = record { text = text; field = field; seen = seen; place = place }

unfoldable pub after : Head → List Token → Head
after h [] = h
after h (t ∷ ts) = after (head_next h t) ts

abbrev of : String → Head → Example
of text h = example text h.field h.seen h.place

abbrev pub run : Example → Example
run e = of e.text (after head_start (tokens_from (ascii e.text) 0))

unfoldable pub examples : List Example
examples =
    example "$var wire 1 ! in0 $end" Command 1 18
    -- A size by its value, a reference in four tokens.
    ∷ example "$var wire 01 ! in5 [ 0 ] $end" Command 32 25
    -- An input's size is 1.
    ∷ example "$var wire 2 ! in0 $end" Bad 0 14
    -- An input is declared once; a variable that is no wire may have its name.
    ∷ example "$var wire 1 ! in0 $end $var wire 1 ! in0 $end" Bad 1 37
    ∷ example "$var wire 1 ! in0 $end $var reg 8 % in0 $end" Command 1 40
    -- No input's name.
    ∷ example "$var wire 1 ! in07 $end" Command 0 19
    -- A section ends at `$end` and at nothing else.
    ∷ example "$date a $var foo$end" Text 0 13
    ∷ example "$date a $var foo$end $end" Command 0 21
    -- An id, a reference and the end of the declaration are wanted.
    ∷ example "$var wire 1 $end" Bad 0 12
    ∷ example "$var wire 1 ! 3a $end" Bad 0 14
    ∷ example "$var wire 1 ! in0" Name 0 14
    ∷ []

computed : map run examples ≡ examples
unfolding bit word put digit_of formed value_from bounded number_in blank attach words placed tokens_from index_of class_of rules pick step_of next_of scan_of before name_of input_of free right with_input declared opened skipped typed sized_of id_text identified input_in named referred next_at bad_field head_next after examples
computed = refl
