-- The header of a capture, token by token (R29, R33 and R35 to R37 of docs/DECISIONS.md):
--     declaration   $var TYPE SIZE ID REFERENCE $end, or a section: one of `sections`, any text, $end
-- A field says what the next token is: Command, the first of a declaration, or of the simulation commands; Text, inside a section; Kind, Size, Id and
-- Name, of a variable's TYPE, SIZE, ID and REFERENCE; Bad, the text is refused.
--   head_start   the state before the first token     head_next   the state after a token
--   ends        a token that ended a declaration     begins     a token that ends the header
use Rattle.std.specs.Prelude.{ℕ, Bool, true, false, cond, not, ◌&&◌, ◌||◌, List, eqb, length, Option, Some, None, Result, Ok, Err}
use Prim.Native.Char.{code}
use Rattle.bits.specs.Bits.{bit, put}
use Rattle.text.specs.Ascii.{ascii}
use Rattle.text.specs.Tokens.{same_of}
use Rattle.numbers.specs.declared.NumberError.{NumberError}
use Rattle.numbers.specs.declared.NumberError.TheVariants.{TooLarge, Malformed}
use Rattle.numbers.specs.Numbers.{number_in}
use Rattle.capture_tokens.specs.Tokens.{Token, words_of, one_of, is_end}
use Rattle.capture_forms.specs.Forms.{bad, next_of, scan_of, id_start, id_form, reference_start, reference_form}
use Rattle.capture_names.specs.Names.{input_of}
use Rattle.capture_header.specs.declared.Field.{Field}
use Rattle.capture_header.specs.declared.Field.TheVariants.{Command, Text, Kind, Size, Id, Name, Bad}
use Rattle.capture_header.specs.declared.Var.{Var}
use Rattle.capture_header.specs.declared.Head.{Head}

-- ---- the words of a header

abbrev pub var_word : List ℕ
var_word = ascii "$var"

abbrev pub wire_word : List ℕ
wire_word = ascii "wire"

abbrev pub sections : List (List ℕ)
sections = words_of (ascii "$comment $date $enddefinitions $scope $timescale $upscope $version")

abbrev pub types : List (List ℕ)
types = words_of (ascii "event integer parameter real realtime reg supply0 supply1 time tri triand trior trireg tri0 tri1 wand wire wor")

-- A token that begins a declaration command.
unfoldable pub declares : List ℕ → Bool
declares t = same_of t var_word || one_of sections t

-- ---- a declaration under way

abbrev pub no_var : Var
no_var = record { wire = false; one = false; start = 0; size = 0; form = bad; input = None }

-- Before the first token.
abbrev pub head_start : Head
head_start = record { field = Command; var = no_var; seen = 0; place = 0 }

-- The next token is of another field.
abbrev pub goes : Head → Field → Head
goes h f = record { field = f; var = h.var; seen = h.seen; place = h.place }

abbrev pub reading : Head → Field → Var → Head
reading h f v = record { field = f; var = v; seen = h.seen; place = h.place }

-- A variable of no input is free to be declared; a named input where it is one bit wide and not yet declared.
unfoldable pub free : Option ℕ → Bool → ℕ → Bool
free None one seen = true
free (Some i) one seen = one && not (bit seen i)

-- Its reference may still have the form.
unfoldable pub right : Var → ℕ → Bool
right v seen = not (eqb v.form bad) && free v.input v.one seen

-- A word with the bit of an input set, if there is one.
unfoldable pub with_input : ℕ → Option ℕ → ℕ
with_input w None = w
with_input w (Some i) = put 64 w i true

-- At its `$end` the variable is declared, if its reference has the form.
unfoldable pub declared : Head → Head
declared h =
    cond (reference_form h.var.form)
    (record { field = Command; var = h.var; seen = with_input h.seen h.var.input; place = h.place })
    (goes h Bad)

-- ---- a token of each field

unfoldable pub opened : Head → List ℕ → Head
opened h t = goes h (cond (same_of t var_word) Kind Text)

-- A section is skipped to its `$end`.
unfoldable pub skipped : Head → List ℕ → Head
skipped h t = goes h (cond (is_end t) Command Text)

-- Only a wire can be a named input.
unfoldable pub typed : Head → List ℕ → Head
typed h t =
    cond (one_of types t)
    (reading h Size (record { wire = same_of t wire_word; one = false; start = 0; size = 0; form = bad; input = None }))
    (goes h Bad)

abbrev pub size_is : Head → Bool → Head
size_is h one = reading h Id (record { wire = h.var.wire; one = one; start = 0; size = 0; form = bad; input = None })

-- Digits, any number of them.
unfoldable pub sized_of : Head → Result ℕ NumberError → Head
sized_of h (Ok n) = size_is h (eqb n 1)
sized_of h (Err TooLarge) = size_is h false
sized_of h (Err Malformed) = goes h Bad

abbrev pub sized : Head → List ℕ → Head
sized h t = sized_of h (number_in 10 t)

-- An id, but `$end`, which always ends the section.
unfoldable pub id_text : List ℕ → Bool
id_text t = not (is_end t) && id_form (scan_of id_start t)

-- The id is kept as its place in the text.
unfoldable pub identified : Head → Token → Head
identified h t =
    cond (id_text t.text)
    (reading h Name (record { wire = h.var.wire; one = h.var.one; start = t.at; size = length t.text; form = reference_start; input = None }))
    (goes h Bad)

-- The first token of a wire's reference has the name.
unfoldable pub input_in : Var → List ℕ → Option ℕ
input_in v t = cond (v.wire && eqb v.form reference_start) (input_of t) v.input

-- White space ends each token of a reference.
abbrev pub longer : Var → List ℕ → Var
longer v t = record {
  wire = v.wire;
  one = v.one;
  start = v.start;
  size = v.size;
  form = next_of (scan_of v.form t) (code " ");
  input = input_in v t;
}

unfoldable pub named : Head → Var → Head
named h v = cond (right v h.seen) (reading h Name v) (goes h Bad)

unfoldable pub referred : Head → List ℕ → Head
referred h t = cond (is_end t) (declared h) (named h (longer h.var t))

unfoldable pub next_at : Field → Head → Token → Head
next_at Command h t = opened h t.text
next_at Text h t = skipped h t.text
next_at Kind h t = typed h t.text
next_at Size h t = sized h t.text
next_at Id h t = identified h t
next_at Name h t = referred h t.text
next_at Bad h t = h

unfoldable pub bad_field : Field → Bool
bad_field Command = false
bad_field Text = false
bad_field Kind = false
bad_field Size = false
bad_field Id = false
bad_field Name = false
bad_field Bad = true

abbrev pub placed_at : Head → ℕ → Head
placed_at h at = record { field = h.field; var = h.var; seen = h.seen; place = at }

-- The place is that of the last token, or of the first that is bad.
unfoldable pub head_next : Head → Token → Head
head_next h t = cond (bad_field h.field) h (placed_at (next_at h.field h t) t.at)

-- ---- between two tokens

unfoldable pub in_name : Field → Bool
in_name Command = false
in_name Text = false
in_name Kind = false
in_name Size = false
in_name Id = false
in_name Name = true
in_name Bad = false

unfoldable pub at_command : Field → Bool
at_command Command = true
at_command Text = false
at_command Kind = false
at_command Size = false
at_command Id = false
at_command Name = false
at_command Bad = false

-- A token between two states ended a declaration.
unfoldable pub ends : Field → Field → Bool
ends before after = in_name before && at_command after

-- The token begins no declaration where one could stand: it is the first of the simulation commands.
unfoldable pub begins : Field → List ℕ → Bool
begins f t = at_command f && not (declares t)
