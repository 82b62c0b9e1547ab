-- The simulation commands of a capture, token by token (R29, R33, R38 and R39 of docs/DECISIONS.md): what each token calls for, and the refusals of the text.
--     command   #TIME, a change, $comment any text $end, or one of `dumps`, then changes, $end
--     change    one of 0 1 x X z Z and the ID in one token; b or B and digits 0 1 x X z Z in one token, then the ID; r or R and a real number, then the ID
-- A mode says what the next token is: Command, the first of a command; Comment, inside one; Dump, a change or the $end of a dump; Id and DumpId, the ID of
-- a vector or a real number, outside a dump and in one; Bad and Late, the text is refused, 10 and 11.
--   id_in        the id that a token carries       read_of       what a token calls for, and the state after it
--   state_from   the state after some tokens       events_from   what they call for
--   judged      the refusal that a mode means
use Rattle.std.specs.Prelude.{ℕ, Bool, true, false, cond, ◌&&◌, ◌||◌, List, [], ◌∷◌, eqb, ltb, get_or, drop, Option, Some, None, Result, Ok, Err, ⊤}
use Prim.Native.Char.{code}
use Rattle.access.specs.Refusal.{bad_text, earlier_time, no_room}
use Rattle.text.specs.Ascii.{ascii}
use Rattle.text.specs.Tokens.{same_of}
use Rattle.numbers.specs.declared.NumberError.{NumberError}
use Rattle.numbers.specs.Numbers.{number_in}
use Rattle.capture_tokens.specs.Tokens.{Token, among, words_of, one_of, is_end}
use Rattle.capture_forms.specs.Forms.{scan_of, vector_start, vector_form, real_start, real_form}
use Rattle.capture_commands.specs.declared.Mode.{Mode}
use Rattle.capture_commands.specs.declared.Mode.TheVariants.{Command, Comment, Dump, Id, DumpId, Bad, Late}
use Rattle.capture_commands.specs.declared.State.{State}
use Rattle.capture_commands.specs.declared.Event.{Event}
use Rattle.capture_commands.specs.declared.Event.TheVariants.{Nothing, Mark, Change}
use Rattle.capture_commands.specs.declared.Reading.{Reading}
use Rattle.capture_commands.specs.declared.Fault.{Fault}
use Rattle.capture_commands.specs.declared.Fault.TheVariants.{BadText, EarlierTime, NoRoom}

-- ---- the outcomes and their numbers

unfoldable pub fault_number : Fault → ℕ
fault_number BadText = bad_text
fault_number EarlierTime = earlier_time
fault_number NoRoom = no_room

unfoldable pub outcome_number : Result ⊤ Fault → ℕ
outcome_number (Ok u) = 0
outcome_number (Err f) = fault_number f

-- 12 comes after the whole file.
unfoldable pub with_room : Result ⊤ Fault → Bool → Result ⊤ Fault
with_room (Ok u) room = cond room (Ok u) (Err NoRoom)
with_room (Err f) room = Err f

unfoldable pub accepted : Result ⊤ Fault → Bool
accepted (Ok u) = true
accepted (Err f) = false

-- ---- the words of a command, and the forms of a value

abbrev pub comment_word : List ℕ
comment_word = ascii "$comment"

abbrev pub dumps : List (List ℕ)
dumps = words_of (ascii "$dumpall $dumpoff $dumpon $dumpvars")

abbrev first : List ℕ → ℕ
first t = get_or t 0 0

-- One of `0 1 x X z Z`, with the id in the same token.
unfoldable pub scalar : List ℕ → Bool
scalar t = among (ascii "01xXzZ") (first t)

-- `b` or `B` and digits, or `r` or `R` and a real number: the id is the next token.
unfoldable pub vector : List ℕ → Bool
vector t = among (ascii "bB") (first t) && vector_form (scan_of vector_start (drop 1 t))

unfoldable pub real : List ℕ → Bool
real t = among (ascii "rR") (first t) && real_form (scan_of real_start (drop 1 t))

-- ---- ids

abbrev pub scalar_id : List ℕ → List ℕ
scalar_id t = cond (scalar t) (drop 1 t) []

-- The id that a token carries; none where it carries none.
unfoldable pub id_in : Mode → List ℕ → List ℕ
id_in Command t = scalar_id t
id_in Comment t = []
id_in Dump t = scalar_id t
id_in Id t = t
id_in DumpId t = t
id_in Bad t = []
id_in Late t = []

-- ---- a token in each mode, where `look` is what the header says of its id: None where it is not declared

-- The next mode.
abbrev pub goes : State → Mode → Reading
goes b m = record { state = record { mode = m; time = b.time; place = b.place }; event = Nothing }

-- Where an input has the id, the value is `0` or `1`.
unfoldable pub allowed : ℕ → ℕ → Bool
allowed inputs c = eqb inputs 0 || among (ascii "01") c

-- A change of an id to the value c, and then the mode m: the id is declared.
unfoldable pub changed : Option ℕ → State → Mode → ℕ → Reading
changed None b m c = goes b Bad
changed (Some inputs) b m c =
    cond (allowed inputs c)
    (record { state = record { mode = m; time = b.time; place = b.place }; event = Change inputs (eqb c (code "1")) })
    (goes b Bad)

-- A token that begins a change; m is the mode after it, and i the mode that waits for the id.
unfoldable pub value_of : Option ℕ → State → Mode → Mode → List ℕ → Reading
value_of l b m i t = cond (scalar t) (changed l b m (first t)) (goes b (cond (vector t || real t) i Bad))

-- A number is below the last mark, if there was one.
unfoldable pub earlier : ℕ → Option ℕ → Bool
earlier n None = false
earlier n (Some time) = ltb n time

-- A mark: never below the one before.
unfoldable pub marks_at : State → ℕ → Reading
marks_at b n =
    cond (earlier n b.time)
    (goes b Late)
    (record { state = record { mode = Command; time = Some n; place = b.place }; event = Mark n })

-- At least one digit, and a number below 2^64.
unfoldable pub timed_of : State → Result ℕ NumberError → Reading
timed_of b (Ok n) = marks_at b n
timed_of b (Err e) = goes b Bad

unfoldable pub command_of : Option ℕ → State → List ℕ → Reading
command_of l b t =
    cond (eqb (first t) (code "#")) (timed_of b (number_in 10 (drop 1 t)))
    (cond (same_of t comment_word) (goes b Comment)
    (cond (one_of dumps t) (goes b Dump)
    (value_of l b Command Id t)))

unfoldable pub comment_of : State → List ℕ → Reading
comment_of b t = goes b (cond (is_end t) Command Comment)

unfoldable pub dumped_of : Option ℕ → State → List ℕ → Reading
dumped_of l b t = cond (is_end t) (goes b Command) (value_of l b Dump DumpId t)

-- A vector or a real number is no value of an input, so that the id that follows it has no `0` or `1`.
abbrev no_scalar : ℕ
no_scalar = 0

unfoldable pub read_in : Mode → Option ℕ → State → List ℕ → Reading
read_in Command l b t = command_of l b t
read_in Comment l b t = comment_of b t
read_in Dump l b t = dumped_of l b t
read_in Id l b t = changed l b Command no_scalar
read_in DumpId l b t = changed l b Dump no_scalar
read_in Bad l b t = goes b Bad
read_in Late l b t = goes b Late

unfoldable pub refused : Mode → Bool
refused Command = false
refused Comment = false
refused Dump = false
refused Id = false
refused DumpId = false
refused Bad = true
refused Late = true

abbrev pub placed_at : State → ℕ → State
placed_at b at = record { mode = b.mode; time = b.time; place = at }

-- The place is that of the last token, or of the first that is refused.
unfoldable pub read_of : Option ℕ → State → Token → Reading
read_of l b t = cond (refused b.mode) (record { state = b; event = Nothing }) (read_in b.mode l (placed_at b t.at) t.text)

-- ---- all tokens

abbrev pub state_start : State
state_start = record { mode = Command; time = None; place = 0 }

-- Where `look` is what the header says of each id.
unfoldable pub state_from : (List ℕ → Option ℕ) → State → List Token → State
state_from look b [] = b
state_from look b (t ∷ ts) = state_from look (read_of (look (id_in b.mode t.text)) b t).state ts

unfoldable pub events_from : (List ℕ → Option ℕ) → State → List Token → List Event
events_from look b [] = []
events_from look b (t ∷ ts) =
    let r = read_of (look (id_in b.mode t.text)) b t in
    r.event ∷ events_from look r.state ts

-- What the mode after the last token means: text that is cut off is not allowed.
unfoldable pub judged : Mode → Result ⊤ Fault
judged Command = Ok tt
judged Comment = Err BadText
judged Dump = Err BadText
judged Id = Err BadText
judged DumpId = Err BadText
judged Bad = Err BadText
judged Late = Err EarlierTime
