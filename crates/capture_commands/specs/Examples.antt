-- The definitions compute: what the tokens of some texts call for, where `!` is the id of input 0 and `%` that of no input.
use Rattle.std.specs.Prelude.{ℕ, ◌≡◌, refl, true, false, cond, List, [], ◌∷◌, map, Option, Some, None}
use Prim.Native.String.{String}
use Rattle.text.specs.Ascii.{ascii}
use Rattle.text.specs.Tokens.{same_of}
use Rattle.numbers.specs.Numbers.{digit_of, formed, value_from, bounded, number_in}
use Rattle.capture_tokens.specs.Tokens.{Token, blank, attach, words, placed, tokens_from, index_of}
use Rattle.capture_forms.specs.Forms.{class_of, rules, pick, step_of, next_of, scan_of}
use Rattle.capture_commands.specs.declared.State.{State}
use Rattle.capture_commands.specs.declared.Event.{Event}
use Rattle.capture_commands.specs.declared.Event.TheVariants.{Nothing, Mark, Change}
use Rattle.capture_commands.specs.Commands.{fault_number, outcome_number, scalar, vector, real, id_in, allowed, changed, value_of, earlier, marks_at, timed_of, command_of, comment_of, dumped_of, read_in, refused, read_of, state_start, state_from, events_from, judged}

unfoldable pub look : List ℕ → Option ℕ
look x = cond (same_of x (ascii "!")) (Some 1) (cond (same_of x (ascii "%")) (Some 0) None)

-- A text, the number of the refusal that its end means, the place, and what each token calls for.
pub record Example : Type 0 where
  pub text : String
  pub refusal : ℕ
  pub place : ℕ
  pub events : List Event

abbrev example : String → ℕ → ℕ → List Event → Example
example text refusal place events = record { text = text; refusal = refusal; place = place; events = events }

abbrev of : String → State → List Event → Example
of text b events = example text (outcome_number (judged b.mode)) b.place events

abbrev from : String → List Token → Example
from text ts = of text (state_from look state_start ts) (events_from look state_start ts)

abbrev pub run : Example → Example
run e = from e.text (tokens_from (ascii e.text) 0)

unfoldable pub examples : List Example
examples =
    example "1!" 0 0 (Change 1 true ∷ [])
    -- No value of an input.
    ∷ example "x!" 10 0 (Nothing ∷ [])
    ∷ example "b1 !" 10 3 (Nothing ∷ Nothing ∷ [])
    -- What no input has changes nothing.
    ∷ example "x% b1 %" 0 6 (Change 0 false ∷ Nothing ∷ Change 0 false ∷ [])
    -- An id that is not declared.
    ∷ example "1a" 10 0 (Nothing ∷ [])
    -- Times: equal ones are allowed, earlier ones are not, nor is 2^64.
    ∷ example "#5 0! #5" 0 6 (Mark 5 ∷ Change 1 false ∷ Mark 5 ∷ [])
    ∷ example "#5 #4" 11 3 (Mark 5 ∷ Nothing ∷ [])
    ∷ example "#18446744073709551616" 10 0 (Nothing ∷ [])
    -- The first refusal stands.
    ∷ example "#5 #4 x!" 11 3 (Mark 5 ∷ Nothing ∷ Nothing ∷ [])
    ∷ example "x! #5 #4" 10 0 (Nothing ∷ Nothing ∷ Nothing ∷ [])
    -- Changes alone in a dump, to its `$end`; any word in a comment, to its `$end`.
    ∷ example "$dumpvars 1! $end" 0 13 (Nothing ∷ Change 1 true ∷ Nothing ∷ [])
    ∷ example "$dumpvars $comment $end" 10 10 (Nothing ∷ Nothing ∷ Nothing ∷ [])
    ∷ example "$comment #4 x! $end" 0 15 (Nothing ∷ Nothing ∷ Nothing ∷ Nothing ∷ [])
    ∷ example "$comment #4" 10 9 (Nothing ∷ Nothing ∷ [])
    ∷ []

computed : map run examples ≡ examples
unfolding digit_of formed value_from bounded number_in blank attach words placed tokens_from index_of class_of rules pick step_of next_of scan_of fault_number outcome_number scalar vector real id_in allowed changed value_of earlier marks_at timed_of command_of comment_of dumped_of read_in refused read_of state_from events_from judged look examples
computed = refl
