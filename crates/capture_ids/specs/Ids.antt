-- The declarations of a capture's header (R33 and R35 to R37 of docs/DECISIONS.md).
--   header_of    the header's state at its end, the variables that it declares, and the tokens after it
--   look_of      what some declarations say of an id
use Rattle.std.specs.Prelude.{ℕ, cond, List, [], ◌∷◌, length, take, drop, Option, Some, None, unwrap_or}
use Rattle.text.specs.Tokens.{same_of}
use Rattle.capture_tokens.specs.Tokens.{Token, tokens_from}
use Rattle.capture_header.specs.declared.Var.{Var}
use Rattle.capture_header.specs.declared.Head.{Head}
use Rattle.capture_header.specs.Header.{head_start, head_next, ends, begins, with_input}
use Rattle.capture_ids.specs.declared.Headed.{Headed}

-- ---- the variables

-- An id and the input that has it, if one has.
pub record Variable : Type 0 where
  pub id : List ℕ
  pub input : Option ℕ

abbrev pub variable_of : List ℕ → Var → Variable
variable_of s v = record { id = take v.size (drop v.start s); input = v.input }

abbrev pub added : List ℕ → Head → Head → List Variable → List Variable
added s before after vs = cond (ends before.field after.field) (variable_of s before.var ∷ vs) vs

-- ---- the whole header

pub record Header : Type 0 where
  pub head : Head
  pub variables : List Variable
  pub rest : List Token

abbrev pub header : Head → List Variable → List Token → Header
header h vs ts = record { head = h; variables = vs; rest = ts }

unfoldable pub header_from : List ℕ → Head → List Token → Header
header_from s h [] = header h [] []
header_from s h (t ∷ ts) =
    let r = header_from s (head_next h t) ts in
    cond (begins h.field t.text) (header h [] (t ∷ ts)) (header r.head (added s h (head_next h t) r.variables) r.rest)

-- The header of a text.
abbrev pub header_of : List ℕ → Header
header_of s = header_from s head_start (tokens_from s 0)

-- The place of the first of some tokens; the text's length where there is none.
unfoldable pub place_of : List ℕ → List Token → ℕ
place_of s [] = length s
place_of s (t ∷ ts) = t.at

-- The header's state at its end, and the place of the first token after it.
abbrev pub headed_of : List ℕ → Headed
headed_of s = record { head = (header_of s).head; at = place_of s (header_of s).rest }

-- ---- what the declarations say of an id: None where it is not declared, else the inputs that have it, bit i for input i

-- What is known of an id, after one more declaration of it.
unfoldable pub more_known : Option ℕ → Option ℕ → Option ℕ
more_known l input = Some (with_input (unwrap_or l 0) input)

unfoldable pub noted : List ℕ → Option ℕ → Variable → Option ℕ
noted x l v = cond (same_of v.id x) (more_known l v.input) l

unfoldable pub look_from : List ℕ → Option ℕ → List Variable → Option ℕ
look_from x l [] = l
look_from x l (v ∷ vs) = look_from x (noted x l v) vs

abbrev pub look_of : List Variable → List ℕ → Option ℕ
look_of vs x = look_from x None vs
