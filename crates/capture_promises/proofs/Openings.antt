-- The header of a dump: four wires; its end is the first mark, or the end of the text.
use Prim.Native.Nat.{ℕ}
use Prim.Native.Char.{code}
use mathlib.Core.Path.{◌≡◌, refl, sym, ap, ◌∙◌}
use mathlib.Core.Bool.{Bool, true, false, not}
use mathlib.Core.List.{List, [], ◌∷◌, ◌++◌, append-nil, append_assoc}
use native.Mathlib.Omega.{arith}
use borrow.Table.Steps.{cases}
use Rattle.bits.specs.Bits.{bit, word, put}
use Rattle.text.specs.Ascii.{ascii}
use Rattle.numbers.specs.Numbers.{digit_of, separates, formed, value_from, bounded, number_in}
use Rattle.numbers.specs.Printed.{decimal_of}
use Rattle.numbers.proofs.RoundTrip.{formed_digits}
use Rattle.device.specs.declared.Stepped.{Stepped}
use Rattle.capture_tokens.specs.Tokens.{Token, blank, attach, words, placed, tokens_from, index_of}
use Rattle.capture_forms.specs.Forms.{class_of, rules, pick, step_of, next_of, scan_of}
use Rattle.capture_names.specs.Names.{before, name_of, input_of}
use Rattle.capture_header.specs.declared.Field.TheVariants.{Command}
use Rattle.capture_header.specs.declared.Head.{Head}
use Rattle.capture_header.specs.Header as header
use Rattle.capture_header.specs.Header.{declares, at_command, begins}
use Rattle.capture_ids.specs.Ids.{Variable, Header, header_from, header_of, noted, look_from, look_of}
use Rattle.capture_ids.specs.Ids as ids
use Rattle.capture_commands.specs.declared.Event.{Event}
use Rattle.capture_dump.specs.declared.Lines.{Lines}
use Rattle.capture_dump.specs.declared.Time.{Time}
use Rattle.capture_dump.specs.Dump.{opening, lines_text, some_differs, time_text, mark_text, end_text}
use Rattle.std.specs.Prelude.{Option, Some, None}
use Rattle.capture_run.specs.Run.{acted_of, lines_of, dump_from}
use Rattle.capture_times.specs.Times.{ended_of, times_of}
use Rattle.capture_promises.specs.Promises.{nowhere, inputs0to3, wires}
use Rattle.capture_promises.proofs.Tokens.{line_token, digits_solid}
use Rattle.capture_promises.proofs.Lines.{Wires}

-- ---- where the header ends

-- The first token begins no declaration.
abbrev stands : List Token → Bool
stands [] = true
stands (t ∷ ts) = not (declares t.text)

stops : (s : List ℕ) (h : Head) (ts : List Token) → at_command h.field ≡ true → stands ts ≡ true → header_from s h ts ≡ ids.header h [] ts
unfolding header_from begins
stops s h [] c e = refl
stops s h (t ∷ ts) c e = rw (c, e)

mark_stands : (at n : ℕ) (rest : List ℕ) → stands (placed at (words (time_text n ++ rest))) ≡ true
unfolding time_text declares index_of tokens_from placed words attach blank
mark_stands at n rest =
    ap (λ l. stands (placed at (words l))) (append_assoc (code "#" ∷ decimal_of n) (10 ∷ []) rest)
    ∙ ap stands (line_token at (code "#") (decimal_of n) rest (digits_solid false (decimal_of n) (formed_digits 10 (omega arith) (omega arith) n)))

-- Where a time may end.
end_stands : (at : ℕ) (ended : Option Time) (now : Lines) (rest : List ℕ) → stands (placed at (words rest)) ≡ true → stands (placed at (words (end_text ended now ++ rest))) ≡ true
unfolding end_text mark_text
end_stands at None now rest r = r
end_stands at (Some t) now rest r =
    cases (some_differs t.first t.before now)
    (λ e. rw e (ap (λ l. stands (placed at (words l))) (append_assoc (time_text t.time) (lines_text t.first t.before now) rest) ∙ mark_stands at t.time (lines_text t.first t.before now ++ rest)))
    (λ e. rw e r)

dump_stands : (at : ℕ) (es : List Event) (t : Option Time) (now : Stepped) → stands (placed at (words (dump_from es t now))) ≡ true
unfolding dump_from words placed
dump_stands at [] t now =
    ap (λ l. stands (placed at (words l))) (sym (append-nil (end_text t (lines_of now))))
    ∙ end_stands at t (lines_of now) [] refl
dump_stands at (e ∷ es) t now = end_stands at (ended_of t e) (lines_of now) (dump_from es (times_of t (lines_of now) e) (acted_of e now)) (dump_stands at es (times_of t (lines_of now) e) (acted_of e now))

-- ---- the two headers

-- The state after the declarations: the last of them, the inputs that were seen, and the place of the last `$end`.
abbrev head : ℕ → Option ℕ → ℕ → ℕ → Head
head start input seen place = record { field = Command; var = record { wire = true; one = true; start = start; size = 1; form = 17; input = input }; seen = seen; place = place }

abbrev variable : List ℕ → Option ℕ → Variable
variable id input = record { id = id; input = input }

abbrev pub variables : Option ℕ → Option ℕ → Option ℕ → Option ℕ → List Variable
variables a b c d = variable (ascii "a") a ∷ variable (ascii "b") b ∷ variable (ascii "c") c ∷ variable (ascii "d") d ∷ []

-- A header whose declarations are these, and the tokens after it.
pub record Heads (s : List ℕ) (vs : List Variable) (ts : List Token) : Type 0 where
  pub whole : at_command (header_of s).head.field ≡ true
  pub variables : (header_of s).variables ≡ vs
  pub rest : (header_of s).rest ≡ ts

module _ (es : List Event) (t : Option Time) (now : Stepped) where
  abbrev body : List ℕ
  body = dump_from es t now

  pub dump_heads : Heads (opening ++ body) (variables None None None None) (placed 115 (words body))
  unfolding opening header_from blank attach words placed tokens_from index_of class_of rules pick step_of next_of scan_of before name_of input_of declares header.free header.right header.with_input header.declared header.opened header.skipped header.typed header.sized_of header.id_text header.identified header.input_in header.named header.referred header.next_at header.bad_field header.head_next header.in_name at_command header.ends begins digit_of separates formed value_from bounded number_in bit word put
  dump_heads =
      let e = stops (opening ++ body) (head 83 None 0 110) (placed 115 (words body)) refl (dump_stands 115 es t now) in
      record {
        whole = ap (λ (r : Header). at_command r.head.field) e;
        variables = ap (λ (r : Header). variable (ascii "a") None ∷ variable (ascii "b") None ∷ variable (ascii "c") None ∷ variable (ascii "d") None ∷ r.variables) e;
        rest = ap (λ (r : Header). r.rest) e;
      }

  pub wired_heads : Heads (wires ++ body) (variables (Some 0) (Some 1) (Some 2) (Some 3)) (placed 113 (words body))
  unfolding wires header_from blank attach words placed tokens_from index_of class_of rules pick step_of next_of scan_of before name_of input_of declares header.free header.right header.with_input header.declared header.opened header.skipped header.typed header.sized_of header.id_text header.identified header.input_in header.named header.referred header.next_at header.bad_field header.head_next header.in_name at_command header.ends begins digit_of separates formed value_from bounded number_in bit word put
  wired_heads =
      let e = stops (wires ++ body) (head 81 (Some 3) 15 108) (placed 113 (words body)) refl (dump_stands 113 es t now) in
      record {
        whole = ap (λ (r : Header). at_command r.head.field) e;
        variables = ap (λ (r : Header). variable (ascii "a") (Some 0) ∷ variable (ascii "b") (Some 1) ∷ variable (ascii "c") (Some 2) ∷ variable (ascii "d") (Some 3) ∷ r.variables) e;
        rest = ap (λ (r : Header). r.rest) e;
      }

-- ---- what they say of the four ids

pub dump_wires : Wires (look_of (variables None None None None)) nowhere
unfolding look_from noted ids.more_known header.with_input bit word put
dump_wires = record { a = refl; b = refl; c = refl; d = refl }

pub wired_wires : Wires (look_of (variables (Some 0) (Some 1) (Some 2) (Some 3))) inputs0to3
unfolding look_from noted ids.more_known header.with_input bit word put
wired_wires = record { a = refl; b = refl; c = refl; d = refl }
