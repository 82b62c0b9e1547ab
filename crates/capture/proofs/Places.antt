-- The place of a refusal lies in the text, or at its end; so a replay from a place on can count it in the whole text.
use Prim.Native.Nat.{ℕ, zero, suc, ◌+◌, ◌≤◌}
use mathlib.Core.Path.{◌≡◌, refl, sym, subst}
use mathlib.Core.Bool.{Bool, true, false, cond}
use mathlib.Core.List.{List, [], ◌∷◌}
use native.Mathlib.Omega.{arith}
use borrow.Author.Tests.{eqb-true, eqb-false}
use lib.Dec.{eqb}
use lib.ListN.{length, drop, get_or}
use Prim.Native.Char.{code}
use Rattle.text.specs.Tokens.{same_of}
use Rattle.std.specs.Prelude.{Option, Some, None, Result, Ok, Err}
use Rattle.numbers.specs.declared.NumberError.{NumberError}
use Rattle.numbers.specs.Numbers.{number_in}
use Rattle.capture_tokens.specs.Tokens.{Token, tokens_from, token_of, one_of, is_end}
use Rattle.capture_tokens.proofs.Tokens.{token_none, token_some, past_the_end}
use Rattle.capture_header.specs.declared.Head.{Head}
use Rattle.capture_header.specs.Header.{head_start, head_next, bad_field, begins}
use Rattle.capture_ids.specs.Ids.{Header, header_from, header_of}
use Rattle.capture_commands.specs.declared.Mode.{Mode}
use Rattle.capture_commands.specs.declared.Mode.TheVariants.{Command, Comment, Dump, Id, DumpId, Bad, Late}
use Rattle.capture_commands.specs.declared.State.{State}
use Rattle.capture_commands.specs.declared.Reading.{Reading}
use Rattle.capture_commands.specs.Commands.{scalar, allowed, comment_word, dumps, id_in, changed, value_of, earlier, marks_at, timed_of, command_of, comment_of, dumped_of, read_in, refused, read_of, state_start, state_from}
use Rattle.capture.specs.Replay.{says, headed, end_of, text_place}

-- What holds of both holds of the one that is chosen.
chosen : {A : Type 0} (P : A → Type 0) (b : Bool) {x y : A} → P x → P y → P (cond b x y)
chosen P true p q = p
chosen P false p q = q

-- ---- tokens

-- Each of some tokens stands at n or before.
abbrev Within : ℕ → List Token → Type 0
Within n [] = Unit {0}
Within n (t ∷ ts) = (t.at ≤ n) × Within n ts

tokens_within : (k : ℕ) (s : List ℕ) (at : ℕ) → length s ≤ at + k → Within (length s) (tokens_from s at)
tokens_within zero s at h = subst (Within (length s)) (sym (past_the_end s at (omega arith))) tt
tokens_within (suc k) s at h = by (eqb (token_of s at).start (token_of s at).end) refl (λ i l. tokens_within k s i l)
  where
    by : (t : Bool) → eqb (token_of s at).start (token_of s at).end ≡ t → ((i : ℕ) → length s ≤ i + k → Within (length s) (tokens_from s i)) → Within (length s) (tokens_from s at)
    by true e more = subst (Within (length s)) (sym (token_none s at (token_of s at) refl (eqb-true (token_of s at).start (token_of s at).end e))) tt
    by false e more =
        let f = token_some s at (token_of s at) refl (eqb-false (token_of s at).start (token_of s at).end e) in
        subst (Within (length s)) (sym f.first) (omega (arith, f.ordered, f.inside), more (token_of s at).end (omega (arith, f.further)))

module _ (n : ℕ) where
  -- ---- the header

  next_within : (h : Head) (t : Token) → h.place ≤ n → t.at ≤ n → (head_next h t).place ≤ n
  unfolding head_next
  next_within h t p q = chosen (λ (g : Head). g.place ≤ n) (bad_field h.field) p q

  header_within : (s : List ℕ) (h : Head) (ts : List Token) → h.place ≤ n → Within n ts → ((header_from s h ts).head.place ≤ n) × Within n (header_from s h ts).rest
  unfolding header_from
  header_within s h [] p w = (p, tt)
  header_within s h (t ∷ ts) p w =
      let r = header_within s (head_next h t) ts (next_within h t p w.0) w.1 in
      chosen (λ (g : Header). (g.head.place ≤ n) × Within n g.rest) (begins h.field t.text) (p, w) r

  -- ---- the commands: a token leaves the place that it is given

  abbrev Kept : Reading → Type 0
  Kept r = r.state.place ≤ n

  module _ (l : Option ℕ) (b : State) (p : b.place ≤ n) where
    changed_within : (m : Mode) (c : ℕ) → Kept (changed l b m c)
    unfolding changed
    changed_within m c = by l
      where
        by : (l : Option ℕ) → Kept (changed l b m c)
        by None = p
        by (Some inputs) = chosen Kept (allowed inputs c) p p

    value_within : (m i : Mode) (t : List ℕ) → Kept (value_of l b m i t)
    unfolding value_of
    value_within m i t = chosen Kept (scalar t) (changed_within m (get_or t 0 0)) p

    marks_within : (k : ℕ) → Kept (marks_at b k)
    unfolding marks_at
    marks_within k = chosen Kept (earlier k b.time) p p

    timed_within : (k : Result ℕ NumberError) → Kept (timed_of b k)
    unfolding timed_of
    timed_within (Ok k) = marks_within k
    timed_within (Err e) = p

    command_within : (t : List ℕ) → Kept (command_of l b t)
    unfolding command_of
    command_within t =
        chosen Kept (eqb (get_or t 0 0) (code "#")) (timed_within (number_in 10 (drop 1 t)))
        (chosen Kept (same_of t comment_word) p (chosen Kept (one_of dumps t) p (value_within Command Id t)))

    read_in_within : (m : Mode) (t : List ℕ) → Kept (read_in m l b t)
    unfolding read_in comment_of dumped_of
    read_in_within Command t = command_within t
    read_in_within Comment t = p
    read_in_within Dump t = chosen Kept (is_end t) p (value_within Dump DumpId t)
    read_in_within Id t = changed_within Command 0
    read_in_within DumpId t = changed_within Dump 0
    read_in_within Bad t = p
    read_in_within Late t = p

  read_within : (l : Option ℕ) (b : State) (t : Token) → b.place ≤ n → t.at ≤ n → Kept (read_of l b t)
  unfolding read_of
  read_within l b t p q = chosen Kept (refused b.mode) p (read_in_within l (record { mode = b.mode; time = b.time; place = t.at }) q b.mode t.text)

  state_within : (look : List ℕ → Option ℕ) (b : State) (ts : List Token) → b.place ≤ n → Within n ts → (state_from look b ts).place ≤ n
  unfolding state_from
  state_within look b [] p w = p
  state_within look b (t ∷ ts) p w =
      let r = read_of (look (id_in b.mode t.text)) b t in
      state_within look r.state ts (read_within (look (id_in b.mode t.text)) b t p w.0) w.1

-- ---- the whole text

pub place_within : (s : List ℕ) → text_place s ≤ length s
unfolding text_place
place_within s =
    let n = length s in
    let h = header_within n s head_start (tokens_from s 0) (omega arith) (tokens_within n s 0 (omega arith)) in
    let end : n ≤ n = omega arith in
    chosen (λ (k : ℕ). k ≤ n) (headed s)
    (chosen (λ (k : ℕ). k ≤ n) (refused (end_of s).mode) (state_within n (says s) state_start (header_of s).rest (omega arith) h.1) end)
    (chosen (λ (k : ℕ). k ≤ n) (bad_field (header_of s).head.field) h.0 end)
