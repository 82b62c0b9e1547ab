-- A walk over tokens: none, and one more; and the whole dump.
use Prim.Native.Nat.{ℕ}
use mathlib.Core.Path.{◌≡◌, sym, ap, subst, ◌∙◌}
use mathlib.Core.Bool.{Bool}
use mathlib.Core.List.{List, [], ◌∷◌, ◌++◌}
use Rattle.device.specs.declared.Stepped.{Stepped}
use Rattle.capture_tokens.specs.Tokens.{Token}
use Rattle.std.specs.Prelude.{Option}
use Rattle.capture_commands.specs.declared.State.{State}
use Rattle.capture_commands.specs.declared.Reading.{Reading}
use Rattle.capture_commands.specs.Commands.{id_in, read_of, state_start, state_from, events_from}
use Rattle.capture_dump.specs.Dump.{opening, end_text}
use Rattle.capture_dump.specs.Private.{Emitted}
use Rattle.capture_dump.proofs.Pieces.{join}
use Rattle.capture_dump.specs.declared.Time.{Time}
use Rattle.capture_run.specs.Run.{acted_of, lines_of, last_of, dump_from}
use Rattle.capture_times.specs.Times.{ended_of, times_of, times_start}
use Rattle.capture.specs.declared.Walked.{Walked}
use Rattle.capture.specs.Private.{Walks, Wholes, zero}

module _ (look : List ℕ → Option ℕ) (b : State) (t : Option Time) (now : Stepped) {out : List ℕ} {write : Bool} {p : Option ℕ} {r : Walked} {after : List ℕ} where
  -- No token: the end of the file.
  pub walks_none : r.state ≡ b → r.now ≡ now → Emitted out write p (end_text t (lines_of now)) r.pen after → Walks look [] b t now out write p r after
  unfolding state_from events_from last_of dump_from
  walks_none x y z = record { state = x; last = y; dumped = z }

  pub walks_ended : {ts : List Token} → ts ≡ [] → Walks look [] b t now out write p r after → Walks look ts b t now out write p r after
  walks_ended e w = subst (λ us. Walks look us b t now out write p r after) (sym e) w

  -- One more: what it calls for, then the others.
  module _ (k : Token) (ts : List Token) (read : Reading) (e : read ≡ read_of (look (id_in b.mode k.text)) b k) {q : Option ℕ} {mid : List ℕ}
      (x : Emitted out write p (end_text (ended_of t read.event) (lines_of now)) q mid)
      (y : Walks look ts read.state (times_of t (lines_of now) read.event) (acted_of read.event now) mid write q r after) where
    abbrev dump_one : Reading → List ℕ
    dump_one n = end_text (ended_of t n.event) (lines_of now) ++ dump_from (events_from look n.state ts) (times_of t (lines_of now) n.event) (acted_of n.event now)

    walks_cons : Walks look (k ∷ ts) b t now out write p r after
    unfolding state_from events_from last_of dump_from
    walks_cons = record {
      state = y.state ∙ ap (λ (n : Reading). state_from look n.state ts) e;
      last = y.last ∙ ap (λ (n : Reading). last_of (events_from look n.state ts) (acted_of n.event now)) e;
      dumped = subst (λ (n : Reading). Emitted out write p (dump_one n) r.pen after) e (join x y.dumped);
    }

    pub walks_more : {us : List Token} → us ≡ k ∷ ts → Walks look us b t now out write p r after
    walks_more g = subst (λ vs. Walks look vs b t now out write p r after) (sym g) walks_cons

module _ {look : List ℕ → Option ℕ} {ts : List Token} {first : Stepped} {out : List ℕ} {write : Bool} {q : Option ℕ} {mid : List ℕ} {r : Walked} {after : List ℕ} where
  pub wholes : Emitted out write zero opening q mid → Walks look ts state_start times_start first mid write q r after → Wholes look ts first out write r after
  wholes x y = record { state = y.state; last = y.last; dumped = join x y.dumped }
