-- An input step at one source of the bridge; two of them to one level.
--   source_of, source-after   the bits of a source, and those after an input step
--   bridge-commute           two steps to one level, in either order
--   line-up, line-down       an output does not fall where an input is taken to 1, nor rise where it is taken to 0
use Prim.Native.Nat.{ℕ, ◌<◌, ◌^◌}
use mathlib.Core.Path.{◌≡◌, sym, ap, ◌∙◌}
use mathlib.Core.Bool.{Bool, true, false, cond, not, ◌&&◌, ◌||◌}
use lib.Dec.{eqb}
use Rattle.bits.specs.Bits.{bit, put}
use Rattle.bits.specs.Latch.{cleared, falls, latched, risen}
use Rattle.bits.proofs.Some.{some_at, some_of}
use Rattle.bits.proofs.Taut.{taut}
use Rattle.bits.proofs.Words.{bit_word, ext, word_lt}
use Rattle.capture_ids.proofs.Bools.{both}
use Rattle.turns.specs.Turns.{next_turn, shown_on, turns_of}
use Rattle.bridge.specs.declared.Bridge.{Bridge}
use Rattle.bridge.specs.Cells.{with_latch, with_level, with_turn}
use Rattle.bridge.specs.Sources.{drive, drive_word, in_service, line_of, request_at, request_word, route_of}
use Rattle.bridge.specs.Changes.{before_of, input_of, latched_of, levelled_of, settled_of, turned_of}

-- ---- one source

record Source : Type 0 where
  free : Bool  -- neither masked nor sent as a message
  edge : Bool
  soft : Bool
  auto : Bool
  route : ℕ
  level : Bool
  latch : Bool
  turn : Bool

abbrev source_of : Bridge → ℕ → Source
source_of b s = record {
  free = not (bit b.mask s) && not (bit b.msi s);
  edge = bit b.edge s;
  soft = bit b.soft s;
  auto = bit b.auto s;
  route = route_of b s;
  level = bit b.level s;
  latch = bit b.latch s;
  turn = bit b.turn s;
}

-- ---- an input step: x tells whether it is at this source, to which level

abbrev levelled : Bool → Bool → Bool → Bool
levelled x to level = cond x to level

abbrev latches : Bool → Bool → Bool → Bool → Bool → Bool → Bool
latches x to edge soft level latch = cond (edge && (not (level || soft) && (levelled x to level || soft))) true (cond (edge && not edge) false latch)

abbrev requests : Bool → Bool → Bool → Bool → Bool
requests edge soft level latch = cond edge latch (level || soft)

abbrev requests' : Bool → Bool → Bool → Bool → Bool → Bool → Bool
requests' x to edge soft level latch = requests edge soft (levelled x to level) (latches x to edge soft level latch)

abbrev turns : Bool → Bool → Bool → Bool → Bool → Bool → Bool → Bool → Bool → Bool → Bool
turns x to edge soft auto r0 r1 level latch turn = cond (auto && (requests edge soft level latch && not (requests' x to edge soft level latch))) (next_turn r0 r1 turn) turn

abbrev after : Bool → Bool → Source → Source
after x to p = record {
  free = p.free;
  edge = p.edge;
  soft = p.soft;
  auto = p.auto;
  route = p.route;
  level = levelled x to p.level;
  latch = latches x to p.edge p.soft p.level p.latch;
  turn = turns x to p.edge p.soft p.auto (bit p.route 0) (bit p.route 1) p.level p.latch p.turn;
}

module _ (b : Bridge) (i : ℕ) (to : Bool) (s : ℕ) (h : s < 64) where
  abbrev p : Source
  p = source_of b s

  abbrev q : Source
  q = after (eqb s i) to p

  -- before the turns
  abbrev moved : Bridge
  moved = latched_of (before_of b) (levelled_of b i to)

  level_bit : bit moved.level s ≡ q.level
  unfolding latched_of levelled_of put
  level_bit = bit_word 64 _ s h

  drive_before : bit (drive_word b) s ≡ drive b s
  unfolding drive_word
  drive_before = bit_word 64 (drive b) s h

  drive_after : bit (drive_word (levelled_of b i to)) s ≡ (q.level || p.soft)
  unfolding drive_word levelled_of put
  drive_after = bit_word 64 (drive (levelled_of b i to)) s h ∙ ap (λ (l : Bool). l || p.soft) (bit_word 64 _ s h)

  latch_bit : bit moved.latch s ≡ q.latch
  unfolding latched_of levelled_of latched risen cleared
  latch_bit = bit_word 64 _ s h ∙ rw (drive_before, drive_after, bit_word 64 (λ j. cond (falls b.edge b.edge j) false (bit b.latch j)) s h)

  request_before : bit (request_word b) s ≡ request_at b s
  unfolding request_word
  request_before = bit_word 64 (request_at b) s h

  request_after : bit (request_word moved) s ≡ requests q.edge q.soft q.level q.latch
  unfolding request_word latched_of levelled_of
  request_after = bit_word 64 (request_at moved) s h ∙ (λ n. requests p.edge p.soft (level_bit n) (latch_bit n))

  turn_bit : bit (input_of b i to).turn s ≡ q.turn
  unfolding input_of settled_of turned_of turns_of latched_of levelled_of
  turn_bit = bit_word 64 _ s h ∙ (λ n. cond (p.auto && (request_before n && not (request_after n))) (next_turn (bit p.route 0) (bit p.route 1) p.turn) p.turn)

  source_after : source_of (input_of b i to) s ≡ q
  unfolding input_of settled_of turned_of latched_of levelled_of
  source_after = λ n. record {
    free = p.free;
    edge = p.edge;
    soft = p.soft;
    auto = p.auto;
    route = p.route;
    level = level_bit n;
    latch = latch_bit n;
    turn = turn_bit n;
  }

-- ---- two steps to one level

levels_commute : (x y to v : Bool) → levelled y to (levelled x to v) ≡ levelled x to (levelled y to v)
levels_commute = taut 4 _ _ tt

latches_commute : (x y to e o v a : Bool) → latches y to e o (levelled x to v) (latches x to e o v a) ≡ latches x to e o (levelled y to v) (latches y to e o v a)
latches_commute = taut 7 _ _ tt

turns_commute : (x y to e o m r0 r1 v a t : Bool)
    → turns y to e o m r0 r1 (levelled x to v) (latches x to e o v a) (turns x to e o m r0 r1 v a t) ≡ turns x to e o m r0 r1 (levelled y to v) (latches y to e o v a) (turns y to e o m r0 r1 v a t)
turns_commute = taut 11 _ _ tt

source_commute : (x y to : Bool) (p : Source) → after y to (after x to p) ≡ after x to (after y to p)
source_commute x y to p = λ n. record {
  free = p.free;
  edge = p.edge;
  soft = p.soft;
  auto = p.auto;
  route = p.route;
  level = levels_commute x y to p.level n;
  latch = latches_commute x y to p.edge p.soft p.level p.latch n;
  turn = turns_commute x y to p.edge p.soft p.auto (bit p.route 0) (bit p.route 1) p.level p.latch p.turn n;
}

module _ (b : Bridge) (i : ℕ) (to : Bool) where
  level_fits : (input_of b i to).level < 2 ^ 64
  unfolding input_of settled_of turned_of latched_of levelled_of put
  level_fits = word_lt 64 _

  latch_fits : (input_of b i to).latch < 2 ^ 64
  unfolding input_of settled_of turned_of latched_of latched risen
  latch_fits = word_lt 64 _

  turn_fits : (input_of b i to).turn < 2 ^ 64
  unfolding input_of settled_of turned_of turns_of
  turn_fits = word_lt 64 _

module _ (b : Bridge) (to : Bool) where
  abbrev two : ℕ → ℕ → Bridge
  two i j = input_of (input_of b i to) j to

  two_after : (i j s : ℕ) → s < 64 → source_of (two i j) s ≡ after (eqb s j) to (after (eqb s i) to (source_of b s))
  two_after i j s h = source_after (input_of b i to) j to s h ∙ ap (after (eqb s j) to) (source_after b i to s h)

  sources : (i j s : ℕ) → s < 64 → source_of (two i j) s ≡ source_of (two j i) s
  sources i j s h = two_after i j s h ∙ source_commute (eqb s i) (eqb s j) to (source_of b s) ∙ sym (two_after j i s h)

  module _ (i j : ℕ) where
    same_level : (two i j).level ≡ (two j i).level
    same_level = ext 64 (level_fits (input_of b i to) j to) (level_fits (input_of b j to) i to) (λ s h. ap (λ (p : Source). p.level) (sources i j s h))

    same_latch : (two i j).latch ≡ (two j i).latch
    same_latch = ext 64 (latch_fits (input_of b i to) j to) (latch_fits (input_of b j to) i to) (λ s h. ap (λ (p : Source). p.latch) (sources i j s h))

    same_turn : (two i j).turn ≡ (two j i).turn
    same_turn = ext 64 (turn_fits (input_of b i to) j to) (turn_fits (input_of b j to) i to) (λ s h. ap (λ (p : Source). p.turn) (sources i j s h))

    pub bridge_commute : two i j ≡ two j i
    unfolding input_of settled_of turned_of latched_of levelled_of
    bridge_commute = λ n. with_turn (with_latch (with_level b (same_level n)) (same_latch n)) (same_turn n)

-- ---- the outputs

abbrev request_of : Source → Bool
request_of p = requests p.edge p.soft p.level p.latch

abbrev serves : ℕ → Source → Bool
serves k p = (request_of p && p.free) && shown_on p.route p.auto p.turn k

-- where a request stands after a step it did not fall, and its turn stays
stays : (m r n t : Bool) → cond (m && (r && not true)) n t ≡ t
stays = taut 4 _ _ tt

rise : (x e o v a : Bool) → (not (requests e o v a) || requests' x true e o v a) ≡ true
rise = taut 5 _ _ tt

fall : (x e o v a : Bool) → (not (requests' x false e o v a) || requests e o v a) ≡ true
fall = taut 5 _ _ tt

then : (p q : Bool) → (not p || q) ≡ true → p ≡ true → q ≡ true
then p q e h = rw h at e

module _ (k : ℕ) (x : Bool) (p : Source) where
  turn_stays : (to : Bool) → request_of (after x to p) ≡ true → (after x to p).turn ≡ p.turn
  turn_stays to e = rw e (stays p.auto (request_of p) (next_turn (bit p.route 0) (bit p.route 1) p.turn) p.turn)

  abbrev shows : Bool → Bool
  shows turn = shown_on p.route p.auto turn k

  serves_up : serves k p ≡ true → serves k (after x true p) ≡ true
  serves_up e =
      let f = both (request_of p && p.free) (shows p.turn) e in
      let g = both (request_of p) p.free f.0 in
      let r : request_of (after x true p) ≡ true = then _ _ (rise x p.edge p.soft p.level p.latch) g.0 in
      (λ n. (r n && g.1 n) && shows (turn_stays true r n)) ∙ f.1

  serves_down : serves k (after x false p) ≡ true → serves k p ≡ true
  serves_down e =
      let f = both (request_of (after x false p) && p.free) (shows (after x false p).turn) e in
      let g = both (request_of (after x false p)) p.free f.0 in
      let r : request_of p ≡ true = then _ _ (fall x p.edge p.soft p.level p.latch) g.0 in
      (λ n. (r n && g.1 n) && shows (sym (turn_stays false g.0) n)) ∙ f.1

module _ (b : Bridge) (i k : ℕ) where
  pub line_up : line_of b k ≡ true → line_of (input_of b i true) k ≡ true
  unfolding line_of
  line_up e =
      let (s, h, f) = some_at 64 (in_service b k) e in
      some_of 64 (in_service (input_of b i true) k) s h (ap (serves k) (source_after b i true s h) ∙ serves_up k (eqb s i) (source_of b s) f)

  pub line_down : line_of (input_of b i false) k ≡ true → line_of b k ≡ true
  unfolding line_of
  line_down e =
      let (s, h, f) = some_at 64 (in_service (input_of b i false) k) e in
      some_of 64 (in_service b k) s h (serves_down k (eqb s i) (source_of b s) (sym (ap (serves k) (source_after b i false s h)) ∙ f))
